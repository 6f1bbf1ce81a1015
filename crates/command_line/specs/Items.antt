-- The command line as items: an option with its value is one, and each other word is one. Assumes nothing.
use Rattle.std.specs.Prelude.{ℕ, Bool, cond, List, [], ◌∷◌, map, filter, Some, None, Option, is_some, unwrap_or, String, string_bytes, ◌==◌, slice_index}
use Rattle.std.specs.declared.alloc.Global.{Global}
use Rattle.command_line.specs.declared.items.Item.{Item}
use Rattle.command_line.specs.declared.items.Items.{Items}

-- a word, as its bytes
abbrev pub Text : Type 0
Text = List ℕ

-- the words as they were typed
abbrev pub texts : List (String Global) → List Text
texts words = map string_bytes words

-- a word that begins with a dash, byte 45
abbrev pub dashed : Text → Bool
dashed w = slice_index w 0 == 45

-- what an item is, and its text
pub record Said (K : Type 0) : Type 0 where
  pub kind : K
  pub text : Text

abbrev pub said : {K : Type 0} → K → Text → Said K
said k t = record { kind = k; text = t }

-- the last word: an option with a value lacks it
abbrev pub last_said : {K : Type 0} → (K → Option K) → K → Text → Said K
last_said lacking k w = said (unwrap_or (lacking k) k) w

-- the items that words make, from what each word is, and what an option is that lacks its value
abbrev pub items : {K : Type 0} → (Text → K) → (K → Option K) → List Text → List (Said K)
items kind_of lacking [] = []
items kind_of lacking (w ∷ []) = last_said lacking (kind_of w) w ∷ []
items kind_of lacking (w ∷ v ∷ ws) = cond (is_some (lacking (kind_of w))) (said (kind_of w) v ∷ items kind_of lacking ws) (said (kind_of w) w ∷ items kind_of lacking (v ∷ ws))

-- an item of the code, with its text by its bytes
abbrev pub seen : {K : Type 0} → Item K → Said K
seen i = said i.kind i.text.now

-- the words, and the items, that are still to come
abbrev pub words_left : {K : Type 0} → Items K → List Text
words_left i = texts i.words.now

abbrev pub items_left : {K : Type 0} → (Text → K) → (K → Option K) → Items K → List (Said K)
items_left kind_of lacking i = items kind_of lacking (words_left i)

-- the items of a kind, in their order
abbrev pub of_kind : {K : Type 0} → (K → K → Bool) → K → List (Said K) → List (Said K)
of_kind same k is = filter (λ i. same i.kind k) is

-- the text of the first of some items
abbrev pub first_of : {K : Type 0} → List (Said K) → Option Text
first_of [] = None
first_of (i ∷ is) = Some i.text

-- the texts of the items of a kind, in their order
abbrev pub texts_of : {K : Type 0} → (K → K → Bool) → K → List (Said K) → List Text
texts_of same k is = map (λ i. i.text) (of_kind same k is)
