-- The command line as items: an option with its value is one, and each other word is one. Assumes nothing.
use Rattle.std.specs.Prelude.{List, map, Option}
use Rattle.command_line.specs.declared.items.Item.{Item}
use Rattle.command_line.specs.declared.items.Items.{Items}
use Rattle.command_line.specs.Items as line
use Rattle.margin_desk.specs.declared.kinds.Kind.{Kind}
use Rattle.margin_desk.specs.declared.kinds.Kind.TheVariants.{Journal}
use Rattle.margin_desk.specs.declared.journals.Journals.{Journals}
use Rattle.margin_desk.specs.Words.{Text, same_kind, lacking, kind_of}

-- what an item is, and its text
abbrev pub Said : Type 0
Said = line.Said Kind

abbrev pub said : Kind → Text → Said
said k t = line.said k t

-- the last word: an option that takes a value lacks it
abbrev pub last_said : Kind → Text → Said
last_said k w = line.last_said lacking k w

-- the items that words make
abbrev pub items : List Text → List Said
items ws = line.items kind_of lacking ws

-- an item of the code, with its text by its bytes
abbrev pub seen : Item Kind → Said
seen i = line.seen i

-- the words, and the items, that are still to come
abbrev pub words_left : Items Kind → List Text
words_left i = line.words_left i

abbrev pub items_left : Items Kind → List Said
items_left i = items (words_left i)

-- the items of a kind, in their order
abbrev pub of_kind : Kind → List Said → List Said
of_kind k is = line.of_kind same_kind k is

-- the text of the first of some items
abbrev pub first_of : List Said → Option Text
first_of is = line.first_of is

-- the names of the journals
abbrev pub journals_in : List Said → List Text
journals_in is = map (λ i. i.text) (of_kind Journal is)

abbrev pub journals_of : List Text → List Text
journals_of ws = journals_in (items ws)

abbrev pub journals_left : Journals → List Text
journals_left j = journals_in (items_left j.left)
