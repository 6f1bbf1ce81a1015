-- Which bytes lay down which file: a heading, and then a line for each row. A row has its stock and its field type, the
-- cells that its type needs, and after them only empty cells. No row comes after one of its stock and kind, and a stock
-- with returns has them in both sets and no flat rate. Assumes nothing.
use Rattle.std.specs.Prelude.{◌≡◌, ℕ, ◌<◌, ◌≤◌, Bool, true, false, List, [], ◌∷◌, ◌++◌, length, replicate, ℤ, pos, neg_ℤ, is_some, Ok, ◌≢◌, unsigned_abs}
use Rattle.std.specs.List.{AllByRecursion}
use Rattle.parameter_text.specs.Cuts.{lines, spliced}
use Rattle.parameter_text.specs.Decimals.{Spells}
use Rattle.parameter_text.specs.Integers.{Writes, WritesStock}
use Rattle.parameter_rows.specs.Returns.{SpellReturns}
use Rattle.return_source.specs.declared.terms.Entitlement.{Entitlement}
use Rattle.return_source.specs.declared.terms.EntitlementType.{EntitlementType}
use Rattle.return_source.specs.declared.terms.EntitlementType.TheVariants.{Dsp, Sri, Div}
use Rattle.return_source.specs.declared.terms.Parameters.{Parameters}
use Rattle.return_source.specs.declared.terms.ScenarioSet.{ScenarioSet}
use Rattle.return_source.specs.declared.terms.ScenarioSet.TheVariants.{Historical, Stress}
use Rattle.parameter_heading.specs.Laid.{LaysHeading}
use Rattle.file_rules.specs.Rows.{Content, returns, rate, right, unread, Row, File, returns_in, rate_in, right_in, first_in}
use Rattle.return_source.specs.Lawful.{scenario_count}
use Rattle.file_rules.specs.Judged.{most_bytes, stock_places, verdict}

-- a cell has no comma
abbrev pub Cell : List ℕ → Type 0
Cell c = AllByRecursion (λ x. x ≢ 44) c

abbrev pub set_number : ScenarioSet → ℕ
set_number Historical = 1
set_number Stress = 2

abbrev pub type_number : EntitlementType → ℕ
type_number Dsp = 1
type_number Sri = 2
type_number Div = 3

-- these bytes spell a percentage of this size, -4 to 4
abbrev pub SpellsSize : List ℕ → ℕ → Type 0
SpellsSize c n = (v : ℤ) × Spells 4 (neg_ℤ (pos 40000)) (pos 40000) c v × (unsigned_abs v ≡ n)

-- the cells of a row of returns: one for each scenario
pub record LaysReturns (p : Parameters) (number : ℕ) (cs : List (List ℕ)) (w : ScenarioSet) (vs : List ℤ) (needed : List (List ℕ)) (spare : ℕ) : Type 0 where
  pub type : number ≡ set_number w
  pub text : cs ≡ needed ++ replicate spare []
  pub many : length needed ≡ scenario_count p w
  pub spelled : SpellReturns needed vs

-- the cell of a flat rate
pub record LaysRate (number : ℕ) (cs : List (List ℕ)) (n : ℕ) (c : List ℕ) (spare : ℕ) : Type 0 where
  pub type : number ≡ 3
  pub text : cs ≡ c ∷ replicate spare []
  pub spelled : Spells 4 (pos 0) (pos 10000) c (pos n)

-- the four cells of an entitlement
pub record LaysRight (number : ℕ) (cs : List (List ℕ)) (t : EntitlementType) (e : Entitlement) (a p s l : List ℕ) (spare : ℕ) : Type 0 where
  pub type : number ≡ 7
  pub text : cs ≡ a ∷ p ∷ s ∷ l ∷ replicate spare []
  pub kind : Writes 1 3 a (type_number t)
  pub price : Spells 4 (pos 0) (pos 99990000) p (pos e.price)
  pub short : SpellsSize s e.short
  pub long : SpellsSize l e.long

-- the cells after stock and field type, by what the row holds
abbrev pub LaysContent : Parameters → ℕ → List (List ℕ) → Content → Type 0
LaysContent p number cs (returns w vs) = (needed : List (List ℕ)) × (spare : ℕ) × LaysReturns p number cs w vs needed spare
LaysContent p number cs (rate n) = (c : List ℕ) × (spare : ℕ) × LaysRate number cs n c spare
LaysContent p number cs (right t e) = (a : List ℕ) × (q : List ℕ) × (s : List ℕ) × (l : List ℕ) × (spare : ℕ) × LaysRight number cs t e a q s l spare
LaysContent p number cs unread = (4 ≤ number) × (number ≤ 6)

pub record RowText (p : Parameters) (line : List ℕ) (r : Row) (c d : List ℕ) (cs : List (List ℕ)) (number : ℕ) : Type 0 where
  pub text : line ≡ spliced 44 (c ∷ d ∷ cs)
  pub apart : AllByRecursion Cell (c ∷ d ∷ cs)
  pub stock : WritesStock c r.stock
  pub type : Writes 1 7 d number
  pub content : LaysContent p number cs r.content

-- this line lays down this row
abbrev pub LaysRow : Parameters → List ℕ → Row → Type 0
LaysRow p line r = (c : List ℕ) × (d : List ℕ) × (cs : List (List ℕ)) × (number : ℕ) × RowText p line r c d cs number

-- a line for each row
abbrev pub LaysRows : Parameters → List (List ℕ) → List Row → Type 0
LaysRows p [] [] = Unit {0}
LaysRows p [] (r ∷ rs) = ⊥
LaysRows p (l ∷ ls) [] = ⊥
LaysRows p (l ∷ ls) (r ∷ rs) = LaysRow p l r × LaysRows p ls rs

-- is the second row of the kind of the first: returns of one set, a flat rate, an entitlement of one type
abbrev pub alike : Content → Content → Bool
alike (returns w xs) x = is_some (returns_in w x)
alike (rate n) x = is_some (rate_in x)
alike (right t e) x = is_some (right_in t x)
alike unread x = false

-- none of the rows done has this row's stock and kind
abbrev pub NoneAlike : List Row → Row → Type 0
NoneAlike done r = AllByRecursion (λ (q : Row). q.stock ≡ r.stock → alike r.content q.content ≢ true) done

-- each row is the first of its stock and kind
abbrev pub Firsts : List Row → List Row → Type 0
Firsts done [] = Unit {0}
Firsts done (r ∷ rs) = NoneAlike done r × Firsts (done ++ r ∷ []) rs

-- a stock has returns in both sets or in none, and with them no flat rate
pub record Fit (rows : List Row) (s : ℕ) : Type 0 where
  pub sets : is_some (first_in (returns_in Historical) rows s) ≡ is_some (first_in (returns_in Stress) rows s)
  pub alone : is_some (first_in (returns_in Historical) rows s) ≡ true → is_some (first_in rate_in rows s) ≡ false

pub record FileText (bytes : List ℕ) (f : File) (rest : List (List ℕ)) : Type 0 where
  pub some : 1 ≤ length bytes
  pub few : length bytes ≤ most_bytes
  pub heading : LaysHeading (lines bytes) f.heading rest
  pub rows : LaysRows f.heading.parameters rest f.rows
  pub firsts : Firsts [] f.rows
  pub fit : (s : ℕ) → s < stock_places → Fit f.rows s

-- these bytes lay down this file
abbrev pub LaysDown : List ℕ → File → Type 0
LaysDown bytes f = (rest : List (List ℕ)) × FileText bytes f rest

-- A file passes exactly where its bytes lay one down, and means that.
abbrev pub FilesPass : Type 0
FilesPass = (bytes : List ℕ) (f : File) → (verdict bytes ≡ Ok f → LaysDown bytes f) × (LaysDown bytes f → verdict bytes ≡ Ok f)
