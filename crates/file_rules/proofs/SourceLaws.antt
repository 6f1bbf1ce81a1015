-- What a file that passes lays down is lawful as a return source: what is said of each row carries over to the first
-- row of a stock and kind, and stocks beyond 99,999 have none. Assumes nothing.
use Rattle.std.proofs.Common.{◌≡◌, ℕ, suc, ◌<◌, ◌≤◌, Bool, true, false, cond, eqb, List, [], ◌∷◌, length, ℤ, is_some, Some, None, Ok, Option, pos, neg_ℤ, nat_abs, ◌≤ℤ◌, sym, refl, ap, ◌∙◌, subst, ⊎_elim, arith}
use Rattle.std.specs.Prelude.{IfSome}
use Rattle.std.specs.List.{AllByRecursion as All}
use Rattle.std.proofs.lemmas.Bool.{false≢true, eqb-true, cases_Bool}
use borrow.Author.Differences.{ints}
use Rattle.parameter_rows.specs.Returns.{SpellReturns}
use Rattle.return_source.specs.declared.terms.EntitlementType.{EntitlementType}
use Rattle.return_source.specs.declared.terms.Parameters.{Parameters}
use Rattle.return_source.specs.declared.terms.ScenarioSet.{ScenarioSet}
use Rattle.return_source.specs.declared.terms.ScenarioSet.TheVariants.{Historical, Stress}
use Rattle.return_source.specs.Lawful.{scenario_count, LawfulRow, LawfulEntitlement, Stock, Lawful}
use Rattle.parameter_heading.proofs.ValueLaws.{at_most}
use Rattle.parameter_heading.proofs.HeadingLaws.{lays_sound}
use Rattle.parameter_text.specs.Cuts.{lines}
use Rattle.file_rules.specs.Rows.{Content, returns, rate, right, unread, Row, File, returns_in, rate_in, right_in, or_else, first_in, same_type, meaning}
use Rattle.file_rules.specs.Judged.{stock_places, verdict}
use Rattle.file_rules.specs.Laid.{SpellsSize, LaysContent, LaysRow, LaysRows, LaysDown}
use Rattle.file_rules.proofs.FileLaws.{passes_down}

-- what a row holds is within its ranges
abbrev LawfulContent : Parameters → Content → Type 0
LawfulContent p (returns w vs) = LawfulRow (scenario_count p w) vs
LawfulContent p (rate n) = n ≤ 10000
LawfulContent p (right t e) = LawfulEntitlement e
LawfulContent p unread = Unit {0}

record LawfulLine (p : Parameters) (r : Row) : Type 0 where
  stock : Stock r.stock
  content : LawfulContent p r.content

-- each row

size_at_most : (v : ℤ) (n top : ℕ) → neg_ℤ (pos top) ≤ℤ v → v ≤ℤ pos top → nat_abs v ≡ n → n ≤ top
size_at_most v n top low high e = omega (arith, ints)

spelled_size : (c : List ℕ) (n : ℕ) → SpellsSize c n → n ≤ 40000
spelled_size c n (v, s, e) = size_at_most v n 40000 s.3.at_least s.3.at_most e

spelled_small : (cs : List (List ℕ)) (vs : List ℤ) → SpellReturns cs vs → All (λ z. nat_abs z ≤ 400000000) vs
spelled_small [] [] s = tt
spelled_small [] (v ∷ vs) s = absurd s
spelled_small (c ∷ cs) [] s = absurd s
spelled_small (c ∷ cs) (v ∷ vs) s = (size_at_most v (nat_abs v) 400000000 s.0.3.at_least s.0.3.at_most refl, spelled_small cs vs s.1)

as_many : (cs : List (List ℕ)) (vs : List ℤ) → SpellReturns cs vs → length cs ≡ length vs
as_many [] [] s = refl
as_many [] (v ∷ vs) s = absurd s
as_many (c ∷ cs) [] s = absurd s
as_many (c ∷ cs) (v ∷ vs) s = ap (λ (n : ℕ). suc n) (as_many cs vs s.1)

content_lawful : (p : Parameters) (number : ℕ) (cs : List (List ℕ)) (x : Content) → LaysContent p number cs x → LawfulContent p x
content_lawful p number cs (returns w vs) (needed, spare, l) = record {
  long = sym (as_many needed vs l.spelled) ∙ l.many;
  small = spelled_small needed vs l.spelled;
}
content_lawful p number cs (rate n) (c, spare, l) = at_most n 10000 l.spelled.3.at_most
content_lawful p number cs (right t e) (a, q, s, d, spare, l) = record {
  price = at_most e.price 99990000 l.price.3.at_most;
  short = spelled_size s e.short l.short;
  long = spelled_size d e.long l.long;
}
content_lawful p number cs unread l = tt

row_lawful : (p : Parameters) (line : List ℕ) (r : Row) → LaysRow p line r → LawfulLine p r
row_lawful p line r (c, d, cs, number, t) = record {
  stock = record { some = t.stock.number_of.at_least; few = t.stock.number_of.at_most };
  content = content_lawful p number cs r.content t.content;
}

rows_lawful : (p : Parameters) (ls : List (List ℕ)) (rs : List Row) → LaysRows p ls rs → All (LawfulLine p) rs
rows_lawful p [] [] l = tt
rows_lawful p [] (r ∷ rs) l = absurd l
rows_lawful p (x ∷ ls) [] l = absurd l
rows_lawful p (x ∷ ls) (r ∷ rs) l = (row_lawful p x r l.0, rows_lawful p ls rs l.1)

-- the first row of a stock and kind

module _ {X : Type 0} (f : Content → Option X) where
  or_else_some : (P : X → Type 0) (o q : Option X) → IfSome o P → IfSome q P → IfSome (or_else o q) P
  or_else_some P None q h k = k
  or_else_some P (Some x) q h k = h

  if_some : (P : X → Type 0) (b : Bool) (o : Option X) → IfSome o P → IfSome (cond b o None) P
  if_some P true o h = h
  if_some P false o h = tt

  -- what holds of what each row gives holds of what the first one gives
  first_holds : (P : X → Type 0) (rows : List Row) (s : ℕ) → All (λ (r : Row). IfSome (f r.content) P) rows → IfSome (first_in f rows s) P
  first_holds P [] s h = tt
  first_holds P (r ∷ rs) s h = or_else_some P (cond (eqb r.stock s) (f r.content) None) (first_in f rs s) (if_some P (eqb r.stock s) (f r.content) h.0) (first_holds P rs s h.1)

  -- a stock that has a row is a stock
  first_stock : (p : Parameters) (rows : List Row) (s : ℕ) → All (LawfulLine p) rows → is_some (first_in f rows s) ≡ true → Stock s
  first_stock p [] s h e = absurd (false≢true e)
  first_stock p (r ∷ rs) s h e =
      elim (eqb r.stock s) as (λ t. eqb r.stock s ≡ t → is_some (or_else (cond t (f r.content) None) (first_in f rs s)) ≡ true → Stock s) [
        | true ↦ λ q _. subst Stock (eqb-true r.stock s q) h.0.stock
        | false ↦ λ _ d. first_stock p rs s h.1 d
      ]
      refl
      e

returns_given : (p : Parameters) (w : ScenarioSet) (x : Content) → LawfulContent p x → IfSome (returns_in w x) (LawfulRow (scenario_count p w))
returns_given p Historical (returns Historical vs) h = h
returns_given p Historical (returns Stress vs) h = tt
returns_given p Stress (returns Historical vs) h = tt
returns_given p Stress (returns Stress vs) h = h
returns_given p w (rate n) h = tt
returns_given p w (right t e) h = tt
returns_given p w unread h = tt

rate_given : (p : Parameters) (x : Content) → LawfulContent p x → IfSome (rate_in x) (λ r. r ≤ 10000)
rate_given p (returns w vs) h = tt
rate_given p (rate n) h = h
rate_given p (right t e) h = tt
rate_given p unread h = tt

given_if : {X : Type 0} (P : X → Type 0) (b : Bool) (x : X) → P x → IfSome (cond b (Some x) None) P
given_if P true x h = h
given_if P false x h = tt

right_given : (p : Parameters) (t : EntitlementType) (x : Content) → LawfulContent p x → IfSome (right_in t x) LawfulEntitlement
right_given p t (returns w vs) h = tt
right_given p t (rate n) h = tt
right_given p t (right u e) h = given_if LawfulEntitlement (same_type t u) e h
right_given p t unread h = tt

each_given : {X : Type 0} (f : Content → Option X) (P : X → Type 0) (p : Parameters) (rows : List Row) → ((x : Content) → LawfulContent p x → IfSome (f x) P) → All (LawfulLine p) rows → All (λ (r : Row). IfSome (f r.content) P) rows
each_given f P p [] g h = tt
each_given f P p (r ∷ rs) g h = (g r.content h.0.content, each_given f P p rs g h.1)

-- the rows of a stock

-- two tests that agree on stocks and fail elsewhere agree
module _ (a b : ℕ → Bool) (within : (s : ℕ) → a s ≡ true → Stock s) (too : (s : ℕ) → b s ≡ true → Stock s) where
  same_everywhere : ((s : ℕ) → s < stock_places → a s ≡ b s) → (s : ℕ) → a s ≡ b s
  same_everywhere h s =
      ⊎_elim
      (λ (e : a s ≡ true). let k = within s e in h s (omega (arith, k.few)))
      (λ (e : a s ≡ false).
      ⊎_elim
      (λ (d : b s ≡ true). let k = too s d in h s (omega (arith, k.few)))
      (λ (d : b s ≡ false). e ∙ sym d)
      (cases_Bool (b s)))
      (cases_Bool (a s))

-- what bytes lay down is lawful
pub down_lawful : (bytes : List ℕ) (f : File) → LaysDown bytes f → Lawful (meaning f)
down_lawful bytes f (rest, t) =
    let p = f.heading.parameters in
    let rows = rows_lawful p rest f.rows t.rows in
    let stocks = λ (w : ScenarioSet) (s : ℕ). first_stock (returns_in w) p f.rows s rows in
    record {
      parameters = lays_sound (lines bytes) rest f.heading t.heading;
      rows = λ w s. first_holds (returns_in w) _ f.rows s (each_given (returns_in w) _ p f.rows (returns_given p w) rows);
      rates = λ s. first_holds rate_in _ f.rows s (each_given rate_in _ p f.rows (rate_given p) rows);
      entitlements = λ u s. first_holds (right_in u) _ f.rows s (each_given (right_in u) _ p f.rows (right_given p u) rows);
      row_stocks = stocks;
      rate_stocks = λ s. first_stock rate_in p f.rows s rows;
      entitlement_stocks = λ u s. first_stock (right_in u) p f.rows s rows;
      both_rows = same_everywhere (λ s. is_some (first_in (returns_in Historical) f.rows s)) (λ s. is_some (first_in (returns_in Stress) f.rows s)) (stocks Historical) (stocks Stress) (λ s l. (t.fit s l).sets);
      no_rate = λ s e. let k = stocks Historical s e in (t.fit s (omega (arith, k.few))).alone e;
    }

-- a file that passes is lawful as a return source
pub passes_lawful : (bytes : List ℕ) (f : File) → verdict bytes ≡ Ok f → Lawful (meaning f)
passes_lawful bytes f h = down_lawful bytes f (passes_down bytes f h)
