-- A day, request by request.
use Rattle.std.proofs.Common.{◌≡◌, ℕ, suc, ◌+◌, ◌-◌, ◌<◌, ◌≤◌, Bool, true, false, cond, List, [], ◌∷◌, length, get_or, take, drop, replicate, Some, None, Option, Ok, Result, sym, ap, ◌∙◌, subst, arith}
use Rattle.std.proofs.lemmas.List.{at_drop_more, at_drop_all, drop-drop, drop-replicate, length-take-le}
use Rattle.return_source.specs.Meaning.{Meaning}
use Rattle.ledger.specs.declared.terms.Entry.{Entry}
use Rattle.ledger.specs.declared.terms.Place.{Place}
use Rattle.ledger.specs.declared.terms.Place.TheVariants.{Free, Cancelled}
use Rattle.ledger.specs.declared.terms.Settings.{Settings}
use Rattle.ledger.specs.declared.terms.OpeningRefusal.{OpeningRefusal}
use Rattle.ledger.specs.Table.{is_of, posted, cancelled}
use Rattle.ledger.specs.Calls.{Call, Step, post, cancel, step_of, has_room, stepped, after_step, after, runs}
use Rattle.margin.specs.declared.requests.Request.{Request}
use Rattle.margin.specs.Days.{call_of, calls_of, Sheets, served, sheets_left, Holds, TableAtEnd}

-- no step takes a place away
posted_long : (r : Bool) (n : ℕ) (e : Entry) (t : List Place) → length t ≤ length (posted r n e t)
posted_long r n e [] = omega arith
posted_long r n e (p ∷ t) = go (is_of n p) (posted_long r n e t)
  where
    go : (b : Bool) → length t ≤ length (posted r n e t) → suc (length t) ≤ length (cond b (p ∷ t) (p ∷ posted r n e t))
    go true h = omega arith
    go false h = omega arith

cancelled_long : (r : Bool) (n : ℕ) (t : List Place) → length t ≤ length (cancelled r n t)
cancelled_long r n [] = omega arith
cancelled_long r n (p ∷ t) = go (is_of n p) (cancelled_long r n t)
  where
    go : (b : Bool) → length t ≤ length (cancelled r n t) → suc (length t) ≤ length (cond b (Cancelled n ∷ t) (p ∷ cancelled r n t))
    go true h = omega arith
    go false h = omega arith

stepped_long : (cap : ℕ) (s : Step) (t : List Place) → length t ≤ length (stepped cap s t)
stepped_long cap (post n e) t = posted_long (has_room cap t) n e t
stepped_long cap (cancel n) t = cancelled_long (has_room cap t) n t

-- and no call
after_long : (cap : ℕ) (c : Call) (t : List Place) → length t ≤ length (after cap c t)
after_long cap c t = go (step_of c)
  where
    go : (o : Option Step) → length t ≤ length (after_step cap o t)
    go None = omega arith
    go (Some s) = stepped_long cap s t

-- what a day keeps, ahead of its request i: what is left to do leaves what the whole day leaves
pub record Going (m : Meaning) (s : Settings) (cap : ℕ) (rs : List Request) (i : ℕ) (first : Sheets) (table : List Place) (used : ℕ) (now : Settings) (h : Sheets) : Type 0 where
  pub run : runs cap (calls_of (drop i rs)) (take used table) ≡ runs cap (calls_of rs) []
  pub sheets : sheets_left m s cap (calls_of (drop i rs)) (take used table) h ≡ sheets_left m s cap (calls_of rs) [] first
  pub size : length table ≡ cap
  pub within : used ≤ cap
  pub same : now ≡ s
  pub free : drop used table ≡ replicate (cap - used) Free

module _ (m : Meaning) (s : Settings) (cap : ℕ) (rs : List Request) (i : ℕ) (first : Sheets) where
  pub going_more : (table new : List Place) (used used' : ℕ) (now next : Settings) (h h' : Sheets) (d : Request) → i < length rs →
      take used' new ≡ after (length table) (call_of (get_or rs i d)) (take used table) → length new ≡ length table → used' ≤ length new → next ≡ now → drop used' new ≡ drop used' table →
      h' ≡ served m now (call_of (get_or rs i d)) (take used table) h → Going m s cap rs i first table used now h → Going m s cap rs (i + 1) first new used' next h'
  going_more table new used used' now next h h' d l p n w e r q g =
      let c = call_of (get_or rs i d) in
      let t = take used table in
      let is : take used' new ≡ after cap c t = p ∙ ap (λ k. after k c t) g.size in
      let sh : h' ≡ served m s c t h = q ∙ ap (λ x. served m x c t h) g.same in
      let long : used ≤ used' = omega (arith, after_long cap c t, ap length is, length-take-le used table (omega (arith, g.size, g.within)), length-take-le used' new w) in
      let up : used + (used' - used) ≡ used' = omega arith in
      let less : cap - used - (used' - used) ≡ cap - used' = omega arith in
      record {
        run = ap (runs cap (calls_of (drop (i + 1) rs))) is ∙ sym (at_drop_more (λ l. runs cap (calls_of l) t) rs i d l) ∙ g.run;
        sheets = (λ j. sheets_left m s cap (calls_of (drop (i + 1) rs)) (is j) (sh j)) ∙ sym (at_drop_more (λ l. sheets_left m s cap (calls_of l) t h) rs i d l) ∙ g.sheets;
        size = n ∙ g.size;
        within = omega (arith, n, g.size, w);
        same = e ∙ g.same;
        free = r ∙ ap (λ j. drop j table) (sym up) ∙ sym (drop-drop (used' - used) used table) ∙ ap (drop (used' - used)) g.free ∙ drop-replicate (used' - used) (cap - used) Free ∙ ap (λ j. replicate j Free) less;
      }

  pub going_run : (table : List Place) (used : ℕ) (now : Settings) (h : Sheets) → length rs ≤ i → Going m s cap rs i first table used now h → take used table ≡ runs cap (calls_of rs) []
  going_run table used now h l g = sym (at_drop_all (λ l. runs cap (calls_of l) (take used table)) rs i l) ∙ g.run

  pub going_sheets : (table : List Place) (used : ℕ) (now : Settings) (h : Sheets) → length rs ≤ i → Going m s cap rs i first table used now h → h ≡ sheets_left m s cap (calls_of rs) [] first
  going_sheets table used now h l g = sym (at_drop_all (λ l. sheets_left m s cap (calls_of l) (take used table) h) rs i l) ∙ g.sheets

  pub going_holds : (table : List Place) (used : ℕ) (now : Settings) (h : Sheets) → length rs ≤ i → Going m s cap rs i first table used now h → Holds (runs cap (calls_of rs) []) cap table
  going_holds table used now h l g =
      let e = going_run table used now h l g in
      let n : length (runs cap (calls_of rs) []) ≡ used = ap length (sym e) ∙ length-take-le used table (omega (arith, g.size, g.within)) in
      record { front = ap (λ k. take k table) n ∙ e; rest = ap (λ k. drop k table) n ∙ g.free ∙ ap (λ k. replicate (cap - k) Free) (sym n) }

pub table_at_end : (x : Result (Unit {0}) OpeningRefusal) (t : List Place) (old new now : List Place) → x ≡ Ok tt → new ≡ now → Holds t (length old) now → TableAtEnd x t old new
table_at_end x t old new now o e h = subst (λ y. TableAtEnd y t old new) (sym o) (subst (Holds t (length old)) (sym e) h)
