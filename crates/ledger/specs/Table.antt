-- The places of a table: what a post or a cancel of a number leaves there. A table is seen as the list of its used
-- places, in the order in which they were taken. Assumes nothing.
use Rattle.std.specs.Prelude.{ℕ, ◌+◌, Bool, true, cond, not, ◌&&◌, ◌==◌, List, [], ◌∷◌, Some, None, Option, find, filter_map}
use Rattle.std.specs.List.{list_all}
use Rattle.ledger.specs.declared.terms.Entry.{Entry}
use Rattle.ledger.specs.declared.terms.Place.{Place}
use Rattle.ledger.specs.declared.terms.Place.TheVariants.{Free, Live, Cancelled}
use Rattle.ledger.specs.Entries.{numbered, stocked, sized}

-- the number that a place is kept for; 0, which no entry bears, where it is free
abbrev pub number_of_place : Place → ℕ
number_of_place Free = 0
number_of_place (Live n e) = n
number_of_place (Cancelled n) = n

abbrev pub is_of : ℕ → Place → Bool
is_of n p = number_of_place p == n

abbrev pub is_other : ℕ → Place → Bool
is_other n p = not (is_of n p)

-- the place of a number
abbrev pub found : ℕ → List Place → Option Place
found n t = find (is_of n) t

-- a post takes a place, if there is room, unless its number has one
abbrev pub posted : Bool → ℕ → Entry → List Place → List Place
posted room n e [] = cond room (Live n e ∷ []) []
posted room n e (p ∷ t) = cond (is_of n p) (p ∷ t) (p ∷ posted room n e t)

-- a cancel marks the place of its number, or takes one if there is room
abbrev pub cancelled : Bool → ℕ → List Place → List Place
cancelled room n [] = cond room (Cancelled n ∷ []) []
cancelled room n (p ∷ t) = cond (is_of n p) (Cancelled n ∷ t) (p ∷ cancelled room n t)

-- the live entry of a place
abbrev pub entry_at : Place → Option Entry
entry_at Free = None
entry_at (Live n e) = Some e
entry_at (Cancelled n) = None

-- the live entries, numbers aside
abbrev pub entries : List Place → List Entry
entries t = filter_map entry_at t

abbrev pub one_live : Place → ℕ
one_live Free = 0
one_live (Live n e) = 1
one_live (Cancelled n) = 0

-- an entry within the limits
abbrev pub sound_entry : Entry → Bool
sound_entry e = stocked e.instrument.stock && sized e.quantity e.contract_value e.market_value

abbrev pub sound_place : Place → Bool
sound_place Free = true
sound_place (Live n e) = numbered n && sound_entry e
sound_place (Cancelled n) = numbered n

-- every entry and every number of a table is within the limits
abbrev pub sound : List Place → Bool
sound t = list_all sound_place t

-- how many entries are live
abbrev pub live_count : List Place → ℕ
live_count [] = 0
live_count (p ∷ t) = one_live p + live_count t
