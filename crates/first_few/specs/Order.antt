-- What stands in order, and when a comparison tells an order.
use Rattle.std.specs.Prelude.{◌≡◌, Bool, false, List, [], ◌∷◌, ⊤}
use Rattle.std.specs.declared.cmp.Ordering.{Ordering}
use Rattle.std.specs.Ordering.{is_lt}
use Rattle.std.specs.Coded.{×_prop, Unit-prop}
use Rattle.std.specs.List.{AllByRecursion, AllByRecursion-prop}
use Rattle.std.proofs.Math.Bool.{Bool-set}
use Rattle.amounts.specs.FirstFew.{Strict}

-- the lesser of two stands ahead, and of two that are not the same just one does
pub record ComparesBy {X : Type 0} (cmp : X → X → Ordering) (before : X → X → Bool) : Type 0 where
  pub less : (x y : X) → is_lt (cmp x y) ≡ before x y
  pub strict : Strict before

-- none stands ahead of one that comes earlier
abbrev pub InOrder : {X : Type 0} → (X → X → Bool) → List X → Type 0
InOrder before [] = ⊤
InOrder before (x ∷ xs) = AllByRecursion (λ y. before y x ≡ false) xs × InOrder before xs

-- it holds in one way
pub in_order_prop : {X : Type 0} (before : X → X → Bool) (xs : List X) → IsProp (InOrder before xs)
in_order_prop before [] = Unit-prop
in_order_prop before (x ∷ xs) = ×_prop (AllByRecursion-prop _ (λ y. Bool-set _ _) xs) (in_order_prop before xs)
