use Rattle.std.proofs.Common.{◌≡◌, ℕ, ◌+◌, ◌-◌, ◌*◌, ◌^◌, ◌≤◌, List, length, take, sym, ap, ◌∙◌, subst, arith, rules}
use Rattle.std.specs.List.{AllByRecursion as All}
use Rattle.std.proofs.ByRecursion.{All-take}
use Rattle.std.proofs.lemmas.List.{length-take}
use Rattle.parameter_text.specs.Digits.{Digit, number}
use Rattle.parameter_text.proofs.DecimalSteps.{whole_product, fraction_product, small_whole_part, digits_whole_product, digits_fraction_product, same_unit, take_least}
use Rattle.parameter_text.proofs.decimals.size_of.Goals as goal

whole_small : (c : goal.After-power) → c.number_of.result * c.power.result ≤ 2300000000000000
whole_small c = subst (λ (u : ℕ). c.number_of.result * u ≤ 2300000000000000) (sym c.power.ensures.value) (whole_product _ _ _ c.requires.four c.requires.places c.number_of.ensures.bound)

pub overflow_mul-units : goal.overflow_mul-units
overflow_mul-units c = let w = whole_small c in search rules

few_digits : (c : goal.After-power-2) → length (take c.min.result c.args.fraction.now) ≤ c.args.places
few_digits c =
    let f = c.args.fraction.now in
    omega (arith, ap length (ap (λ (k : ℕ). take k f) c.min.ensures ∙ take_least c.args.places f), length-take c.args.places f)

rest_small : (c : goal.After-power-2) → c.number_of-2.result * c.power-2.result ≤ 230000000000
rest_small c = subst (λ (u : ℕ). c.number_of-2.result * u ≤ 230000000000) (sym c.power-2.ensures.value) (fraction_product _ _ _ (few_digits c) c.requires.places c.number_of-2.ensures.bound)

pub overflow_mul-rest : goal.overflow_mul-rest
overflow_mul-rest c = let r = rest_small c in search rules

units_small : (c : goal.After-power-2) → c.number_of.result * c.power.result ≤ 2300000000000000
units_small c = subst (λ (u : ℕ). c.number_of.result * u ≤ 2300000000000000) (sym c.power.ensures.value) (whole_product _ _ _ c.requires.four c.requires.places c.number_of.ensures.bound)

pub overflow_add-result : goal.overflow_add-result
overflow_add-result c = let r = rest_small c in let w = units_small c in search rules

digits_whole : (c : goal.After-power-2) → All Digit c.args.whole.now → c.number_of.result * c.power.result ≤ 100000000000000
digits_whole c a = digits_whole_product _ _ (small_whole_part _ _ c.requires.four (c.number_of.ensures.digits a)) c.power.ensures.bound

digits_rest : (c : goal.After-power-2) → All Digit c.args.fraction.now → c.number_of-2.result * c.power-2.result ≤ 10000000000
digits_rest c b =
    subst (λ (u : ℕ). c.number_of-2.result * u ≤ 10000000000) (sym c.power-2.ensures.value)
    (digits_fraction_product _ _ _ (few_digits c) c.requires.places (c.number_of-2.ensures.digits (All-take Digit c.min.result c.args.fraction.now b)))

pub returns : goal.returns
returns c =
    let r = rest_small c in
    let w = units_small c in
    let p = c.args.places in
    let whole = c.args.whole.now in
    let f = c.args.fraction.now in
    let digits = take c.min.result f in
    let taken : digits ≡ take p f = ap (λ (k : ℕ). take k f) c.min.ensures ∙ take_least p f in
    record {
      value = ap (λ (x : ℕ). x * c.power.result + c.number_of-2.result * c.power-2.result) c.number_of.ensures.value
          ∙ ap (λ (x : ℕ). number 0 whole * x + c.number_of-2.result * c.power-2.result) c.power.ensures.value
          ∙ ap (λ (x : ℕ). number 0 whole * 10 ^ p + x * c.power-2.result) c.number_of-2.ensures.value
          ∙ ap (λ (x : ℕ). number 0 whole * 10 ^ p + number 0 digits * x) c.power-2.ensures.value
          ∙ ap (λ (l : List ℕ). number 0 whole * 10 ^ p + number 0 l * 10 ^ (p - length l)) taken
          ∙ ap (λ (k : ℕ). number 0 whole * 10 ^ p + number 0 (take p f) * 10 ^ k) (same_unit p f);
      bound = omega (arith, r, w);
      digits = λ a b.
          let s : c.number_of-2.result * c.power-2.result ≤ 10000000000 = digits_rest c b in
          let v : c.number_of.result * c.power.result ≤ 100000000000000 = digits_whole c a in
          omega arith;
    }
