-- What a source tells of an instrument, by the type of entitlement that its kind is.
use Rattle.std.proofs.Common.{◌≡◌, ℕ, Some, None, refl, ap}
use Rattle.std.specs.Option.{option_map}
use Rattle.return_source.specs.Meaning.{Meaning, covered, numbers_of}
use Rattle.return_source.specs.declared.terms.EntitlementType.{EntitlementType}
use Rattle.return_source.specs.declared.terms.EntitlementType.TheVariants as entitlement
use Rattle.ledger.specs.declared.terms.Kind.{Kind}
use Rattle.ledger.specs.declared.terms.Kind.TheVariants.{Stock, Dsp, Sri, Div}
use Rattle.margin_rules.specs.Charges.{entitlement_of}
use Rattle.margin_rules.specs.Answers.{is_covered}
use Rattle.margin.specs.EntitlementTypes.{entitlement_type}

pub covered_is : (m : Meaning) (k : Kind) (x : ℕ) → covered m x (entitlement_type k) ≡ is_covered m k x
covered_is m Stock x = refl
covered_is m Dsp x = refl
covered_is m Sri x = refl
covered_is m Div x = refl

pub of_no_type : (m : Meaning) (k : Kind) (x : ℕ) → entitlement_type k ≡ None → None ≡ option_map numbers_of (entitlement_of m k x)
of_no_type m Stock x e = refl
of_no_type m Dsp x e = absurd (cc)
of_no_type m Sri x e = absurd (cc)
of_no_type m Div x e = absurd (cc)

pub of_type : (m : Meaning) (k : Kind) (x : ℕ) (t : EntitlementType) → entitlement_type k ≡ Some t → option_map numbers_of (m.entitlement t x) ≡ option_map numbers_of (entitlement_of m k x)
of_type m Stock x t e = absurd (cc)
of_type m Dsp x t e = let s : t ≡ entitlement.Dsp = cc in ap (λ u. option_map numbers_of (m.entitlement u x)) s
of_type m Sri x t e = let s : t ≡ entitlement.Sri = cc in ap (λ u. option_map numbers_of (m.entitlement u x)) s
of_type m Div x t e = let s : t ≡ entitlement.Div = cc in ap (λ u. option_map numbers_of (m.entitlement u x)) s
