-- The kinds of instrument that are entitlements. Assumes nothing.
use Rattle.std.specs.Prelude.{Some, None, Option}
use Rattle.return_source.specs.declared.terms.EntitlementType.{EntitlementType}
use Rattle.return_source.specs.declared.terms.EntitlementType.TheVariants as entitlement
use Rattle.ledger.specs.declared.terms.Kind.{Kind}
use Rattle.ledger.specs.declared.terms.Kind.TheVariants.{Stock, Dsp, Sri, Div}

-- the type of entitlement that a kind is, if it is one
abbrev pub entitlement_type : Kind → Option EntitlementType
entitlement_type Stock = None
entitlement_type Dsp = Some entitlement.Dsp
entitlement_type Sri = Some entitlement.Sri
entitlement_type Div = Some entitlement.Div
