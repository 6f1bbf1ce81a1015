-- The derived equality of kinds is that of their numbers. Assumes nothing.
use Rattle.std.specs.Prelude.{◌≡◌, refl}
use denote.Enum.Declared.{tag_of}
use Rattle.margin_desk.specs.declared.kinds.Kind.{Kind}
use Rattle.margin_desk.specs.declared.kinds.Kind.TheVariants.{Csv, Trace, Help, Rpf, Fallback, Settings, Places, Holdings, Lacking, Unknown, Journal}
use Rattle.margin_desk.specs.contracts.kinds.Kind.{the_type}
use Rattle.margin_desk.specs.contracts.kinds.KindPartialEq.TheImpl as derived
use Rattle.margin_desk.specs.Words.{kind_number, same_kind}

tag_is_number : (k : Kind) → tag_of the_type k ≡ kind_number k
tag_is_number Csv = refl
tag_is_number Trace = refl
tag_is_number Help = refl
tag_is_number Rpf = refl
tag_is_number Fallback = refl
tag_is_number Settings = refl
tag_is_number Places = refl
tag_is_number Holdings = refl
tag_is_number Lacking = refl
tag_is_number Unknown = refl
tag_is_number Journal = refl

pub same_kind_is_eq : (k j : Kind) → (derived.ghosts).eq k j ≡ same_kind k j
same_kind_is_eq k j = Prim.rw (tag_is_number k, tag_is_number j) refl
