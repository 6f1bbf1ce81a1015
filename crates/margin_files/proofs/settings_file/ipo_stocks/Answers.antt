use Rattle.std.proofs.Common.{◌≡◌, ◌+◌, ◌≤◌, ◌<◌, w64, set, sym, arith, rules}
use mir.Val.{SFits}
use Rattle.std.proofs.lemmas.Int.{to_z-of_z}
use Rattle.std.specs.Iterator.Adapters.{enumerate_source, enumerate_count, take_source, take_count}
use Rattle.parameter_text.specs.Left.{cells_left}
use Rattle.margin_files.specs.Numbers.{in_u32}
use Rattle.margin_files.specs.declared.settings_file.TheConstants.{MOST_IPO}
use Rattle.margin_files.proofs.IpoSteps.{Placed, placed_none, placed_more}
use Rattle.margin_files.proofs.settings_file.ipo_stocks.Goals as goal

pub loop-place-init : goal.loop-place-init
loop-place-init c = let none = placed_none (cells_left c.args.cells) in search rules

pub loop-place-preserved : goal.loop-place-preserved
loop-place-preserved c =
    let stock = c.in_ok-whole_number.field-0 in
    let fits : SFits w64 c.in_ok-whole_number.field-0 = search rules in
    let is : c.in_u32.result ≡ in_u32 c.in_ok-whole_number.field-0 = grind (arith, to_z-of_z, c.in_u32.ensures) in
    let steps = c.in-Some.ensures.steps in
    let within : enumerate_count c.loop-place.place-iterator < MOST_IPO = search rules in
    let next : Placed (cells_left c.args.cells) (cells_left (take_source (enumerate_source c.next.new.self))) (set c.loop-place.stocks c.in-Some.place c.in_u32.result) (enumerate_count c.next.new.self) =
    rw (steps.1, steps.2) (placed_more (cells_left c.args.cells) _ (cells_left (take_source (enumerate_source c.next.new.self))) c.in-Some.cell.now c.loop-place.stocks (enumerate_count c.loop-place.place-iterator) c.loop-place.invariant.4 steps.0.0 stock c.in_u32.result (omega (arith, within)) (sym c.in_ok-whole_number.ensures) is) in
    let left : take_count (enumerate_source c.next.new.self) + enumerate_count c.next.new.self ≡ MOST_IPO + 1 = omega (arith, steps.0.1, steps.2, c.loop-place.invariant.2) in
    let few : enumerate_count c.next.new.self ≤ MOST_IPO = omega (arith, steps.2, within) in
    search rules
