-- The answer, from the questions in their order.
use Rattle.std.proofs.Common.{◌≡◌, true, length, sym, ◌∙◌, arith}
use Rattle.margin_rules.specs.Positions.{all_stocks, gross_of, book}
use Rattle.margin_rules.specs.Answers.{fits}
use Rattle.margin.specs.Assessing.{room_of}
use Rattle.margin.proofs.Sizes.{market, position_small}
use Rattle.margin.proofs.AssessLaws.{gross_within, answer_is}
use Rattle.margin.proofs.assessing.assess_places.Goals as goal

pub invariant_of-assessable : goal.invariant_of-assessable
invariant_of-assessable g c =
    record {
      small =
          position_small c.args.account.now.places.now c.args.account.now.sound
          (gross_within c.gross.result (gross_of all_stocks (market c.args.account.now.places.now)) (omega (arith, c.gross.ensures.bound)) c.if-gross-gt-MOST_GROSS.false c.gross.ensures.value);
    }

pub returns-then-is_ok-clause-answer : goal.returns-then-is_ok-clause-answer
returns-then-is_ok-clause-answer g c =
    let m = g.S.ReturnSource.meaning c.args.source.now in
    let slots = c.args.account.now.places.now in
    let room = room_of (length c.args.totals.now) (length c.args.row.now) (length c.args.tail.now) (length c.args.holdings.now) in
    let e : fits m room ≡ true = sym c.has_room.ensures ∙ c.if-not-has_room.false in
    answer_is m c.args.account.now.settings.now (book slots) room c.figures-answer.result e (sym c.first_uncovered.ensures ∙ c.in_default.is)
    (gross_within c.gross.result (gross_of all_stocks (market slots)) (omega (arith, c.gross.ensures.bound)) c.if-gross-gt-MOST_GROSS.false c.gross.ensures.value)
    c.figures-answer.ensures
