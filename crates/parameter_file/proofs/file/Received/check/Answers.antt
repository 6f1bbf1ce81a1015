use Rattle.std.proofs.Common.{vec_items, arith}
use Rattle.parameter_file.proofs.JudgingLaws.{heading_is, index_is}
use Rattle.parameter_file.proofs.file.Received.check.Goals as goal

pub invariant_of-self-2 : goal.invariant_of-self-2
invariant_of-self-2 c =
    let j = c.in_ok-heading.ensures.file in
    let bytes = c.args.self.now.bytes.now in
    let kept = vec_items c.judge.new.self.kept in
    let table = vec_items c.judge.new.self.table in
    record {
      room = omega (arith, c.args.self.now.room, c.judge.ensures.length);
      heads = λ _. heading_is bytes kept table c.in_ok-heading.heading j;
      size = λ _. j.1;
      index = λ _. index_is bytes kept table c.in_ok-heading.heading j;
    }
