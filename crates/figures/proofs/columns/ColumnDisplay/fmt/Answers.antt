use Rattle.figures.proofs.WriteLaws.{shows_at_right}
use Rattle.figures.proofs.columns.ColumnDisplay.fmt.Goals as goal

pub returns-clause-writes : goal.returns-clause-writes
returns-clause-writes g c =
    shows_at_right g.W.Write.write_str_gives c.args.f.now c.put_spaces.new.f c.write.new.self c.put_spaces.result c.write.result c.args.self.now.width c.length.result c.saturating_sub.result
    (g.T.Display.output c.args.self.now.value) c.length.ensures c.saturating_sub.ensures c.in_ok-put_spaces.was c.put_spaces.ensures c.write.ensures.writes
