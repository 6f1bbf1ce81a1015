use Rattle.std.proofs.Common.{length}
use Rattle.margin_desk.proofs.assessments.+put_holdings.Given as goal

abbrev pub decreases-put_holdings : goal.decreases-put_holdings
decreases-put_holdings g l = length l.holdings.now
