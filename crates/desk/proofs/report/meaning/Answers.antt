use Rattle.std.proofs.Common.{refl}
use Rattle.desk.proofs.report.meaning.Goals as goal

pub returns-in-Length : goal.returns-in-Length
returns-in-Length c = rw c.in-Length.is refl

pub returns-in-Presence : goal.returns-in-Presence
returns-in-Presence c = rw c.in-Presence.is refl

pub returns-in-Name : goal.returns-in-Name
returns-in-Name c = rw c.in-Name.is refl

pub returns-in-Cells : goal.returns-in-Cells
returns-in-Cells c = rw c.in-Cells.is refl

pub returns-in-Form : goal.returns-in-Form
returns-in-Form c = rw c.in-Form.is refl

pub returns-in-Range : goal.returns-in-Range
returns-in-Range c = rw c.in-Range.is refl

pub returns-in-First : goal.returns-in-First
returns-in-First c = rw c.in-First.is refl

pub returns-in-Tier : goal.returns-in-Tier
returns-in-Tier c = rw c.in-Tier.is refl
