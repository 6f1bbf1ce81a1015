-- where memory is wanting, nothing is told of the file
use Rattle.file_rules.proofs.FileLaws.{files_pass}
use Rattle.parameter_file.proofs.summary.examine.Goals as goal

pub returns-in_err-memory-clause-law : goal.returns-in_err-memory-clause-law
returns-in_err-memory-clause-law c = files_pass
