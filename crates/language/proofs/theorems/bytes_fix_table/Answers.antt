use Rattle.language.proofs.Bytes.{bytes_fix}
use Rattle.language.proofs.theorems.bytes_fix_table.Goals as goal

pub returns : goal.returns
returns c = bytes_fix
