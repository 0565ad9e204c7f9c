use Rattle.translation.proofs.Unique.{one_number}
use Rattle.translation.proofs.laws.one_answer_fits.Goals as goal

pub returns : goal.returns
returns c = one_number
