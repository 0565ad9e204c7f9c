use Rattle.language.proofs.Refusals.{well_formed}
use Rattle.language.proofs.theorems.clear_is_well_formed.Goals as goal

pub returns : goal.returns
returns c = well_formed
