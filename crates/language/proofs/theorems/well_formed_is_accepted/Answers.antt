use Rattle.language.proofs.Refusals.{sound_accepted}
use Rattle.language.proofs.theorems.well_formed_is_accepted.Goals as goal

pub returns : goal.returns
returns c = sound_accepted
