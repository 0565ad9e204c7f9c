use Rattle.language.proofs.Refusals.{formed_clear}
use Rattle.language.proofs.theorems.well_formed_is_clear.Goals as goal

pub returns : goal.returns
returns c = formed_clear
