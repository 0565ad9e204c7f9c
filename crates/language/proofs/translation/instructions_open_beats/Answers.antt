use Rattle.language.proofs.Words.{opened}
use Rattle.language.proofs.translation.instructions_open_beats.Goals as goal

pub returns : goal.returns
returns c = opened
