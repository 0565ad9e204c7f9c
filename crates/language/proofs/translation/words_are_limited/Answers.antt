use Rattle.language.proofs.WordLimits.{limited}
use Rattle.language.proofs.translation.words_are_limited.Goals as goal

pub returns : goal.returns
returns c = limited
