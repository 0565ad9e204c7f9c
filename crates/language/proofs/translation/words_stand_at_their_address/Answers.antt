use Rattle.language.proofs.Words.{placed}
use Rattle.language.proofs.translation.words_stand_at_their_address.Goals as goal

pub returns : goal.returns
returns c = placed
