use Rattle.language.proofs.CodeWords.{read_back}
use Rattle.language.proofs.translation.words_are_read_back.Goals as goal

pub returns : goal.returns
returns c = read_back
