use Rattle.language.proofs.CodeWords.{word_bytes_fix}
use Rattle.language.proofs.translation.bytes_fix_word.Goals as goal

pub returns : goal.returns
returns c = word_bytes_fix
