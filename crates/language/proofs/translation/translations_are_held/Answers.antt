use Rattle.language.proofs.Sizes.{held}
use Rattle.language.proofs.translation.translations_are_held.Goals as goal

pub returns : goal.returns
returns c = held
