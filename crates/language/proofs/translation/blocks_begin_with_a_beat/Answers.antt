use Rattle.language.proofs.Sizes.{begun}
use Rattle.language.proofs.translation.blocks_begin_with_a_beat.Goals as goal

pub returns : goal.returns
returns c = begun
