use Rattle.std.proofs.Common.{refl}
use Rattle.language.specs.Translation.{translation}
use Rattle.language.proofs.translation.a_call_and_a_pick_are_translated.Goals as goal

pub returns : goal.returns
unfolding translation
returns c = refl
