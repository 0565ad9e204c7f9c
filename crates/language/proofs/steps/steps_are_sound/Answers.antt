use Rattle.language.proofs.Following.{one_step, stays_going}
use Rattle.language.proofs.steps.steps_are_sound.Goals as goal

pub returns : goal.returns
returns c = record { one = one_step; stays = stays_going }
