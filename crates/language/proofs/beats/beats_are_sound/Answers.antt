use Rattle.language.proofs.NextBeat.{one_beat, stays_reachable, few_steps}
use Rattle.language.proofs.beats.beats_are_sound.Goals as goal

pub returns : goal.returns
returns c = record { one = one_beat; stays = stays_reachable; steps = few_steps }
