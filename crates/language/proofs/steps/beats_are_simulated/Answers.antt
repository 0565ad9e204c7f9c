use Rattle.language.proofs.Following.{simulation, few_in_all}
use Rattle.language.proofs.steps.beats_are_simulated.Goals as goal

pub returns : goal.returns
returns c = record { simulation = simulation; few = few_in_all }
