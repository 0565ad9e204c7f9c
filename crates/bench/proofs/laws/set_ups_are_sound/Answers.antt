use Rattle.std.proofs.Common.{refl}
use Rattle.bench.proofs.Reading.{read_twice}
use Rattle.bench.proofs.SetUps.{one_set_up, one_turn}
use Rattle.bench.proofs.laws.set_ups_are_sound.Goals as goal

pub returns : goal.returns
returns c = record { set_up = one_set_up; turn = one_turn; twice = read_twice; worked = refl }
