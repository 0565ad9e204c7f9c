use Rattle.std.proofs.Common.{◌≡◌, length, take, drop}
use Rattle.bench.specs.Histories.{History}
use Rattle.session.specs.Events.{Does}
use Rattle.session.specs.Plays.{first_answers, second_answers}
use Rattle.session.proofs.play.play_both.Given as goal

abbrev pub invariant-loop-i : goal.invariant-loop-i
invariant-loop-i g l =
    (length l.slots ≡ length l.initial.slots)
    × History Does (g.P.Bench.state l.initial.first) (take l.i l.events) (first_answers (take l.i l.slots)) (g.P.Bench.state l.first)
    × History Does (g.Q.Bench.state l.initial.second) (take l.i l.events) (second_answers (take l.i l.slots)) (g.Q.Bench.state l.second)
    × (drop l.i l.slots ≡ drop l.i l.initial.slots)
