use Rattle.std.proofs.Common.{◌≡◌, Some, None, sym, subst, rules}
use Rattle.bench.specs.Ranges.{angle_at}
use Rattle.bench.specs.SetUps.{TurnsBy}
use Rattle.benches.specs.Turned.{turned_by, not_turned}
use Rattle.benches.proofs.turned_bench.TurnedBench.new.Goals as goal
use Rattle.benches.proofs.turned_bench.TurnedBench.new.Goals.{in-Some, in-None}

pub returns-clause-shift : goal.returns-clause-shift
returns-clause-shift g c = elim c.match-new.branch [
  | in-Some w ↦ let is : angle_at c.args.shift ≡ Some w.in-Some.angle = search rules in subst (λ o. TurnsBy c.args.shift o.1 o.0) (sym w.answer-is) (turned_by c.args.shift w.in-Some.angle is)
  | in-None w ↦ let is : angle_at c.args.shift ≡ None = search rules in subst (λ o. TurnsBy c.args.shift o.1 o.0) (sym w.answer-is) (not_turned c.args.shift _ is)
]
