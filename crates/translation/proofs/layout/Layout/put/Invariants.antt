use Rattle.translation.specs.Layouts.{laid_out}
use Rattle.translation.proofs.Tabling.{Tabled}
use Rattle.translation.proofs.layout.Layout.put.Given as goal

abbrev pub invariant-loop-next : goal.invariant-loop-next
invariant-loop-next l = Tabled (laid_out l.self) l.next-index l.scope l.at l.initial.out l.out
