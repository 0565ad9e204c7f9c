use Rattle.table.proofs.NameLayer.{Sofar}
use Rattle.table.proofs.names.check_names.Given as goal

abbrev pub invariant-loop-place : goal.invariant-loop-place
invariant-loop-place l = Sofar l.records l.place l.scope
