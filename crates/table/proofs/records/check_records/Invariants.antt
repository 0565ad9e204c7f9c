use Rattle.few.specs.Held.{held}
use Rattle.table.proofs.RecordLayer.{Sofar}
use Rattle.table.proofs.records.check_records.Given as goal

abbrev pub invariant-loop-place : goal.invariant-loop-place
invariant-loop-place l = Sofar l.rows (held l.records) l.place-counter
