use Rattle.few.specs.Held.{held}
use Rattle.table.proofs.Indexing.{Sofar}
use Rattle.table.proofs.index.Index.new.Given as goal

abbrev pub invariant-loop-place : goal.invariant-loop-place
invariant-loop-place l = Sofar l.records l.place l.scope (held l.index.routines) (held l.index.blocks)
