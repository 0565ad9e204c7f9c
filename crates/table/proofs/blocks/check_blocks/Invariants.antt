use Rattle.table.proofs.BlockLayer.{Sofar}
use Rattle.table.proofs.blocks.check_blocks.Given as goal

abbrev pub invariant-loop-place : goal.invariant-loop-place
invariant-loop-place l = Sofar l.records l.place l.flow l.routines l.blocks
