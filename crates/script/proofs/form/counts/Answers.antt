use Rattle.std.proofs.Common.{arith}
use Rattle.script.proofs.Blame.{stopped}
use Rattle.script.proofs.Counts.{one_more, too_few, too_many, eight}
use Rattle.script.proofs.Numerals.{by_bits}
use Rattle.script.proofs.form.counts.Goals as goal

pub returns-in_default : goal.returns-in_default
returns-in_default c = too_few _ _ _ _ c.loop-count.invariant (omega arith) c.in_default.ensures.1

pub loop-count-preserved : goal.loop-count-preserved
loop-count-preserved c = one_more _ _ _ _ _ _ (omega arith) c.loop-count.invariant (by_bits c.in-Ok.ensures)

pub returns-in_err-end : goal.returns-in_err-end
returns-in_err-end c = stopped _ _ _ _ c.from_residual.ensures.1 (too_many _ _ _ _ c.loop-count.invariant _ (omega arith) c.in_err-end.ensures)

pub returns : goal.returns
returns c = eight _ _ _ _ c.loop-count.invariant (omega arith) c.in_ok-end.ensures
