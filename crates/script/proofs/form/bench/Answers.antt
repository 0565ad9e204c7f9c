use Rattle.script.proofs.Blame.{stopped, kind_lacking, kind_taken}
use Rattle.script.proofs.Forms.{bench_said}
use Rattle.script.proofs.form.bench.Goals as goal

pub returns-in_err-first : goal.returns-in_err-first
returns-in_err-first c = stopped _ _ _ _ c.from_residual.ensures.1 (kind_lacking _ _ _ c.in_err-first.ensures)

pub returns-in_err-second : goal.returns-in_err-second
returns-in_err-second c =
    stopped _ _ _ _ c.from_residual-in_err-second.ensures.1 (kind_taken _ _ _ _ _ c.in_ok-first.ensures (kind_lacking _ _ _ c.in_err-second.ensures))

pub returns-in_err-counts : goal.returns-in_err-counts
returns-in_err-counts c =
    stopped _ _ _ _ c.from_residual-in_err-counts.ensures.1 (kind_taken _ _ _ _ _ c.in_ok-first.ensures (kind_taken _ _ _ _ _ c.in_ok-second.ensures c.in_err-counts.ensures))

pub returns : goal.returns
returns c = bench_said _ _ _ _ _ _ c.in_ok-first.ensures c.in_ok-second.ensures c.in_ok-counts.ensures
