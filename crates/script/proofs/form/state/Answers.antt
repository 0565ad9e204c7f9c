use Rattle.script.proofs.Blame.{stopped, one_too_many}
use Rattle.script.proofs.Forms.{state_said}
use Rattle.script.proofs.form.state.Goals as goal

pub returns-in_err-end : goal.returns-in_err-end
returns-in_err-end c = stopped _ _ _ _ c.from_residual.ensures.1 (one_too_many _ _ c.in_err-end.ensures)

pub returns : goal.returns
returns c = state_said _ c.in_ok-end.ensures
