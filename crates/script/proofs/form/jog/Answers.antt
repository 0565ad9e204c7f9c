use Rattle.script.proofs.Blame.{stopped, number_lacking, number_taken, one_too_many}
use Rattle.script.proofs.Forms.{jog_said}
use Rattle.script.proofs.Numerals.{by_bits}
use Rattle.script.proofs.form.jog.Goals as goal

pub returns-in_err-operation : goal.returns-in_err-operation
returns-in_err-operation c = stopped _ _ _ _ c.from_residual.ensures.1 (number_lacking _ _ _ c.in_err-operation.ensures)

pub returns-in_err-number : goal.returns-in_err-number
returns-in_err-number c =
    stopped _ _ _ _ c.from_residual-in_err-number.ensures.1 (number_taken _ _ _ _ _ c.in_ok-operation.ensures (number_lacking _ _ _ c.in_err-number.ensures))

pub returns-in_err-end : goal.returns-in_err-end
returns-in_err-end c =
    stopped _ _ _ _ c.from_residual-in_err-end.ensures.1 (number_taken _ _ _ _ _ c.in_ok-operation.ensures (number_taken _ _ _ _ _ c.in_ok-number.ensures (one_too_many _ _ c.in_err-end.ensures)))

pub returns : goal.returns
returns c = jog_said _ _ _ _ _ (by_bits c.in_ok-operation.ensures) (by_bits c.in_ok-number.ensures) c.in_ok-end.ensures
