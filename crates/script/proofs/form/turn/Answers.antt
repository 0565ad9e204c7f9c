use Rattle.script.proofs.Blame.{stopped, number_lacking, number_taken, one_too_many}
use Rattle.script.proofs.Forms.{turn_said}
use Rattle.script.proofs.Numerals.{by_bits}
use Rattle.script.proofs.form.turn.Goals as goal

pub returns-in_err-shift : goal.returns-in_err-shift
returns-in_err-shift c = stopped _ _ _ _ c.from_residual.ensures.1 (number_lacking _ _ _ c.in_err-shift.ensures)

pub returns-in_err-end : goal.returns-in_err-end
returns-in_err-end c =
    stopped _ _ _ _ c.from_residual-in_err-end.ensures.1 (number_taken _ _ _ _ _ c.in_ok-shift.ensures (one_too_many _ _ c.in_err-end.ensures))

pub returns : goal.returns
returns c = turn_said _ _ _ (by_bits c.in_ok-shift.ensures) c.in_ok-end.ensures
