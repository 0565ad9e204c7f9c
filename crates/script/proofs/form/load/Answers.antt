use Rattle.script.proofs.Blame.{stopped, table_lacking, table_taken, one_too_many}
use Rattle.script.proofs.Forms.{load_said}
use Rattle.script.proofs.form.load.Goals as goal

pub returns-in_err-text : goal.returns-in_err-text
returns-in_err-text c = stopped _ _ _ _ c.from_residual.ensures.1 (table_lacking _ _ _ c.in_err-text.ensures)

pub returns-in_err-end : goal.returns-in_err-end
returns-in_err-end c =
    stopped _ _ _ _ c.from_residual-in_err-end.ensures.1 (table_taken _ _ _ _ c.in_ok-text.ensures (one_too_many _ _ c.in_err-end.ensures))

pub returns : goal.returns
returns c = load_said _ _ c.in_ok-text.ensures c.in_ok-end.ensures
