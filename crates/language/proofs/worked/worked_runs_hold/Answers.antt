use Rattle.language.proofs.WorkedRuns.{worked_runs}
use Rattle.language.proofs.worked.worked_runs_hold.Goals as goal

pub returns : goal.returns
returns c = worked_runs
