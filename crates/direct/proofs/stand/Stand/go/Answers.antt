use Rattle.std.proofs.Common.{ap}
use Rattle.direct.proofs.stand.Stand.go.Goals as goal
use Rattle.direct.specs.Stands.{run_in}
use Rattle.language.specs.Calls.{go_nowhere}

pub returns-in_default : goal.returns-in_default
returns-in_default g c = (0, go_nowhere (ap run_in c.in_default.is))
