use Rattle.std.proofs.Common.{ap}
use Rattle.direct.proofs.stand.Stand.start.Goals as goal
use Rattle.direct.specs.Stands.{table_in}
use Rattle.language.specs.Calls.{start_nothing}

pub returns-in_default : goal.returns-in_default
returns-in_default g c = start_nothing (ap table_in c.in_default.is)
