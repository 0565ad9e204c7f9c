use Rattle.std.proofs.Common.{ap}
use Rattle.direct.proofs.Calling.{kept_run}
use Rattle.direct.proofs.loaded.Loaded.go.Goals as goal
use Rattle.direct.specs.Stands.{started}
use Rattle.language.specs.Calls.{go_nowhere}

pub returns-in_default : goal.returns-in_default
returns-in_default g c = (0, go_nowhere (ap started c.in_default.is))

pub go-requires : goal.go-requires
go-requires g c =
    let x = c.args.self.now in
    kept_run x.program x.run c.in-Some.run' x.kept c.in-Some.is
