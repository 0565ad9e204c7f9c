use Rattle.direct.proofs.Calling.{by_jog}
use Rattle.direct.proofs.stand.Stand.jog.Goals as goal
use Rattle.direct.specs.Stands.{stand_of}

pub returns : goal.returns
returns g c = by_jog (stand_of g.B.Bench.state c.args.self.now) c.args.request.operation c.args.request.number _ _ c.request.ensures.answer c.request.ensures.after
