use Rattle.translation.proofs.Finding.{routine_there}
use Rattle.translation.proofs.layout.Layout.routine.Goals as goal
use Rattle.translation.specs.Layouts.{laid_out}

pub address-requires : goal.address-requires
address-requires c = routine_there (laid_out c.args.self.now) c.args.identifier c.routine.result c.routine.ensures
