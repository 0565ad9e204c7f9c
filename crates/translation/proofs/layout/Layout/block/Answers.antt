use Rattle.translation.proofs.Finding.{block_there}
use Rattle.translation.proofs.layout.Layout.block.Goals as goal
use Rattle.translation.specs.Layouts.{laid_out}

pub address-requires : goal.address-requires
address-requires c = block_there (laid_out c.args.self.now) c.args.routine c.args.label c.block.result c.block.ensures
