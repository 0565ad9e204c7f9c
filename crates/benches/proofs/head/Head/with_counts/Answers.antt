use Rattle.bench.proofs.Validity.{fresh_is}
use Rattle.benches.proofs.head.Head.with_counts.Goals as goal

pub returns : goal.returns
returns c = fresh_is c.args.counts _ _
