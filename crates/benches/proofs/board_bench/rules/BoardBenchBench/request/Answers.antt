use Rattle.bench.proofs.Validity.{left_valid}
use Rattle.benches.specs.Heads.{over_valid}
use Rattle.benches.proofs.board_bench.rules.BoardBenchBench.request.Goals as goal

pub invariant_of-self : goal.invariant_of-self
invariant_of-self g c =
    let b = c.args.self.now in
    let before = over_valid b.head (g.S.Sites.spots b.sites) (g.met.S.Sites.all b.sites) b.few in
    record { few = (left_valid _ c.args.request.operation c.args.request.number _ before c.serve.ensures.after).few }
