use Rattle.std.proofs.Common.{◌≡◌, map, rules}
use Rattle.bench.specs.Reading.{spot_under}
use Rattle.bench.proofs.Mapping.{mapped}
use Rattle.bench.proofs.state.State.read_under.Goals as goal

pub returns : goal.returns
returns c =
    let same : c.map.result ≡ map (spot_under c.args.shift) c.args.self.sites = mapped _ (spot_under c.args.shift) _ (λ x y q k. search rules) _ _ _ (search rules) c.map.ensures.items in
    search (rules, same)
