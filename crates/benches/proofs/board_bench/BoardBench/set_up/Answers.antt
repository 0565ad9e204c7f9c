use Rattle.std.proofs.Common.{◌≡◌, ◌≤◌, length, sym, subst, rules}
use Rattle.bench.specs.Bounds.{feeder_count, most_parts}
use Rattle.bench.specs.States.{parts}
use Rattle.benches.specs.Heads.{over}
use Rattle.benches.proofs.SetUp.{set_up_valid}
use Rattle.benches.proofs.board_bench.BoardBench.set_up.Goals as goal

pub invariant_of-result : goal.invariant_of-result
invariant_of-result g c =
    let eight : length c.args.counts ≡ feeder_count = search rules in
    let few = (set_up_valid c.args.counts _ _ eight c.set_up-answer.ensures).few in
    record { few = subst (λ spots. parts (over c.set_up-answer.result.0 spots) ≤ most_parts) (sym c.new-sites.ensures) few }
