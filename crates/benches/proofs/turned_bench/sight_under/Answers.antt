use Rattle.std.proofs.Common.{◌≡◌, pos, Some, rules}
use lib.Signed.{rem_z}
use Rattle.bench.specs.Bounds.{full_turn}
use Rattle.bench.specs.Ranges.{angle_at}
use Rattle.bench.specs.Reading.{read_under}
use Rattle.benches.specs.Turned.{sight_taken}
use Rattle.benches.proofs.turned_bench.sight_under.Goals as goal

pub returns-in-Some : goal.returns-in-Some
returns-in-Some c = λ p e.
    let is : angle_at (rem_z c.args.seen (pos full_turn)) ≡ Some c.in-Some.angle = search rules in
    let there = sight_taken c.args.shift c.in-Some.angle p c.args.seen e is in
    let angle : c.get.result ≡ (read_under c.args.shift c.in-Some.angle).value = search rules in
    search (rules, there)
