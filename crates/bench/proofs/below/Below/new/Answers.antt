use Rattle.std.proofs.Common.{◌≡◌, pos, nat_abs, w32, to_z, of_z, rules}
use Rattle.bench.proofs.Ranges.{below_is}
use Rattle.bench.proofs.below.Below.new.Goals as goal

pub returns-then-number : goal.returns-then-number
returns-then-number g c =
    let same : c.args.number ≡ pos (nat_abs (to_z w32 (of_z w32 c.args.number))) = search rules in
    below_is g.row.N _ _ _ same
