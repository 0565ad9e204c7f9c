use Rattle.std.proofs.Common.{◌≡◌, take}
use Rattle.benches.specs.Laid.{after}
use Rattle.benches.proofs.log.record.LogSites.list.Given as goal

abbrev pub invariant-loop-placement : goal.invariant-loop-placement
invariant-loop-placement l = l.spots ≡ after (take l.placement-index l.placement-items)
