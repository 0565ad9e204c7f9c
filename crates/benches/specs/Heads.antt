-- The state of a head over what is at the sites.
use Rattle.std.specs.Prelude.{◌≡◌, ◌≤◌, List, length}
use Rattle.bench.specs.Bounds.{site_count, most_parts}
use Rattle.bench.specs.Respond.{Outcome}
use Rattle.bench.specs.Responds.{Answer}
use Rattle.bench.specs.Sight.{Spot}
use Rattle.bench.specs.States.{Valid, parts}
use Rattle.bench.specs.declared.state.State.{State}
use Rattle.benches.specs.declared.head.Head.{Head}

abbrev pub over : Head → List Spot → State
over h spots = record { site = h.site; angle = h.angle; nozzle = h.nozzle; counts = h.counts; bin = h.bin; sites = spots }

-- a request that comes to this by the rules is answered so, and leaves this state
abbrev pub Serves : Outcome → Answer → State → Type 0
Serves o answer after = (answer ≡ o.0) × (after ≡ o.1)

-- with an entry for each site, and no more parts than a bench holds, it is valid
pub over_valid : (h : Head) (spots : List Spot) → length spots ≡ site_count → parts (over h spots) ≤ most_parts → Valid (over h spots)
over_valid h spots all few = record { eight = h.eight; counted = h.counted; sites_all = all; few = few }
