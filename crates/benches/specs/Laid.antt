-- What is at each site after a list of placements, oldest first.
use Rattle.std.specs.Prelude.{List, [], ◌∷◌, Some, slice_set}
use Rattle.bench.specs.Sight.{Spot}
use Rattle.benches.specs.Spots.{all_free}
use Rattle.benches.specs.declared.placement.Placement.{Placement}

-- these spots after these placements
abbrev pub laid : List Placement → List Spot → List Spot
laid [] spots = spots
laid (p ∷ ps) spots = laid ps (slice_set spots p.site.value (Some p.part))

-- the sites of a new bench after these placements
abbrev pub after : List Placement → List Spot
after ps = laid ps all_free
