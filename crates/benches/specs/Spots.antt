-- What is at the sites of a new bench.
use Rattle.std.specs.Prelude.{List, None, replicate}
use Rattle.bench.specs.Bounds.{site_count}
use Rattle.bench.specs.Sight.{Spot}

abbrev pub all_free : List Spot
all_free = replicate site_count None
