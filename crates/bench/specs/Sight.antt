-- What is at a site, a part or nothing, and what a look there answers.
use Rattle.std.specs.Prelude.{◌+◌, ◌*◌, ℤ, pos, negsuc, Some, None, Option}
use Rattle.bench.specs.Bounds.{full_turn}
use Rattle.bench.specs.declared.part.Part.{Part}

abbrev pub Spot : Type 0
Spot = Option Part

-- feeder times a full turn plus angle
abbrev pub part_sight : Part → ℤ
part_sight p = pos (p.feeder.value * full_turn + p.angle.value)

-- -1 where there is no part
abbrev pub sight : Spot → ℤ
sight None = negsuc 0
sight (Some p) = part_sight p
