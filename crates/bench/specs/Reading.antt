-- Angles read from the other side of the board: under the shift z, the angle a reads as
-- (z + a full turn - a) modulo a full turn.
use Rattle.std.specs.Prelude.{ℕ, ◌+◌, ◌-◌, ◌%◌, ◌<◌, map, Some, None}
use Rattle.std.proofs.Common.{arith}
use Rattle.bench.specs.Bounds.{full_turn}
use Rattle.bench.specs.Ranges.{Angle, below}
use Rattle.bench.specs.Sight.{Spot}
use Rattle.bench.specs.declared.part.Part.{Part}
use Rattle.bench.specs.declared.state.State.{State}

abbrev pub reading : ℕ → ℕ → ℕ
reading z a = (z + full_turn - a) % full_turn

pub reading_below : (z a : ℕ) → reading z a < full_turn
reading_below z a = omega arith

abbrev pub read_under : Angle → Angle → Angle
read_under z a = below full_turn (reading z.value a.value) (reading_below z.value a.value)

abbrev pub part_under : Angle → Part → Part
part_under z p = record { feeder = p.feeder; angle = read_under z p.angle }

abbrev pub spot_under : Angle → Spot → Spot
spot_under z None = None
spot_under z (Some p) = Some (part_under z p)

-- a state with every angle read so, those of the placed parts included
abbrev pub state_under : Angle → State → State
state_under z s = record { site = s.site; angle = read_under z s.angle; nozzle = s.nozzle; counts = s.counts; bin = s.bin; sites = map (spot_under z) s.sites }
