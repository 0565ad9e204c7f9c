-- The state that a bench stands for, and when it is valid. The record itself is the code's `State`:
-- a site, an angle, the feeder of the part that the nozzle holds, a list of counts, the parts dropped,
-- and a list of spots. Sites, angles and feeders are in range by their types.
use Rattle.std.specs.Prelude.{◌≡◌, ℕ, ◌+◌, ◌<◌, ◌≤◌, List, length, Some, None, Option, replicate, sum_by, sum, slice_index, slice_set}
use Rattle.std.proofs.Common.{arith}
use Rattle.bench.specs.Bounds.{site_count, feeder_count, most_in_feeder, most_parts, full_turn}
use Rattle.bench.specs.Ranges.{Site, Angle, Feeder, below}
use Rattle.bench.specs.Sight.{Spot}
use Rattle.bench.specs.declared.state.State.{State}

-- the parts in a nozzle, and on a spot
abbrev pub in_nozzle : Option Feeder → ℕ
in_nozzle None = 0
in_nozzle (Some f) = 1

abbrev pub on_spot : Spot → ℕ
on_spot None = 0
on_spot (Some p) = 1

-- all parts of a bench: in the feeders, in the nozzle, on the sites, and dropped
abbrev pub parts : State → ℕ
parts s = sum s.counts + in_nozzle s.nozzle + sum_by on_spot s.sites + s.bin

pub record Valid (s : State) : Type 0 where
  -- eight counts, each 0 to 999
  pub eight : length s.counts ≡ feeder_count
  pub counted : (k : ℕ) → k < feeder_count → slice_index s.counts k ≤ most_in_feeder
  -- 32 sites
  pub sites_all : length s.sites ≡ site_count
  -- no more parts than eight full feeders hold
  pub few : parts s ≤ most_parts

-- a new bench with these counts: site 0, angle 0, nothing held, placed or dropped
abbrev pub fresh : List ℕ → State
fresh counts = record { site = below site_count 0 (omega arith); angle = below full_turn 0 (omega arith); nozzle = None; counts = counts; bin = 0; sites = replicate site_count None }

-- the head over another site
abbrev pub at_site : State → Site → State
at_site s p = record { site = p; angle = s.angle; nozzle = s.nozzle; counts = s.counts; bin = s.bin; sites = s.sites }

-- the nozzle at another angle
abbrev pub at_angle : State → Angle → State
at_angle s a = record { site = s.site; angle = a; nozzle = s.nozzle; counts = s.counts; bin = s.bin; sites = s.sites }

-- a part of feeder f in the nozzle, n left in the feeder
abbrev pub picked : State → Feeder → ℕ → State
picked s f n = record { site = s.site; angle = s.angle; nozzle = Some f; counts = slice_set s.counts f.value n; bin = s.bin; sites = s.sites }

-- the part of feeder f on the current site, at the current angle
abbrev pub placed : State → Feeder → State
placed s f = record { site = s.site; angle = s.angle; nozzle = None; counts = s.counts; bin = s.bin; sites = slice_set s.sites s.site.value (Some (record { feeder = f; angle = s.angle })) }

-- the part that was held in the bin
abbrev pub dropped : State → State
dropped s = record { site = s.site; angle = s.angle; nozzle = None; counts = s.counts; bin = s.bin + 1; sites = s.sites }
