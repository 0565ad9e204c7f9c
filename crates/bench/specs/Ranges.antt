-- Which numbers are sites, angles and feeders: those from 0 up to a bound. What such a number stands
-- for carries the fact that it lies below its bound.
use Rattle.std.specs.Prelude.{◌≡◌, ℕ, ◌<◌, Bool, true, false, ◌⊎◌, ℤ, pos, negsuc, ◌≤ℤ◌, ◌<ℤ◌, Some, None, Option, nat_lt, refl}
use Rattle.std.proofs.lemmas.Bool.{ltb-true}
use Rattle.bench.specs.Bounds.{site_count, feeder_count, full_turn}
use Rattle.bench.specs.declared.below.Below.{Below}

abbrev pub Site : Type 0
Site = Below site_count

abbrev pub Angle : Type 0
Angle = Below full_turn

abbrev pub Feeder : Type 0
Feeder = Below feeder_count

-- y is no number from 0 to n - 1
abbrev pub Outside : ℕ → ℤ → Type 0
Outside n y = (y <ℤ pos 0) ⊎ (pos n ≤ℤ y)

-- k, which is below n
abbrev pub below : (n k : ℕ) → k < n → Below n
below n k h = record { value = k; within = h }

abbrev pub tested : (n k : ℕ) (b : Bool) → nat_lt k n ≡ b → Option (Below n)
tested n k true e = Some (below n k (ltb-true k n e))
tested n k false e = None

-- what y stands for, where y is a number from 0 to n - 1
abbrev pub below_at : (n : ℕ) → ℤ → Option (Below n)
below_at n (pos k) = tested n k (nat_lt k n) refl
below_at n (negsuc k) = None

abbrev pub site_at : ℤ → Option Site
site_at = below_at site_count

abbrev pub angle_at : ℤ → Option Angle
angle_at = below_at full_turn

abbrev pub feeder_at : ℤ → Option Feeder
feeder_at = below_at feeder_count
