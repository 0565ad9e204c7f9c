-- How many beats a go is asked for.
use Rattle.std.specs.Prelude.{◌≡◌, ℕ, suc, ◌≤◌, ℤ, pos, Some, None, Option}
use Rattle.bench.specs.Ranges.{Outside}
use Rattle.language.specs.Calls.{most_beats}

-- the number z asks for n beats, or is no number of beats
abbrev pub Asked : ℤ → Option ℕ → Type 0
Asked z (Some n) = (z ≡ pos n) × (n ≤ most_beats)
Asked z None = Outside (suc most_beats) z
