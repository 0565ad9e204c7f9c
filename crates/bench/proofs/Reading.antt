-- Reading an angle twice under one shift gives it back.
use Rattle.std.proofs.Common.{◌≡◌, ℕ, ◌<◌, ap, subst, arith}
use native.Mathlib.Bridge.{le_prop}
use Rattle.bench.specs.Bounds.{full_turn}
use Rattle.bench.specs.Ranges.{Angle, below}
use Rattle.bench.specs.Reading.{reading, reading_below, read_under}

-- angles of one number are one angle
pub same_angle : (a b : ℕ) (h : a < full_turn) (k : b < full_turn) → a ≡ b → below full_turn a h ≡ below full_turn b k
same_angle a b h k e = subst (λ n. (j : n < full_turn) → below full_turn a h ≡ below full_turn n j) e (λ j. ap (below full_turn a) (le_prop h j)) k

reading_twice : (z a : ℕ) → z < full_turn → a < full_turn → reading z (reading z a) ≡ a
reading_twice z a hz ha = omega arith

pub read_twice : (z a : Angle) → read_under z (read_under z a) ≡ a
read_twice z a = same_angle _ _ (reading_below z.value (reading z.value a.value)) a.within (reading_twice z.value a.value z.within a.within)
