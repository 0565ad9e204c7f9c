-- What setting up a bench, and turning one, answers and makes.
use Rattle.std.specs.Prelude.{◌≡◌, ℕ, ◌+◌, ◌<◌, ◌≤◌, List, map, replicate, ℤ, pos, Ok, Err, Result, slice_index, slice_index_or}
use Rattle.std.proofs.Common.{arith}
use Rattle.bench.specs.Bounds.{feeder_count, most_in_feeder, full_turn}
use Rattle.bench.specs.Ranges.{Angle, Outside, below}
use Rattle.bench.specs.States.{fresh}
use Rattle.bench.specs.declared.refusal.SetUpRefusal.{SetUpRefusal}
use Rattle.bench.specs.declared.refusal.SetUpRefusal.TheVariants.{CountOutOfRange}
use Rattle.bench.specs.declared.refusal.ShiftRefusal.{ShiftRefusal}
use Rattle.bench.specs.declared.refusal.ShiftRefusal.TheVariants.{ShiftOutOfRange}
use Rattle.bench.specs.declared.state.State.{State}

-- set-up with eight counts: what is answered, and the state of the bench made
pub data SetsUp (counts : List ℤ) : Result (Unit {0}) SetUpRefusal → State → Type 0 where
  -- counts that are all 0 to 999 are taken
  taken_over : (ns : List ℕ) → counts ≡ map pos ns → ((k : ℕ) → k < feeder_count → slice_index ns k ≤ most_in_feeder) → SetsUp counts (Ok tt) (fresh ns)
  -- one that is not is refused, and the bench made has no parts
  refused : (k : ℕ) → k < feeder_count → Outside (most_in_feeder + 1) (slice_index_or counts k (pos 0)) → SetsUp counts (Err CountOutOfRange) (fresh (replicate feeder_count 0))

-- turning a bench by a number: what is answered, and the shift of the turned bench made
pub data TurnsBy : ℤ → Result (Unit {0}) ShiftRefusal → Angle → Type 0 where
  -- an angle is a shift
  shifted : (a : Angle) → TurnsBy (pos a.value) (Ok tt) a
  -- any other number is refused, and the shift is then 0
  refused : {z : ℤ} → Outside full_turn z → TurnsBy z (Err ShiftOutOfRange) (below full_turn 0 (omega arith))
