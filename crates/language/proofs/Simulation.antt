-- The simulation: a beat from the table is matched by a beat of steps, as many as belong to it, from the
-- matching configuration to the matching one, or to the same ending, on the same bench.
use Rattle.std.proofs.Common.{◌≡◌, ℕ, List, ℤ, Some}
use Rattle.std.specs.List.{slice_get}
use Rattle.bench.specs.declared.state.State.{State as Standing}
use Rattle.language.specs.Beats as rules
use Rattle.language.specs.Beats.{Beat, steps}
use Rattle.language.specs.Matching.{matching, matching_run}
use Rattle.language.specs.Reachable.{Reachable}
use Rattle.language.specs.Runs.{State, Run}
use Rattle.language.specs.Steps.{StepBeat}
use Rattle.language.specs.Translation.{translation}
use Rattle.language.specs.WellFormed.{WellFormed}
use Rattle.language.specs.declared.record.Record.{Record}
use Rattle.language.specs.declared.word.Word.{Word}
use Rattle.language.proofs.CallBeat.{call}
use Rattle.language.proofs.PlainBeats.{constant, move, subtracts, request, goto, branch, branch_not, return, finishes, exhausts}
use Rattle.language.proofs.RaiseBeats.{raises, faults}

module _ (t : List Record) (ok : WellFormed t) (At : ℕ → Word → Type 0) (reads : (a : ℕ) (w : Word) → slice_get (translation t) a ≡ Some w → At a w) where
  pub simulates : (s : State) → Reachable t s → (v : ℤ) (b b' : Standing) (r : Run State) (β : Beat t s b r b') → (w : ℤ) × StepBeat At (matching t v s) b (steps t β) (matching_run t w r) b'
  simulates s h v b b' r (rules.constant e) = (v, constant t ok At reads s h v b e)
  simulates s h v b b' r (rules.move e) = (v, move t ok At reads s h v b e)
  simulates s h v b b' r (rules.subtract e) = (v, subtracts t ok At reads s h v b e)
  simulates s h v b b' r (rules.request e a) = (v, request t ok At reads s h v b e a)
  simulates s h v b b' r (rules.fault e a q) = faults t ok At reads s h v b e a q
  simulates s h v b b' r (rules.call j e l d) = (v, call t ok At reads s h v b j e l d)
  simulates s h v b b' r (rules.exhaust e l) = (v, exhausts t ok At reads s h v b e l)
  simulates s h v b b' r (rules.goto j e d) = (v, goto t ok At reads s h v b e d)
  simulates s h v b b' r (rules.return e f) = (v, return t ok At reads s h v b e f)
  simulates s h v b b' r (rules.finish e f) = (v, finishes t ok At reads s h v b e f)
  simulates s h v b b' r (rules.branch j e c d) = (v, branch t ok At reads s h v b e c d)
  simulates s h v b b' r (rules.branch_not j e c d) = (v, branch_not t ok At reads s h v b e c d)
  simulates s h v b b' r (rules.raise e q) = raises t ok At reads s h v b e q
