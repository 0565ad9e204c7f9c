-- What is claimed of the rules of a beat.
use Rattle.std.specs.Prelude.{◌≤◌, List}
use Rattle.bench.specs.Laws.{ExactlyOne}
use Rattle.bench.specs.declared.state.State.{State as Standing}
use Rattle.language.specs.Beats.{Beat, steps}
use Rattle.language.specs.Reachable.{Reachable, ReachableRun}
use Rattle.language.specs.Runs.{State, Run}
use Rattle.language.specs.WellFormed.{WellFormed}
use Rattle.language.specs.declared.record.Record.{Record}

-- on a well-formed table a run that has not ended has exactly one next beat, on any bench
abbrev pub OneBeat : Type 0
OneBeat = (t : List Record) → WellFormed t → (s : State) → Reachable t s → (b : Standing) → ExactlyOne (λ (o : Run State × Standing). Beat t s b o.0 o.1)

-- a beat leaves a run as it may be reached
abbrev pub StaysReachable : Type 0
StaysReachable = (t : List Record) → WellFormed t → (s : State) → Reachable t s → (b b' : Standing) (r : Run State) → Beat t s b r b' → ReachableRun t r

-- at least one step belongs to a beat, and at most 18 do
abbrev pub FewSteps : Type 0
FewSteps = (t : List Record) → WellFormed t → (s : State) (b b' : Standing) (r : Run State) (β : Beat t s b r b') → (1 ≤ steps t β) × (steps t β ≤ 18)
