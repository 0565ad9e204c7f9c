-- What is claimed of the rules of a step.
use Rattle.std.specs.Prelude.{ℕ, ◌*◌, ◌≤◌, List, ℤ}
use Rattle.bench.specs.Laws.{ExactlyOne}
use Rattle.bench.specs.declared.state.State.{State as Standing}
use Rattle.language.specs.Beats.{Beat, steps}
use Rattle.language.specs.Configurations.{Configuration}
use Rattle.language.specs.Continuation.{CodeStep, CodeBeat}
use Rattle.language.specs.Direct.{DirectGoes}
use Rattle.language.specs.Following.{Going}
use Rattle.language.specs.Matching.{matching, matching_run}
use Rattle.language.specs.Reachable.{Reachable}
use Rattle.language.specs.Runs.{State, Run, running}
use Rattle.language.specs.WellFormed.{WellFormed}
use Rattle.language.specs.declared.record.Record.{Record}

-- on a well-formed table a run that has not ended has exactly one next step, on any bench, also where a
-- beat is under way
abbrev pub OneStep : Type 0
OneStep = (t : List Record) → WellFormed t → (s : Configuration) (c : Standing) → Going t (running s) c → (b : Standing) → ExactlyOne (λ (o : Run Configuration × Standing). CodeStep t s b o.0 o.1)

-- and so it has after that step
abbrev pub StaysGoing : Type 0
StaysGoing = (t : List Record) → WellFormed t → (s : Configuration) (b b' : Standing) (r : Run Configuration) → Going t (running s) b → CodeStep t s b r b' → Going t r b'

-- the simulation: a beat of a run from the table is a beat in continuation form, from the matching
-- configuration to the matching one, or to the same ending; of exactly the steps that belong to it; on
-- the same bench, which it leaves in the same state
abbrev pub Simulation : Type 0
Simulation = (t : List Record) → WellFormed t → (s : State) → Reachable t s → (v : ℤ) (b b' : Standing) (r : Run State) (β : Beat t s b r b') →
    (w : ℤ) × CodeBeat t (matching t v s) b (steps t β) (matching_run t w r) b'

-- to m beats belong at least m steps, and at most 18 times as many
abbrev pub FewStepsInAll : Type 0
FewStepsInAll = (t : List Record) → WellFormed t → (n m k : ℕ) (r r' : Run State) (b b' : Standing) → DirectGoes t n r b m k r' b' → (m ≤ k) × (k ≤ 18 * m)
