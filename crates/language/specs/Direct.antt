-- The direct stand: it runs a routine from its table, and tells for each beat the steps that belong to it.
use Rattle.std.specs.Prelude.{◌≡◌, ℕ, suc, List, [], ℤ, Some, None}
use Rattle.bench.specs.Histories.{History, Deterministic}
use Rattle.bench.specs.Laws.{ExactlyOne}
use Rattle.bench.specs.declared.state.State.{State as Standing}
use Rattle.language.specs.Beats.{Beat, steps}
use Rattle.language.specs.Calls.{Event, Answer, Stand, fresh_stand, Goes, Calls}
use Rattle.language.specs.Runs.{State, Run, running, with_arguments}
use Rattle.language.specs.declared.record.Record.{Record}

-- a run of the routine that record j heads begins with its arguments, no frame standing
abbrev pub direct_begin : List Record → ℕ → List ℤ → State
direct_begin t j vs = record { routine = 0; handler = None; at = suc j; variables = with_arguments vs; frames = [] }

-- one beat, and the steps that belong to it
abbrev pub DirectBeat : List Record → State → Standing → ℕ → Run State → Standing → Type 0
DirectBeat t s b k r b' = (β : Beat t s b r b') × (k ≡ steps t β)

abbrev pub DirectGoes : List Record → ℕ → Run State → Standing → ℕ → ℕ → Run State → Standing → Type 0
DirectGoes = Goes direct_begin DirectBeat

abbrev pub DirectCalls : Stand State → Event → Answer → Stand State → Type 0
DirectCalls = Calls direct_begin DirectBeat

-- a stand that some list of calls leads to from a fresh one
pub record DirectReached (x : Stand State) : Type 0 where
  pub bench : Standing
  pub events : List Event
  pub answers : List Answer
  pub history : History DirectCalls (fresh_stand bench) events answers x

-- the run of a stand can be in this state, now or after any number of further beats
pub record Ahead (x : Stand State) (t : List Record) (s : State) : Type 0 where
  pub run : Run State
  pub count : ℕ
  pub beats : ℕ
  pub further : ℕ
  pub after : Standing
  pub loaded : x.table ≡ Some t
  pub started : x.run ≡ Some run
  pub leads : DirectGoes t count run x.bench beats further (running s) after

-- after any list of calls, a run that has not ended has exactly one next beat, on any bench; and so it
-- has after any number of further beats
abbrev pub NeverStuck : Type 0
NeverStuck = (x : Stand State) → DirectReached x → (t : List Record) (s : State) → Ahead x t s → (b : Standing) → ExactlyOne (λ (o : Run State × Standing). Beat t s b o.0 o.1)

-- on a stand that calls lead to, any number of beats can be gone
abbrev pub SomeGo : Type 0
SomeGo = (x : Stand State) → DirectReached x → (t : List Record) (r : Run State) → x.table ≡ Some t → x.run ≡ Some r → (n : ℕ) →
    (m : ℕ) × (k : ℕ) × (r' : Run State) × (b' : Standing) × DirectGoes t n r x.bench m k r' b'

-- a stand and a call decide the answer and the stand left
abbrev pub OneCall : Type 0
OneCall = Deterministic DirectCalls
