-- The continuation stand: it runs the bytes of a table's translation, word by word, and tells for each
-- beat the steps that it made.
use Rattle.std.specs.Prelude.{◌≡◌, ℕ, suc, List, [], ℤ, pos, Some, None}
use Rattle.bench.specs.Histories.{History, Deterministic}
use Rattle.bench.specs.Laws.{ExactlyOne}
use Rattle.bench.specs.declared.state.State.{State as Standing}
use Rattle.language.specs.Calls.{Event, Answer, Stand, fresh_stand, Goes, Calls}
use Rattle.language.specs.Code.{code}
use Rattle.language.specs.CodeWords.{WordAt}
use Rattle.language.specs.Configurations.{Configuration}
use Rattle.language.specs.Runs.{Run, running, with_arguments}
use Rattle.language.specs.Steps.{Step, Chain, StepBeat}
use Rattle.language.specs.Translation.{address}
use Rattle.language.specs.declared.record.Record.{Record}

-- a run of the routine that record j heads begins past its clearing words, with its arguments; every
-- cell is free, and continuation and handler are the outermost
abbrev pub continuation_begin : List Record → ℕ → List ℤ → Configuration
continuation_begin t j vs = record { counter = address t (suc j); variables = with_arguments vs; register = pos 0; continuation = None; handler = None; cells = [] }

-- the steps and beats of a table's translation, on its bytes
abbrev pub CodeStep : List Record → Configuration → Standing → Run Configuration → Standing → Type 0
CodeStep t = Step (WordAt (code t))

abbrev pub CodeChain : List Record → ℕ → Run Configuration → Standing → Run Configuration → Standing → Type 0
CodeChain t = Chain (WordAt (code t))

abbrev pub CodeBeat : List Record → Configuration → Standing → ℕ → Run Configuration → Standing → Type 0
CodeBeat t = StepBeat (WordAt (code t))

abbrev pub ContinuationGoes : List Record → ℕ → Run Configuration → Standing → ℕ → ℕ → Run Configuration → Standing → Type 0
ContinuationGoes = Goes continuation_begin CodeBeat

abbrev pub ContinuationCalls : Stand Configuration → Event → Answer → Stand Configuration → Type 0
ContinuationCalls = Calls continuation_begin CodeBeat

-- a stand that some list of calls leads to from a fresh one
pub record ContinuationReached (x : Stand Configuration) : Type 0 where
  pub bench : Standing
  pub events : List Event
  pub answers : List Answer
  pub history : History ContinuationCalls (fresh_stand bench) events answers x

-- the run of a stand can be in this configuration, now or after any number of further steps
pub record StepAhead (x : Stand Configuration) (t : List Record) (s : Configuration) : Type 0 where
  pub run : Run Configuration
  pub count : ℕ
  pub after : Standing
  pub loaded : x.table ≡ Some t
  pub started : x.run ≡ Some run
  pub leads : CodeChain t count run x.bench (running s) after

-- after any list of calls, a run that has not ended has exactly one next step, on any bench; and so it
-- has after any number of further steps, also where a beat is under way
abbrev pub NeverStuck : Type 0
NeverStuck = (x : Stand Configuration) → ContinuationReached x → (t : List Record) (s : Configuration) → StepAhead x t s → (b : Standing) → ExactlyOne (λ (o : Run Configuration × Standing). CodeStep t s b o.0 o.1)

-- on a stand that calls lead to, any number of beats can be gone
abbrev pub SomeGo : Type 0
SomeGo = (x : Stand Configuration) → ContinuationReached x → (t : List Record) (r : Run Configuration) → x.table ≡ Some t → x.run ≡ Some r → (n : ℕ) →
    (m : ℕ) × (k : ℕ) × (r' : Run Configuration) × (b' : Standing) × ContinuationGoes t n r x.bench m k r' b'

-- a stand and a call decide the answer and the stand left
abbrev pub OneCall : Type 0
OneCall = Deterministic ContinuationCalls
