-- The agreement of the two stands. A direct stand runs a table, a continuation stand runs the bytes of
-- its translation; both are given the same events in turn. Agreement says, for each event, what they
-- answer and what then holds of them.
use Rattle.std.specs.Prelude.{◌≡◌, ℕ, ◌*◌, ◌≤◌, List, [], ◌∷◌, ℤ, Some}
use Rattle.bench.specs.Histories.{History}
use Rattle.bench.specs.Laws.{ExactlyOne}
use Rattle.bench.specs.Responds.{Answer as Reply}
use Rattle.bench.specs.declared.state.State.{State as Standing}
use Rattle.language.specs.Beats.{Beat}
use Rattle.language.specs.Calls.{Event, Answer, done, load_refused, start_refused, go_refused, went, replied, Stand, fresh_stand}
use Rattle.language.specs.Configurations.{Configuration}
use Rattle.language.specs.Continuation.{CodeStep, CodeChain, ContinuationCalls, StepAhead}
use Rattle.language.specs.Direct.{DirectCalls, Ahead}
use Rattle.language.specs.Runs.{State, Run}
use Rattle.language.specs.declared.record.Record.{Record}
use Rattle.language.specs.declared.refusal.GoRefusal.{GoRefusal}
use Rattle.language.specs.declared.refusal.StartRefusal.{StartRefusal}

-- the direct stand's answer and the continuation stand's: the same refusal, the same number or fault
-- from the bench, the same progress, value and beats. The steps made are those that belong to the direct
-- stand's beats, added up: at least as many as the beats, and at most 18 times as many
pub data SameAnswer : Answer → Answer → Type 0 where
  both_done : SameAnswer done done
  both_refuse_load : {layer cause place : ℕ} → SameAnswer (load_refused layer cause place) (load_refused layer cause place)
  both_refuse_start : {reason : StartRefusal} → SameAnswer (start_refused reason) (start_refused reason)
  both_refuse_go : {reason : GoRefusal} → SameAnswer (go_refused reason) (go_refused reason)
  both_went : {progress beats belong made : ℕ} {value : ℤ} → made ≡ belong → beats ≤ made → made ≤ 18 * beats → SameAnswer (went progress value beats belong) (went progress value beats made)
  both_replied : {reply : Reply} → SameAnswer (replied reply) (replied reply)

-- k steps of the step rules lead from the run of one stand to that of the other, on their benches
pub record StepsMade (x : Stand Configuration) (k : ℕ) (y : Stand Configuration) : Type 0 where
  pub table : List Record
  pub before : Run Configuration
  pub after : Run Configuration
  pub loaded : x.table ≡ Some table
  pub started : x.run ≡ Some before
  pub left : y.run ≡ Some after
  pub chain : CodeChain table k before x.bench after y.bench

-- a run that has not ended has exactly one next beat, now and after any number of further beats
abbrev pub OneNextBeat : Stand State → Type 0
OneNextBeat x = (t : List Record) (s : State) → Ahead x t s → (b : Standing) → ExactlyOne (λ (o : Run State × Standing). Beat t s b o.0 o.1)

-- and exactly one next step, now and after any number of further steps, also between those of a beat
abbrev pub OneNextStep : Stand Configuration → Type 0
OneNextStep x = (t : List Record) (s : Configuration) → StepAhead x t s → (b : Standing) → ExactlyOne (λ (o : Run Configuration × Standing). CodeStep t s b o.0 o.1)

-- a direct stand d and a continuation stand c are given events, answer each, and come to d'' and c''
pub data Agreement : Stand State → Stand Configuration → List Event → List Answer → List Answer → Stand State → Stand Configuration → Type 0 where
  nothing : {d : Stand State} {c : Stand Configuration} → Agreement d c [] [] [] d c
  event : {d d' d'' : Stand State} {c c' c'' : Stand Configuration} {e : Event} {a a' : Answer} {es : List Event} {rs rs' : List Answer} →
      -- the direct stand's rules decide this answer and this stand, and so do the continuation stand's
      DirectCalls d e a d' → ContinuationCalls c e a' c' →
      -- the answers are the same
      SameAnswer a a' →
      -- what is answered as steps was made in steps
      ((progress beats k : ℕ) (value : ℤ) → a' ≡ went progress value beats k → StepsMade c k c') →
      -- the benches are equal
      d'.bench ≡ c'.bench →
      -- neither run is stuck, nor ever will be, nor has a choice
      OneNextBeat d' → OneNextStep c' →
      Agreement d' c' es rs rs' d'' c'' → Agreement d c (e ∷ es) (a ∷ rs) (a' ∷ rs') d'' c''

-- fresh stands on equal benches, given any events: a history of the one and one of the other agree
abbrev pub HistoriesAgree : Type 0
HistoriesAgree = (b b' : Standing) → b ≡ b' → (es : List Event) (rs rs' : List Answer) (d : Stand State) (c : Stand Configuration) →
    History DirectCalls (fresh_stand b) es rs d → History ContinuationCalls (fresh_stand b') es rs' c → Agreement (fresh_stand b) (fresh_stand b') es rs rs' d c

-- and where the one has a history, the other has one too
pub record HistoriesExist : Type 0 where
  pub continuation : (b : Standing) (es : List Event) (rs : List Answer) (d : Stand State) → History DirectCalls (fresh_stand b) es rs d → (c : Stand Configuration) × History ContinuationCalls (fresh_stand b) es rs c
  pub direct : (b : Standing) (es : List Event) (rs : List Answer) (c : Stand Configuration) → History ContinuationCalls (fresh_stand b) es rs c → (d : Stand State) × History DirectCalls (fresh_stand b) es rs d
