-- How the outcome of each event is answered.
use Rattle.std.specs.Prelude.{Bool, true, false, List, [], ◌∷◌, Ok, Err, Result}
use Rattle.bench.specs.Responds.{Answer as Reply}
use Rattle.bench.specs.declared.refusal.SetUpRefusal.{SetUpRefusal}
use Rattle.bench.specs.declared.refusal.ShiftRefusal.{ShiftRefusal}
use Rattle.bench.specs.declared.state.State.{State as Standing}
use Rattle.script.specs.declared.answer.Answer.{Answer}
use Rattle.script.specs.declared.answer.Answer.TheVariants.{Done, SetUpRefused, ShiftRefused, Number, Fault, State}

-- what succeeds is answered by its value, and what fails by its error
abbrev pub outcome : {X E : Type 0} → (X → Answer) → (E → Answer) → Result X E → Answer
outcome by_value by_error (Ok x) = by_value x
outcome by_value by_error (Err e) = by_error e

abbrev pub set_up_answer_of : Result (Unit {0}) SetUpRefusal → Answer
set_up_answer_of = outcome (λ done. Done) SetUpRefused

abbrev pub turn_answer_of : Result (Unit {0}) ShiftRefusal → Answer
turn_answer_of = outcome (λ done. Done) ShiftRefused

abbrev pub reply : Reply → Answer
reply = outcome Number Fault

-- the state at the end, where it is asked for
abbrev pub report : Bool → Standing → List Answer
report true s = State s ∷ []
report false s = []
