-- What one bench answers through a section: to its set-up, to being turned if it is, to each event,
-- and its state at the end if that is asked for.
use Rattle.std.specs.Prelude.{◌≡◌, Bool, true, false, List, [], ◌∷◌, ◌++◌, ℤ, Some, None, vec_items, Result}
use Rattle.bench.specs.Histories.{History}
use Rattle.bench.specs.Ranges.{Angle}
use Rattle.bench.specs.Reading.{state_under}
use Rattle.bench.specs.SetUps.{SetsUp, TurnsBy}
use Rattle.bench.specs.declared.refusal.SetUpRefusal.{SetUpRefusal}
use Rattle.bench.specs.declared.refusal.ShiftRefusal.{ShiftRefusal}
use Rattle.bench.specs.declared.state.State.{State as Standing}
use Rattle.script.specs.declared.answer.Answer.{Answer}
use Rattle.script.specs.declared.answer.Answer.TheVariants.{State}
use Rattle.session.specs.Answering.{set_up_answer_of, turn_answer_of, report}
use Rattle.session.specs.Events.{Does}
use Rattle.session.specs.declared.exchange.Exchange.{Exchange}
use Rattle.session.specs.declared.section.Section.{Section}

pub data Performs (x : Section) : List Answer → Type 0 where
  -- a bench as it is set up
  plain : {r : Result (Unit {0}) SetUpRefusal} {s t : Standing} {rs : List Answer} →
      x.turn ≡ None → SetsUp x.pairing.counts r s → History Does s (vec_items x.events) rs t →
      Performs x (set_up_answer_of r ∷ (rs ++ report x.state t))
  -- a turned bench
  turned : {z : ℤ} {r : Result (Unit {0}) SetUpRefusal} {q : Result (Unit {0}) ShiftRefusal} {a : Angle} {s t : Standing} {rs : List Answer} →
      x.turn ≡ Some z → SetsUp x.pairing.counts r s → TurnsBy z q a → History Does (state_under a s) (vec_items x.events) rs t →
      Performs x (set_up_answer_of r ∷ turn_answer_of q ∷ (rs ++ report x.state t))

-- the exchange of two states, where they are asked for
abbrev pub states : Bool → Standing → Standing → List Exchange
states true s t = record { first = State s; second = State t } ∷ []
states false s t = []

-- the first, or the second bench, from state s on, answers this to the events of a section and at its
-- end, after what it answered before
pub record GoesOn (x : Section) (s : Standing) (before all : List Answer) : Type 0 where
  pub answers : List Answer
  pub last : Standing
  pub history : History Does s (vec_items x.events) answers last
  pub is : all ≡ before ++ (answers ++ report x.state last)
