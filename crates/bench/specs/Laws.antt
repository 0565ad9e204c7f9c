-- What is claimed of the rules of a bench.
use Rattle.std.specs.Prelude.{◌≡◌, List, length, ℤ, Ok, Err, Result}
use Rattle.bench.specs.Actions.{action_of, request_of}
use Rattle.bench.specs.Bounds.{feeder_count}
use Rattle.bench.specs.Ranges.{Angle}
use Rattle.bench.specs.Reading.{reading, read_under}
use Rattle.bench.specs.Respond.{Outcome, respond}
use Rattle.bench.specs.Responds.{Answer, Responds}
use Rattle.bench.specs.SetUps.{SetsUp, TurnsBy}
use Rattle.bench.specs.States.{Valid}
use Rattle.bench.specs.declared.action.Action.{Action}
use Rattle.bench.specs.declared.fault.Fault.{Fault}
use Rattle.bench.specs.declared.refusal.SetUpRefusal.{SetUpRefusal}
use Rattle.bench.specs.declared.refusal.ShiftRefusal.{ShiftRefusal}
use Rattle.bench.specs.declared.state.State.{State}

-- something has the property, and nothing else has
abbrev pub ExactlyOne : {X : Type 0} → (X → Type 0) → Type 0
ExactlyOne {X} P = (x : X) × P x × ((y : X) → P y → y ≡ x)

-- each request has exactly one answer and one state left
abbrev pub OneResponse : Type 0
OneResponse = (s : State) (op y : ℤ) → ExactlyOne (λ (o : Outcome). Responds s op y o.0 o.1)

-- they are those of the function
abbrev pub RespondResponds : Type 0
RespondResponds = (s : State) (op y : ℤ) → Responds s op y (respond s op y).0 (respond s op y).1

-- a valid state is left valid
abbrev pub StaysValid : Type 0
StaysValid = (s : State) (op y : ℤ) (r : Answer) (t : State) → Valid s → Responds s op y r t → Valid t

-- a fault changes nothing
abbrev pub FaultKeeps : Type 0
FaultKeeps = (s : State) (op y : ℤ) (f : Fault) (t : State) → Responds s op y (Err f) t → t ≡ s

-- the request for an action asks for that action
abbrev pub AskedFor : Type 0
AskedFor = (act : Action) → action_of (request_of act).operation (request_of act).number ≡ Ok act

-- a set-up with eight counts, and a turn by a number, has exactly one outcome
abbrev pub OneSetUp : Type 0
OneSetUp = (counts : List ℤ) → length counts ≡ feeder_count → ExactlyOne (λ (o : Result (Unit {0}) SetUpRefusal × State). SetsUp counts o.0 o.1)

abbrev pub OneTurn : Type 0
OneTurn = (z : ℤ) → ExactlyOne (λ (o : Result (Unit {0}) ShiftRefusal × Angle). TurnsBy z o.0 o.1)

-- an angle that is read twice under one shift is as it was
abbrev pub ReadTwice : Type 0
ReadTwice = (z a : Angle) → read_under z (read_under z a) ≡ a

-- under a shift of 90 degrees, 270 degrees read as 180
abbrev pub WorkedReading : Type 0
WorkedReading = reading 9000 27000 ≡ 18000
