-- What the machine stands for in the rules, and what its moves do.
use Rattle.std.specs.Prelude.{◌≡◌, ℕ, ◌<◌, List, [], ◌∷◌, map, length, ℤ, Some, None, Ok, Err, Option, Result}
use Rattle.direct.specs.Views.{standing}
use Rattle.direct.specs.declared.machine.Machine.{Machine}
use Rattle.few.specs.declared.full.Full.{Full}
use Rattle.language.specs.Runs.{frame_count, Frame as Saved, State, value, with_arguments, saved, returned_to}
use Rattle.language.specs.declared.handler.Handler.{Handler}

abbrev pub state_of : Machine → State
state_of m = record { routine = m.routine; handler = m.handler; at = m.at; variables = m.variables.values; frames = standing m.frames }

-- the state at another place, under another handler
abbrev pub entered : State → ℕ → Option Handler → State
entered s i h = record { routine = s.routine; handler = h; at = i; variables = s.variables; frames = s.frames }

-- a call of the routine g, whose instructions begin at a place, with the values of these variables
abbrev pub Called : State → ℕ → ℕ → ℕ → List ℕ → Result (Unit {0}) Full → State → Type 0
Called s x g at ys (Ok d) s' =
    (length s.frames < frame_count)
    × (s' ≡ record { routine = g; handler = None; at = at; variables = with_arguments (map (value s.variables) ys); frames = saved s x ∷ s.frames })
Called s x g at ys (Err e) s' = (length s.frames ≡ frame_count) × (s' ≡ s)

-- a return to the newest frame, with this result; where no frame stands, nothing has changed
abbrev pub Resumed : State → ℤ → Option (Unit {0}) → State → Type 0
Resumed s v (Some d) s' = (f : Saved) × (fs : List Saved) × (s.frames ≡ f ∷ fs) × (s' ≡ returned_to f fs v)
Resumed s v None s' = (s.frames ≡ []) × (s' ≡ s)

-- what is left where nobody takes what is raised: all frames are given up, and nothing else has changed
abbrev pub frameless : State → State
frameless s = record { routine = s.routine; handler = s.handler; at = s.at; variables = s.variables; frames = [] }
