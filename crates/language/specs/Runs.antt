-- A run of a routine from its table: its state between two beats, and what a run is.
use Rattle.std.specs.Prelude.{ℕ, suc, ◌-◌, List, [], ◌∷◌, ◌++◌, length, replicate, ℤ, pos, ◌-ℤ◌, Some, None, Option, slice_index_or, slice_set}
use Rattle.std.specs.Int.{int_wrap, w32}
use Rattle.language.specs.declared.ending.Ending.{Ending}
use Rattle.language.specs.declared.handler.Handler.{Handler}

-- how many variables a routine may have, and how many frames may stand
abbrev pub variable_count : ℕ
variable_count = 16

abbrev pub frame_count : ℕ
frame_count = 32

-- what a call saves: the routine that calls, the handler of its block, the record after the call, its
-- variables, and the variable that is to have the result
pub record Frame : Type 0 where
  pub routine : ℕ
  pub handler : Option Handler
  pub next : ℕ
  pub variables : List ℤ
  pub result : ℕ

-- the routine that runs, the handler of its block, the record it stands at, its variables, and the
-- frames that stand, the newest first
pub record State : Type 0 where
  pub routine : ℕ
  pub handler : Option Handler
  pub at : ℕ
  pub variables : List ℤ
  pub frames : List Frame

-- a run is under way, or has ended
pub data Run (S : Type 0) : Type 0 where
  running : S → Run S
  ended : Ending → Run S

-- the value of a variable
abbrev pub value : List ℤ → ℕ → ℤ
value vs x = slice_index_or vs x (pos 0)

-- the variables of a routine that is given these arguments: they come first, the others are 0
abbrev pub with_arguments : List ℤ → List ℤ
with_arguments vs = vs ++ replicate (variable_count - length vs) (pos 0)

-- a difference is cut to 32 bits
unfoldable pub difference : ℤ → ℤ → ℤ
difference y z = int_wrap w32 (y -ℤ z)

-- the state one record further, with these variables
abbrev pub onward : State → List ℤ → State
onward s vs = record { routine = s.routine; handler = s.handler; at = suc s.at; variables = vs; frames = s.frames }

-- the state at the start of the block that record j heads, under its handler h
abbrev pub into : State → List ℤ → ℕ → Option Handler → State
into s vs j h = record { routine = s.routine; handler = h; at = suc j; variables = vs; frames = s.frames }

-- what the state saves for a call whose result goes to x
abbrev pub saved : State → ℕ → Frame
saved s x = record { routine = s.routine; handler = s.handler; next = suc s.at; variables = s.variables; result = x }

-- the state at the start of the routine g, which record j heads, called with arguments of these values
abbrev pub called_into : State → ℕ → ℕ → ℕ → List ℤ → State
called_into s x g j vs = record { routine = g; handler = None; at = suc j; variables = with_arguments vs; frames = saved s x ∷ s.frames }

-- the state that a frame saved, with its result, over the frames below
abbrev pub returned_to : Frame → List Frame → ℤ → State
returned_to f fs v = record { routine = f.routine; handler = f.handler; at = f.next; variables = slice_set f.variables f.result v; frames = fs }

-- of the frames that stand, the newest whose block has a handler, that handler, and the frames below
pub record Catcher : Type 0 where
  pub frame : Frame
  pub handler : Handler
  pub below : List Frame

abbrev pub or_catcher : Option Handler → Frame → List Frame → Option Catcher → Option Catcher
or_catcher (Some h) f fs c = Some (record { frame = f; handler = h; below = fs })
or_catcher None f fs c = c

abbrev pub catcher : List Frame → Option Catcher
catcher [] = None
catcher (f ∷ fs) = or_catcher f.handler f fs (catcher fs)

-- the state in which a frame's handler goes on: with what the frame saved, in the block that record j
-- heads, under its handler g
abbrev pub caught : Catcher → ℤ → ℕ → Option Handler → State
caught c v j g = record { routine = c.frame.routine; handler = g; at = suc j; variables = slice_set c.frame.variables c.handler.catch v; frames = c.below }
