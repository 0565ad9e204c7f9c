-- The matching: the configuration of a run in continuation form that a state of a run from the table
-- becomes. Nothing is free in it but register 16, which the table's run does not have.
use Rattle.std.specs.Prelude.{ℕ, pred, List, [], ◌∷◌, ◌++◌, length, ℤ, Some, None, Option}
use Rattle.language.specs.Configurations.{Landing, Cell, Configuration}
use Rattle.language.specs.Runs.{Frame, State, Run, running, ended}
use Rattle.language.specs.Translation.{address}
use Rattle.language.specs.declared.handler.Handler.{Handler}
use Rattle.language.specs.declared.record.Record.{Record}

-- each frame becomes a cell; frames have the newest first and cells the oldest, so the cell of a frame
-- has as many cells below it as the frame has frames
abbrev pub newest : List Frame → Option ℕ
newest [] = None
newest (f ∷ fs) = Some (length fs)

-- the cell of the newest frame whose block has a handler
abbrev pub or_catching : Option Handler → ℕ → Option ℕ → Option ℕ
or_catching (Some h) i o = Some i
or_catching None i o = o

abbrev pub catching : List Frame → Option ℕ
catching [] = None
catching (f ∷ fs) = or_catching f.handler (length fs) (catching fs)

-- the jump to a handler stands right before the rest, whose address is a
abbrev pub landing : Option Handler → ℕ → Option Landing
landing None a = None
landing (Some h) a = Some (record { catch = h.catch; address = pred a })

module _ (t : List Record) where
  abbrev pub cell : Frame → List Frame → Cell
  cell f fs = record { result = f.result; rest = address t f.next; landing = landing f.handler (address t f.next); variables = f.variables; continuation = newest fs; handler = catching fs }

  abbrev pub cells : List Frame → List Cell
  cells [] = []
  cells (f ∷ fs) = cells fs ++ cell f fs ∷ []

  -- v stands in register 16
  abbrev pub matching : ℤ → State → Configuration
  matching v s = record { counter = address t s.at; variables = s.variables; register = v; continuation = newest s.frames; handler = catching s.frames; cells = cells s.frames }

  -- endings are equal
  abbrev pub matching_run : ℤ → Run State → Run Configuration
  matching_run v (running s) = running (matching v s)
  matching_run v (ended e) = ended e
