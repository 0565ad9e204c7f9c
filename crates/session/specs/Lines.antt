-- What a line by itself adds to a section: a turn line its shift, a jog line its request, a state line
-- the wish for the state. A bench line begins another section; the table of a load line is read apart.
use Rattle.std.specs.Prelude.{Bool, true, List, [], ◌∷◌, ℤ, Some, Option}
use Rattle.script.specs.declared.line.Line.{Line}
use Rattle.script.specs.declared.line.Line.TheVariants.{Bench, Turn, Load, Jog, State}
use Rattle.session.specs.declared.event.Event.{Event}
use Rattle.session.specs.declared.event.Event.TheVariants as event

abbrev pub turn_with : Line → Option ℤ → Option ℤ
turn_with (Bench b) t = t
turn_with (Turn z) t = Some z
turn_with Load t = t
turn_with (Jog q) t = t
turn_with State t = t

abbrev pub jogs_of : Line → List Event
jogs_of (Bench b) = []
jogs_of (Turn z) = []
jogs_of Load = []
jogs_of (Jog q) = event.Jog q ∷ []
jogs_of State = []

abbrev pub state_with : Line → Bool → Bool
state_with (Bench p) b = b
state_with (Turn z) b = b
state_with Load b = b
state_with (Jog q) b = b
state_with State b = true
