-- The order of the lines of a script.
use Rattle.std.specs.Prelude.{ℤ}
use Rattle.bench.specs.declared.request.Request.{Request}
use Rattle.script.specs.declared.expected.Expected.{Expected}
use Rattle.script.specs.declared.expected.Expected.TheVariants as expected
use Rattle.script.specs.declared.line.Line.{Line}
use Rattle.script.specs.declared.line.Line.TheVariants.{Bench, Turn, Load, Jog, State}
use Rattle.script.specs.declared.pairing.Pairing.{Pairing}
use Rattle.script.specs.declared.position.Position.{Position}
use Rattle.script.specs.declared.position.Position.TheVariants.{Start, Opened, Within, Closed}

-- a section stands open: it has begun, and its state is not yet asked for
abbrev pub Open : Position → Type 0
Open Start = ⊥
Open Opened = Unit {0}
Open Within = Unit {0}
Open Closed = ⊥

-- at the position p, this line may come, and leads to that position
pub data Next : Position → Line → Position → Type 0 where
  -- a bench line begins a section, and ends the one before
  begins : {p : Position} {b : Pairing} → Next p (Bench b) Opened
  -- the benches are turned right after they are set up, or not at all
  turns : {z : ℤ} → Next Opened (Turn z) Within
  -- any number of events
  loads : {p : Position} → Open p → Next p Load Within
  jogs : {p : Position} {r : Request} → Open p → Next p (Jog r) Within
  -- the state is asked for once, at the end
  ends : {p : Position} → Open p → Next p State Closed

-- what is expected at a position, where a line that may not come there comes
abbrev pub wanted : Position → Expected
wanted Start = expected.Bench
wanted Opened = expected.Event
wanted Within = expected.Event
wanted Closed = expected.Bench
