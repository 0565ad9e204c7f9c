-- What the code's frames stand for in the rules.
use Rattle.std.specs.Prelude.{List, map, reverse}
use Rattle.direct.specs.declared.frame.Frame.{Frame}
use Rattle.few.specs.Held.{held}
use Rattle.few.specs.declared.few.Few.{Few}
use Rattle.language.specs.Runs.{Frame as Saved}

abbrev pub frame_of : Frame → Saved
frame_of f = record { routine = f.routine; handler = f.handler; next = f.next; variables = f.variables.values; result = f.result }

-- the frames that stand, the newest first
abbrev pub standing : Few Frame 32 → List Saved
standing s = map frame_of (reverse (held s))
