use Rattle.std.proofs.Common.{◌≡◌, length}
use Rattle.direct.specs.Views.{standing}
use Rattle.language.specs.Runs.{catcher}
use Rattle.few.specs.Held.{held}
use Rattle.direct.proofs.frames.catch.Given as goal

abbrev pub invariant-loop-frame : goal.invariant-loop-frame
invariant-loop-frame l = catcher (standing l.frames) ≡ catcher (standing l.initial.frames)

abbrev pub decreases-loop-frame : goal.decreases-loop-frame
decreases-loop-frame l = length (held l.frames)
