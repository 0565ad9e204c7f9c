-- What a go tells of where a run is.
use Rattle.std.specs.Prelude.{Result, Ok, Err}
use Rattle.language.specs.Runs.{Run, running, ended}
use Rattle.language.specs.declared.ending.Ending.{Ending}

-- a run that has come so far; s is its state, if it has not ended
abbrev pub progressed : {S : Type 0} → Result (Unit {0}) Ending → S → Run S
progressed (Ok d) s = running s
progressed (Err e) s = ended e

-- all that is told of a run
abbrev pub run_of : Result (Unit {0}) Ending → Run (Unit {0})
run_of p = progressed p tt
