-- What is kept of a run: until it has ended, its machine is in a state that the table's rules reach.
use Rattle.direct.specs.Machines.{state_of}
use Rattle.direct.specs.Programs.{records_in}
use Rattle.direct.specs.declared.program.Program.{Program}
use Rattle.direct.specs.declared.run.Run.{Run}
use Rattle.language.specs.Progress.{progressed}
use Rattle.language.specs.Reachable.{ReachableRun}
use Rattle.language.specs.Runs.{State, Run as Going}
use Rattle.std.specs.Prelude.{Some, None, Option}

abbrev pub run_at : Run → Going State
run_at r = progressed r.progress (state_of r.machine)

abbrev pub Keeps : Program → Option Run → Type 0
Keeps p None = Unit {0}
Keeps p (Some r) = ReachableRun (records_in p) (run_at r)
