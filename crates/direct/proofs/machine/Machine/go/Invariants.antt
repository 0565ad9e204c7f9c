use Rattle.direct.proofs.Chains.{Chain}
use Rattle.direct.proofs.machine.Machine.go.Given as goal
use Rattle.direct.specs.Machines.{state_of}
use Rattle.direct.specs.Programs.{records_in}

abbrev pub invariant-loop-made : goal.invariant-loop-made
invariant-loop-made g l =
    let bench = g.B.Bench.state in
    Chain (records_in l.program) l.made (state_of l.initial.self) (bench l.initial.bench) (state_of l.self) (bench l.bench)
