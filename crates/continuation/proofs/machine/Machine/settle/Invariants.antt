use Rattle.continuation.proofs.Beating.{Settling}
use Rattle.continuation.proofs.Programs.{formed}
use Rattle.continuation.proofs.machine.Machine.settle.Given as goal
use Rattle.continuation.specs.Machines.{configuration}
use Rattle.continuation.specs.Programs.{records_in}
use Rattle.language.specs.Progress.{progressed}

abbrev pub invariant-loop-made : goal.invariant-loop-made
invariant-loop-made g l =
    let bench = g.B.Bench.state in
    let p = l.program in
    Settling (records_in p) (formed p) (progressed l.fn.opened (configuration l.initial.self)) (bench l.initial.bench) l.made (progressed l.progress (configuration l.self)) (bench l.bench)
