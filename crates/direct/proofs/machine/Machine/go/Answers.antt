use Rattle.std.proofs.Common.{◌≡◌, arith}
use Rattle.direct.proofs.Chains.{none_yet, one_more, ends, suffices}
use Rattle.direct.proofs.Programs.{formed}
use Rattle.direct.proofs.machine.Machine.go.Goals as goal
use Rattle.direct.specs.Machines.{state_of}
use Rattle.direct.specs.Programs.{records_in}

pub loop-made-init : goal.loop-made-init
loop-made-init g c = none_yet (records_in c.args.program.now) (state_of c.args.self.now) _ c.requires

pub returns-in-Err : goal.returns-in-Err
returns-in-Err g c =
    let p = c.args.program.now in
    ends (records_in p) (state_of c.args.self.now) _ c.loop-made.made (state_of c.loop-made.self) _ c.loop-made.invariant c.args.count c.in-Err.ending _ _ c.loop-made-test.true c.in-Err.ensures

pub loop-made-preserved : goal.loop-made-preserved
loop-made-preserved g c =
    let p = c.args.program.now in
    one_more (records_in p) (state_of c.args.self.now) _ c.loop-made.made (state_of c.loop-made.self) _ c.loop-made.invariant (formed p) _ _ c.in_default.ensures

pub returns : goal.returns
returns g c =
    let all : c.loop-made.made ≡ c.args.count = omega (arith, c.loop-made-test.false, c.loop-made.auto.made-end) in
    suffices (records_in c.args.program.now) (state_of c.args.self.now) _ c.loop-made.made (state_of c.loop-made.self) _ c.loop-made.invariant c.args.count all
