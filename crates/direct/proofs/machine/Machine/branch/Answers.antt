use Rattle.std.proofs.Common.{rules}
use Rattle.direct.proofs.Programs.{formed}
use Rattle.direct.proofs.Rules.{by_branch, by_branch_not}
use Rattle.direct.proofs.machine.Machine.branch.Goals as goal
use Rattle.direct.specs.Machines.{state_of}
use Rattle.direct.specs.Programs.{records_in}

pub returns-then-get : goal.returns-then-get
returns-then-get c b =
    let p = c.args.program.now in
    let z = c.if-get.true in
    by_branch (records_in p) (formed p) (state_of c.args.self.now) c.requires.reached b c.args.x c.args.y c.requires.here.then c.requires.here.otherwise c.link-link.result _ c.requires.here.there c.link-link.ensures (search rules) c.enter.ensures

pub returns-else-get : goal.returns-else-get
returns-else-get c b =
    let p = c.args.program.now in
    let z = c.if-get.false in
    by_branch_not (records_in p) (formed p) (state_of c.args.self.now) c.requires.reached b c.args.x c.args.y c.requires.here.then c.requires.here.otherwise c.link-link.result _ c.requires.here.there c.link-link.ensures (search rules) c.enter-else-get.ensures
