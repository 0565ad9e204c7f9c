use Rattle.std.proofs.Common.{◌≡◌, Some, None, w32, to_z, of_z, rules}
use Rattle.continuation.proofs.Programs.{formed}
use Rattle.continuation.proofs.Rules.{resume_below, by_resume, by_finish, handed_back}
use Rattle.continuation.proofs.machine.Machine.resume.Goals as goal
use Rattle.continuation.specs.Machines.{configuration}
use Rattle.continuation.specs.Programs.{records_in}

pub returns-in_err-at : goal.returns-in_err-at
returns-in_err-at c b =
    let p = c.args.program.now in
    let none : c.args.self.now.continuation ≡ None = search rules in
    by_finish (records_in p) (formed p) (configuration c.args.self.now) b _ c.args.x (to_z w32 (of_z w32 c.get-value.result)) c.from_residual.result c.requires.here none (search rules) (search rules)

pub release-cell-requires : goal.release-cell-requires
release-cell-requires c =
    let p = c.args.program.now in
    let some : c.args.self.now.continuation ≡ Some c.in_ok-at.at = search rules in
    resume_below (records_in p) (formed p) (configuration c.args.self.now) c.args.x c.in_ok-at.at c.requires.going c.requires.here some

pub returns : goal.returns
returns c b =
    let p = c.args.program.now in
    let some : c.args.self.now.continuation ≡ Some c.in_ok-at.at = search rules in
    by_resume (records_in p) (formed p) (configuration c.args.self.now) b _ c.args.x c.in_ok-at.at c.release-cell.result (to_z w32 (of_z w32 c.get-value.result))
    c.requires.here some c.release-cell.ensures.cell (search rules) (handed_back c.args.self.now c.in_ok-at.at c.release-cell.result _ _ _ _ _ c.release-cell.ensures.below c.hand.ensures)
