use Rattle.std.proofs.Common.{◌≡◌, Some, None, Option, refl, w32, to_z, of_z, rules}
use Rattle.continuation.proofs.Programs.{formed}
use Rattle.continuation.proofs.Rules.{throw_below, throw_lands, by_throw, by_uncaught, handed_back}
use Rattle.continuation.proofs.machine.Machine.throw.Goals as goal
use Rattle.continuation.specs.Machines.{configuration}
use Rattle.continuation.specs.Programs.{records_in}
use Rattle.continuation.specs.declared.cell.Landing.{Landing}
use Rattle.std.specs.Option.{IsSome}

pub returns-in_err-at : goal.returns-in_err-at
returns-in_err-at c b =
    let p = c.args.program.now in
    let none : c.args.self.now.handler ≡ None = search rules in
    by_uncaught (records_in p) (formed p) (configuration c.args.self.now) b _ c.args.x (to_z w32 (of_z w32 c.content-value.result)) c.from_residual.result c.requires.here none (search rules) (search rules)

pub release-cell-requires : goal.release-cell-requires
release-cell-requires c =
    let p = c.args.program.now in
    let some : c.args.self.now.handler ≡ Some c.in_ok-at.at = search rules in
    throw_below (records_in p) (formed p) (configuration c.args.self.now) c.args.x c.in_ok-at.at c.requires.going c.requires.here some

-- a cell that is a handler has a landing
lands : (o : Option Landing) → (o ≡ None → ⊥) → IsSome o
lands (Some l) never = refl
lands None never = absurd (never refl)

pub unwrap-landing-requires : goal.unwrap-landing-requires
unwrap-landing-requires c =
    let p = c.args.program.now in
    let some : c.args.self.now.handler ≡ Some c.in_ok-at.at = search rules in
    lands c.release-cell.result.landing (λ none. throw_lands (records_in p) (formed p) (configuration c.args.self.now) c.args.x c.in_ok-at.at c.release-cell.result c.requires.going c.requires.here some c.release-cell.ensures.cell none)

pub returns : goal.returns
returns c b =
    let p = c.args.program.now in
    let some : c.args.self.now.handler ≡ Some c.in_ok-at.at = search rules in
    by_throw (records_in p) (formed p) (configuration c.args.self.now) b _ c.args.x c.in_ok-at.at c.release-cell.result c.unwrap-landing.result (to_z w32 (of_z w32 c.content-value.result))
    c.requires.here some c.release-cell.ensures.cell c.unwrap-landing.ensures (search rules) (handed_back c.args.self.now c.in_ok-at.at c.release-cell.result _ _ _ _ _ c.release-cell.ensures.below c.hand.ensures)
