use Rattle.std.proofs.Common.{◌≡◌, length, get_or, subst, arith}
use Rattle.std.proofs.lemmas.Option.{slice_get-get_or}
use Rattle.language.specs.declared.record.Record.TheVariants.{Routine}
use Rattle.table.proofs.BlockLayer.{Sofar, more, first, done, left_open}
use Rattle.table.proofs.blocks.check_blocks.Goals as goal
use Rattle.table.proofs.blocks.check_blocks.Goals.{After-loop-place, in-Routine, in-Block, in-Body}

pub returns-in-Some : goal.returns-in-Some
returns-in-Some c =
    let t = c.args.records.now in
    let p = c.loop-place.place in
    let d = Routine 0 0 0 in
    first t p _ _ _ c.loop-place.invariant (get_or t p d) (slice_get-get_or t p d c.loop-place-test.true) c.in-Some.cause c.in-Some.ensures

pub loop-place-preserved : goal.loop-place-preserved
loop-place-preserved c =
    let t = c.args.records.now in
    let p = c.loop-place.place in
    let d = Routine 0 0 0 in
    let next = more t p _ _ _ c.loop-place.invariant (get_or t p d) (slice_get-get_or t p d c.loop-place-test.true) _ _ _ c.in_default.ensures c.after-flow.ensures in
    elim c.match-at.branch [
      | in-Routine w ↦ next _ w.in-Routine.is w.routines-is w.blocks-is
      | in-Block w ↦ next _ w.in-Block.is w.routines-is w.blocks-is
      | in-Body w ↦ next _ w.in-Body.is w.routines-is w.blocks-is
    ]

-- the loop has come to the end
ended : (c : After-loop-place) → Sofar c.args.records.now (length c.args.records.now) c.loop-place.flow c.loop-place.routines c.loop-place.blocks
ended c =
    let e : c.loop-place.place ≡ length c.args.records.now = omega arith in
    subst (λ p. Sofar c.args.records.now p c.loop-place.flow c.loop-place.routines c.loop-place.blocks) e c.loop-place.invariant

pub returns-in-Open : goal.returns-in-Open
returns-in-Open c = left_open c.args.records.now _ _ _ (ended (goal.at.returns-in-Open c).After-loop-place) c.in-Open.is

pub returns-in_default-flow : goal.returns-in_default-flow
returns-in_default-flow c = done c.args.records.now _ _ _ (ended (goal.at.returns-in_default-flow c).After-loop-place) c.in_default-flow.not-Open
