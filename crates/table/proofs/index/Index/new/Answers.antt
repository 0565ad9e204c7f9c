use Rattle.std.proofs.Common.{get_or, ap, ◌∙◌}
use Rattle.std.proofs.lemmas.Option.{slice_get-get_or}
use Rattle.language.specs.declared.record.Record.TheVariants.{Routine}
use Rattle.few.proofs.Pushing.{pushed}
use Rattle.few.specs.Held.{held}
use Rattle.table.specs.declared.index.Index.{Index}
use Rattle.table.proofs.Indexing.{more_routine, more_block, more_body}
use Rattle.table.proofs.index.Index.new.Goals as goal
use Rattle.table.proofs.index.Index.new.Goals.{in-Routine, in-Block, in-Body}

pub loop-place-preserved : goal.loop-place-preserved
loop-place-preserved c =
    let t = c.args.records.now in
    let p = c.loop-place.place in
    let d = Routine 0 0 0 in
    let on = slice_get-get_or t p d c.loop-place-test.true in
    let rs = held c.loop-place.index.routines in
    let bs = held c.loop-place.index.blocks in
    elim c.match-at.branch [
      | in-Routine w ↦
          more_routine t p _ _ _ c.loop-place.invariant (get_or t p d) on _ c.at-scope.ensures _ _ _ _ _ w.in-Routine.is
          (ap (λ (i : Index). held i.routines) w.index-is ∙ pushed 16 rs _ w.push.result w.unwrap.result (held w.push.new.self) w.unwrap.ensures w.push.ensures) (ap (λ (i : Index). held i.blocks) w.index-is)
      | in-Block w ↦
          more_block t p _ _ _ c.loop-place.invariant (get_or t p d) on _ c.at-scope.ensures _ _ _ _ w.in-Block.is (ap (λ (i : Index). held i.routines) w.index-is)
          (ap (λ (i : Index). held i.blocks) w.index-is ∙ pushed 64 bs _ w.push-in-Block.result w.unwrap-in-Block.result (held w.push-in-Block.new.self) w.unwrap-in-Block.ensures w.push-in-Block.ensures)
      | in-Body w ↦ more_body t p _ _ _ c.loop-place.invariant (get_or t p d) on _ c.at-scope.ensures _ _ _ w.in-Body.is (ap (λ (i : Index). held i.routines) w.index-is) (ap (λ (i : Index). held i.blocks) w.index-is)
    ]
