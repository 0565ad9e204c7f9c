use Rattle.std.proofs.Common.{◌≤◌, List, length, get_or, sym, ap, ◌∙◌, arith}
use Rattle.std.specs.List.{slice_get}
use Rattle.std.proofs.lemmas.Option.{slice_get-get_or}
use Rattle.language.specs.declared.record.Record.{Record}
use Rattle.language.specs.declared.record.Record.TheVariants.{Routine}
use Rattle.language.specs.Bytes.{InRange}
use Rattle.language.proofs.Lists.{all_nth}
use Rattle.translation.specs.Layouts.{laid_out}
use Rattle.translation.proofs.Tabling.{record_room, tabled_more, tabled_count, tabled_after}
use Rattle.translation.proofs.layout.Layout.put.Goals as goal

pub put_record-at-requires : goal.put_record-at-requires
put_record-at-requires c =
    let t = laid_out c.args.self.now in
    let xs = c.records-next-items.result.now in
    let i = c.loop-next.next-index in
    let x = get_or xs i (Routine 0 0 0) in
    let at = slice_get-get_or xs i (Routine 0 0 0) c.loop-next-test.true in
    let on = ap (λ (ys : List Record). slice_get ys i) (sym c.records-next-items.ensures.same) ∙ at in
    record {
      ranged = all_nth InRange xs i x c.records-next-items.ensures.formed.legible.ranged at;
      room =
          record_room t i c.loop-next.scope c.at-scope.result x c.loop-next.at c.args.out.now c.loop-next.out c.loop-next.invariant on c.at-scope.ensures _ (omega (arith, c.requires, c.loop-next.auto.out));
    }

pub loop-next-preserved : goal.loop-next-preserved
loop-next-preserved c =
    let t = laid_out c.args.self.now in
    let xs = c.records-next-items.result.now in
    let i = c.loop-next.next-index in
    let x = get_or xs i (Routine 0 0 0) in
    let on = ap (λ (ys : List Record). slice_get ys i) (sym c.records-next-items.ensures.same) ∙ slice_get-get_or xs i (Routine 0 0 0) c.loop-next-test.true in
    tabled_more t i c.loop-next.scope c.at-scope.result x c.loop-next.at c.args.out.now c.loop-next.out c.loop-next.invariant on c.at-scope.ensures c.put_record-at.new.out c.put_record-at.result c.put_record-at.ensures.place c.put_record-at.ensures.appends

pub returns : goal.returns
returns c =
    let t = laid_out c.args.self.now in
    let end : length t ≤ c.loop-next.next-index = omega (arith, c.loop-next-test.false, ap length c.records-next-items.ensures.same) in
    record {
      count = tabled_count t c.loop-next.next-index c.loop-next.scope c.loop-next.at c.args.out.now c.loop-next.out c.loop-next.invariant end;
      after = tabled_after t c.loop-next.next-index c.loop-next.scope c.loop-next.at c.args.out.now c.loop-next.out c.loop-next.invariant end;
    }
