use Rattle.std.proofs.Common.{◌≡◌, ◌+◌, ◌-◌, pos, subst, ap, ◌∙◌, arith}
use Rattle.std.specs.List.{flat_map}
use Rattle.language.specs.declared.operation.Operation.TheVariants.{Set}
use Rattle.language.specs.Code.{word_bytes}
use Rattle.language.specs.Translation.{clears, small}
use Rattle.translation.specs.Buffers.{Appends}
use Rattle.translation.proofs.Appending.{clears_append}
use Rattle.translation.proofs.layout.writing.put_clears.Goals as goal

pub loop-x-preserved : goal.loop-x-preserved
loop-x-preserved c =
    let p = c.args.parameters in
    let x = c.loop-x.x in
    let more : (x - p) + 1 ≡ x + 1 - p = omega (arith, c.loop-x.auto.x) in
    let here : x ≡ p + (x - p) = omega (arith, c.loop-x.auto.x) in
    record {
      next = omega (arith, c.loop-x.auto.x, c.loop-x.invariant.next, c.put-next.ensures.wide, c.put-next.ensures.appends.next);
      appends = subst (λ n. Appends c.args.at (flat_map word_bytes (clears p n)) c.args.out.now c.put-next.new.out c.put-next.result) more
          (clears_append p (x - p) c.args.at c.loop-x.next c.put-next.result c.args.out.now c.loop-x.out c.put-next.new.out c.small.result (c.small.ensures ∙ ap (λ n. small (Set n (pos 0))) here) c.loop-x.invariant.appends c.put-next.ensures.appends);
    }
