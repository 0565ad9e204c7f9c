use Rattle.std.proofs.Common.{◌≡◌, List, [], ◌∷◌, ◌++◌, ◌+◌, length, get_or, sym, ap, ◌∙◌, subst, arith, rules}
use Rattle.direct.proofs.Made.{Made, one_made, all_made}
use Rattle.direct.proofs.linking.link_table.Goals as goal
use Rattle.few.specs.Held.{held}
use Rattle.language.specs.declared.record.Record.{Record}
use Rattle.language.specs.declared.record.Record.TheVariants.{Routine}
use Rattle.std.proofs.lemmas.Option.{slice_get-get_or}
use Rattle.std.specs.List.{slice_get}
use Rattle.table.specs.Checked.{records_of}

pub loop-next-preserved : goal.loop-next-preserved
loop-next-preserved c =
    let t = records_of c.args.table.now in
    let xs = c.records-next-items.result.now in
    let same = c.records-next-items.ensures.same in
    let i = c.loop-next.next-index in
    let x = get_or xs i (Routine 0 0 0) in
    let on = ap (λ (ys : List Record). slice_get ys i) (sym same) ∙ slice_get-get_or xs i (Routine 0 0 0) c.loop-next-test.true in
    let more : held c.push.new.self ≡ held c.loop-next.links ++ c.link.result ∷ [] = search rules in
    subst (λ ks. Made t (i + 1) c.at-scope.result ks) (sym more) (one_made t i c.loop-next.scope c.at-scope.result x (held c.loop-next.links) c.link.result c.loop-next.invariant on c.at-scope.ensures c.link.ensures.names c.link.ensures.handler)

pub returns : goal.returns
returns c =
    let t = records_of c.args.table.now in
    let end : length t ≡ c.loop-next.next-index = omega (arith, c.loop-next-test.false, c.loop-next.auto.next-index-end, ap length c.records-next-items.ensures.same) in
    all_made t c.loop-next.next-index c.loop-next.scope (held c.loop-next.links) end c.loop-next.invariant
