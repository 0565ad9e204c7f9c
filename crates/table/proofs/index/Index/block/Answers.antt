use Rattle.std.proofs.Common.{◌≡◌, eqb, sym, ap, ◌∙◌}
use Rattle.std.proofs.lemmas.Bool.{eqb-true, eq-eqb, and_parts, and_from}
use Rattle.table.specs.declared.entries.BlockKey.{BlockKey}
use Rattle.table.specs.Entries.{of_block, no_block_entry, block_found}
use Rattle.table.proofs.Finding.{gets_entry}
use Rattle.table.proofs.index.Index.block.Goals as goal

pub returns : goal.returns
returns c =
    let r = c.args.routine in
    let l = c.args.label in
    let key : BlockKey = record { routine = r; label = l } in
    gets_entry (λ e. e.key ≡ key) (of_block r l)
    (λ e h.
    let both = and_parts (eqb r e.key.routine) (eqb l e.key.label) h in
    let er = eqb-true r e.key.routine both.0 in
    let el = eqb-true l e.key.label both.1 in
    λ i. record { routine = sym er i; label = sym el i })
    (λ e h.
    and_from (eqb r e.key.routine) (eqb l e.key.label)
    (eq-eqb r e.key.routine (sym (ap (λ (k : BlockKey). k.routine) h)))
    (eq-eqb l e.key.label (sym (ap (λ (k : BlockKey). k.label) h))))
    no_block_entry c.as_slice.result.now c.first.result c.first.ensures
    ∙ ap (λ bs. block_found bs r l) c.as_slice.ensures
