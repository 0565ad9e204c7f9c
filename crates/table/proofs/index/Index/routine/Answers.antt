use Rattle.std.proofs.Common.{◌≡◌, sym, ap, ◌∙◌}
use Rattle.std.proofs.lemmas.Bool.{eqb-true, eq-eqb}
use Rattle.table.specs.Entries.{of_routine, no_routine_entry, routine_found}
use Rattle.table.proofs.Finding.{gets_entry}
use Rattle.table.proofs.index.Index.routine.Goals as goal

pub returns : goal.returns
returns c =
    let g = c.args.identifier in
    gets_entry (λ e. e.identifier ≡ g) (of_routine g) (λ e h. sym (eqb-true g e.identifier h)) (λ e h. eq-eqb g e.identifier (sym h)) no_routine_entry c.as_slice.result.now c.first.result c.first.ensures
    ∙ ap (λ rs. routine_found rs g) c.as_slice.ensures
