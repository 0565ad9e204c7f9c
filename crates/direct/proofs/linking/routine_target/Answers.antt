use Rattle.std.proofs.Common.{ap, sym, ◌∙◌}
use Rattle.direct.proofs.Finding.{if_found, routine_below}
use Rattle.direct.proofs.linking.routine_target.Goals as goal
use Rattle.direct.specs.declared.link.Target.{Target}
use Rattle.table.specs.Checked.{records_of}

pub target-requires : goal.target-requires
target-requires c = if_found _ _ (λ j e. routine_below (records_of c.args.table.now) c.args.identifier j (sym c.routine.ensures ∙ e))

pub returns : goal.returns
returns c = record { at = λ j p q d. ap (λ (v : Target). v.at) (c.target.ensures j _ (c.routine.ensures ∙ d.first) d.there) }
