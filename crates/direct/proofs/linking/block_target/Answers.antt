use Rattle.std.proofs.Common.{ap, sym, ◌∙◌}
use Rattle.direct.proofs.Finding.{if_found, block_below}
use Rattle.direct.proofs.linking.block_target.Goals as goal
use Rattle.direct.specs.declared.link.Target.{Target}
use Rattle.table.specs.Checked.{records_of}

pub target-requires : goal.target-requires
target-requires c = if_found _ _ (λ j e. block_below (records_of c.args.table.now) c.args.routine c.args.label j (sym c.block.ensures ∙ e))

pub returns : goal.returns
returns c = record {
  at = λ j h d. ap (λ (v : Target). v.at) (c.target.ensures j _ (c.block.ensures ∙ d.first) d.there);
  under = λ j h d. ap (λ (v : Target). v.handler) (c.target.ensures j _ (c.block.ensures ∙ d.first) d.there);
}
