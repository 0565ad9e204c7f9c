use Rattle.std.proofs.Common.{◌≡◌, ◌∙◌, rules}
use Rattle.std.specs.Option.{option_map}
use Rattle.few.specs.Held.{held}
use Rattle.table.specs.declared.entries.BlockEntry.{BlockEntry}
use Rattle.table.specs.Checked.{records_of}
use Rattle.table.proofs.Links.{block_named}
use Rattle.table.proofs.table.Table.block.Goals as goal

pub returns : goal.returns
returns c =
    let m = c.args.self.now in
    let mapped : c.map.result ≡ option_map (λ (e : BlockEntry). e.place) c.block.result = search rules in
    mapped ∙ block_named c.args.routine c.args.label (records_of m) (held m.index.blocks) c.block.result c.block.ensures m.indexed.block_list
