-- An index has the entries of a table's headings.
use Rattle.std.specs.Prelude.{◌≡◌, List}
use Rattle.language.specs.declared.record.Record.{Record}
use Rattle.table.specs.declared.index.Index.{Index}
use Rattle.table.specs.Entries.{routine_entries, block_entries}
use Rattle.few.specs.Held.{held}

pub record Indexes (index : Index) (t : List Record) : Type 0 where
  pub routine_list : held index.routines ≡ routine_entries t
  pub block_list : held index.blocks ≡ block_entries t
