-- The records that a layout is of.
use Rattle.std.specs.Prelude.{List}
use Rattle.language.specs.declared.record.Record.{Record}
use Rattle.table.specs.Checked.{records_of}
use Rattle.translation.specs.declared.layout.Layout.{Layout}

abbrev pub laid_out : Layout → List Record
laid_out l = records_of l.table.now
