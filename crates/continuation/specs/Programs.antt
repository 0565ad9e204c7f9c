-- What is read from a program.
use Rattle.std.specs.Prelude.{List}
use Rattle.continuation.specs.declared.program.Program.{Program}
use Rattle.language.specs.declared.record.Record.{Record}
use Rattle.table.specs.Checked.{records_of}

abbrev pub records_in : Program → List Record
records_in p = records_of p.table
