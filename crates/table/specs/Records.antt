-- What layer 1 answers: the records that the bytes hold, or the first cause that stands in them.
use Rattle.std.specs.Prelude.{ℕ, List, Ok, Err, Result}
use Rattle.language.specs.declared.cause.RecordCause.{RecordCause}
use Rattle.language.specs.declared.record.Record.{Record}
use Rattle.language.specs.WellFormed.{Holds}
use Rattle.language.specs.Causes.{record_number_of, InRecords}
use Rattle.language.specs.Refusals.{First}
use Rattle.few.specs.declared.few.Few.{Few}
use Rattle.table.specs.declared.fault.Located.{Located}
use Rattle.few.specs.Held.{held}

abbrev pub Recorded : List ℕ → Result (Few Record 256) (Located RecordCause) → Type 0
Recorded bs (Ok records) = Holds bs (held records)
Recorded bs (Err f) = First record_number_of (InRecords bs) f.cause f.place
