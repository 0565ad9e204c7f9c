-- What the check answers.
use Rattle.std.specs.Prelude.{◌≡◌, ℕ, ◌≤◌, List, Ok, Err, Result}
use Rattle.language.specs.declared.record.Record.{Record}
use Rattle.language.specs.WellFormed.{WellFormed, Holds, WellFormedBytes}
use Rattle.language.specs.Refusals.{Refused}
use Rattle.table.specs.declared.fault.TableFault.{TableFault}
use Rattle.table.specs.declared.table.Table.{Table}
use Rattle.table.specs.Faults.{fault_layer, fault_cause, fault_place}
use Rattle.few.specs.Held.{held}

-- the records of a table
abbrev pub records_of : Table → List Record
records_of m = held m.records

-- the bytes hold the records, and these are well formed
pub record Accepts (bs : List ℕ) (t : List Record) : Type 0 where
  pub holds : Holds bs t
  pub formed : WellFormed t

-- accepted, the bytes hold the table; refused, the layer, the cause and the place are those of a refusal that fits
abbrev pub Checked : List ℕ → Result Table TableFault → Type 0
Checked bs (Ok m) = Accepts bs (records_of m)
Checked bs (Err f) = Refused bs (fault_layer f) (fault_cause f) (fault_place f)

-- nothing but this refusal fits the bytes, which are no well-formed table's
pub record Only (bs : List ℕ) (l c p : ℕ) : Type 0 where
  pub malformed : WellFormedBytes bs → ⊥
  pub only : (l' c' p' : ℕ) → Refused bs l' c' p' → (l' ≡ l) × (c' ≡ c) × (p' ≡ p)
  pub near : p ≤ 256

-- accepted exactly where the bytes are those of a well-formed table, and then no refusal fits; else exactly one does
abbrev pub Exactly : List ℕ → Result Table TableFault → Type 0
Exactly bs (Ok m) = WellFormedBytes bs × ((l c p : ℕ) → Refused bs l c p → ⊥)
Exactly bs (Err f) = Only bs (fault_layer f) (fault_cause f) (fault_place f)
