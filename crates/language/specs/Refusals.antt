-- Which refusal fits a table: the first cause of the lowest layer that has one.
use Rattle.std.specs.Prelude.{ℕ, ◌<◌, List}
use Rattle.language.specs.declared.cause.RecordCause.{RecordCause}
use Rattle.language.specs.declared.cause.BlockCause.{BlockCause}
use Rattle.language.specs.declared.cause.NameCause.{NameCause}
use Rattle.language.specs.declared.record.Record.{Record}
use Rattle.language.specs.Causes.{record_number_of, block_number_of, name_number_of, InRecords, InBlocks, InNames}
use Rattle.language.specs.WellFormed.{Holds}

-- a layer's causes K, their numbers, and when each stands at a place
module _ {K : Type 0} (number : K → ℕ) (Stands : K → ℕ → Type 0) where
  -- no cause stands anywhere
  abbrev pub Clear : Type 0
  Clear = (k : K) (p : ℕ) → Stands k p → ⊥

  -- k stands at p, nothing at a lower place, and no lower cause at p
  pub record First (k : K) (p : ℕ) : Type 0 where
    pub here : Stands k p
    pub before : (j : K) (q : ℕ) → q < p → Stands j q → ⊥
    pub lower : (j : K) → number j < number k → Stands j p → ⊥

-- the layers, one by one
abbrev pub RecordsClear : List ℕ → Type 0
RecordsClear bs = Clear record_number_of (InRecords bs)

abbrev pub BlocksClear : List Record → Type 0
BlocksClear t = Clear block_number_of (InBlocks t)

abbrev pub NamesClear : List Record → Type 0
NamesClear t = Clear name_number_of (InNames t)

-- the bytes are refused by layer, cause and place
pub data Refused (bs : List ℕ) : ℕ → ℕ → ℕ → Type 0 where
  by_records : (k : RecordCause) (p : ℕ) → First record_number_of (InRecords bs) k p → Refused bs 1 (record_number_of k) p
  by_blocks : (t : List Record) (k : BlockCause) (p : ℕ) → RecordsClear bs → Holds bs t → First block_number_of (InBlocks t) k p → Refused bs 2 (block_number_of k) p
  by_names : (t : List Record) (k : NameCause) (p : ℕ) → RecordsClear bs → Holds bs t → BlocksClear t → First name_number_of (InNames t) k p → Refused bs 3 (name_number_of k) p
