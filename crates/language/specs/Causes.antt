-- Why a table is refused: when each of the fifteen causes stands, and at which place. A place is the
-- index of a record, or the number of records where something is missing at the end.
use Rattle.std.specs.Prelude.{◌≡◌, ℕ, suc, ◌<◌, ◌≤◌, true, false, ◌≢◌, ◌⊎◌, List, [], ◌∷◌, length, take, Some, None, count_by, Option}
use Rattle.std.specs.List.{slice_get}
use Rattle.language.specs.declared.cause.RecordCause.{RecordCause}
use Rattle.language.specs.declared.cause.RecordCause.TheVariants.{Length, Letter, Range, Padding}
use Rattle.language.specs.declared.cause.BlockCause.{BlockCause}
use Rattle.language.specs.declared.cause.BlockCause.TheVariants.{Headless, Unclosed, Trailing, Crowded}
use Rattle.language.specs.declared.cause.NameCause.{NameCause}
use Rattle.language.specs.declared.cause.NameCause.TheVariants.{RepeatedRoutine, RepeatedBlock, NoMain, NoVariable, NoBlock, NoRoutine, ArgumentCount}
use Rattle.language.specs.declared.handler.Handler.{Handler}
use Rattle.language.specs.declared.record.Record.{Record}
use Rattle.language.specs.declared.record.Record.TheVariants.{Routine, Block}
use Rattle.language.specs.Forms.{closes, is_routine, is_block, is_heading, variables, labels, Called, called, calls}
use Rattle.language.specs.Lines.{line, lines, routine_place, block_place, Enters}
use Rattle.language.specs.Rows.{rows, Whole, Known, Within, Clean}

-- the number of each cause
abbrev pub record_number_of : RecordCause → ℕ
record_number_of Length = 1
record_number_of Letter = 2
record_number_of Range = 3
record_number_of Padding = 4

abbrev pub block_number_of : BlockCause → ℕ
block_number_of Headless = 5
block_number_of Unclosed = 6
block_number_of Trailing = 7
block_number_of Crowded = 8

abbrev pub name_number_of : NameCause → ℕ
name_number_of RepeatedRoutine = 9
name_number_of RepeatedBlock = 10
name_number_of NoMain = 11
name_number_of NoVariable = 12
name_number_of NoBlock = 13
name_number_of NoRoutine = 14
name_number_of ArgumentCount = 15

-- layer 1, of the bytes
pub data InRecords (bs : List ℕ) : RecordCause → ℕ → Type 0 where
  bad_length : (Whole bs → ⊥) → InRecords bs Length 0
  bad_letter : {row : List ℕ} (p : ℕ) → slice_get (rows bs) p ≡ Some row → (Known row → ⊥) → InRecords bs Letter p
  bad_range : {row : List ℕ} (p : ℕ) → slice_get (rows bs) p ≡ Some row → (Within row → ⊥) → InRecords bs Range p
  bad_padding : {row : List ℕ} (p : ℕ) → slice_get (rows bs) p ≡ Some row → (Clean row → ⊥) → InRecords bs Padding p

-- layer 2, of the records
pub data InBlocks (t : List Record) : BlockCause → ℕ → Type 0 where
  -- record 0 heads no routine
  headless : {x : Record} → slice_get t 0 ≡ Some x → is_routine x ≡ false → InBlocks t Headless 0
  -- where a block is open there comes a heading, or nothing
  unclosed : {x y : Record} (i : ℕ) → slice_get t i ≡ Some x → closes x ≡ false → slice_get t (suc i) ≡ Some y → is_heading y ≡ true → InBlocks t Unclosed (suc i)
  open_end : {x : Record} (i : ℕ) → slice_get t i ≡ Some x → closes x ≡ false → slice_get t (suc i) ≡ None → InBlocks t Unclosed (suc i)
  -- where a block is closed there comes an instruction
  trailing : {x y : Record} (i : ℕ) → slice_get t i ≡ Some x → closes x ≡ true → slice_get t (suc i) ≡ Some y → is_heading y ≡ false → InBlocks t Trailing (suc i)
  -- the seventeenth routine, the sixty-fifth block
  crowded_routine : {x : Record} (p : ℕ) → slice_get t p ≡ Some x → is_routine x ≡ true → count_by is_routine (take p t) ≡ 16 → InBlocks t Crowded p
  crowded_block : {x : Record} (p : ℕ) → slice_get t p ≡ Some x → is_block x ≡ true → count_by is_block (take p t) ≡ 64 → InBlocks t Crowded p

-- P holds of some element
abbrev pub Any : {X : Type 0} → (X → Type 0) → List X → Type 0
Any P [] = ⊥
Any P (x ∷ xs) = P x ⊎ Any P xs

-- no routine is there to be called; the first that is there takes another number of arguments
abbrev pub Absent : List Record → Called → Type 0
Absent t (called g n) = routine_place t g ≡ None

abbrev pub Miscounted : List Record → Called → Type 0
Miscounted t (called g n) = (j : ℕ) × (p : ℕ) × (q : ℕ) × Enters t g j p q × (p ≢ n)

-- layer 3, of the records
pub data InNames (t : List Record) : NameCause → ℕ → Type 0 where
  repeated_routine : {g n q n' q' : ℕ} (p j : ℕ) → slice_get t p ≡ Some (Routine g n q) → j < p → slice_get t j ≡ Some (Routine g n' q') → InNames t RepeatedRoutine p
  repeated_block : {r n n' l : ℕ} {h h' k k' : Option Handler} (p j : ℕ) → slice_get (lines t) p ≡ Some (line r n h (Block l k)) → j < p → slice_get (lines t) j ≡ Some (line r n' h' (Block l k')) → InNames t RepeatedBlock p
  -- told where no other cause of this layer is found, for its place is after every record
  no_main : routine_place t 0 ≡ None → InNames t NoMain (length t)
  no_variable : {r n : ℕ} {h : Option Handler} {x : Record} (p : ℕ) → slice_get (lines t) p ≡ Some (line r n h x) → Any (λ v. n ≤ v) (variables x) → InNames t NoVariable p
  no_block : {r n : ℕ} {h : Option Handler} {x : Record} (p : ℕ) → slice_get (lines t) p ≡ Some (line r n h x) → Any (λ l. block_place t r l ≡ None) (labels x) → InNames t NoBlock p
  no_routine : {x : Record} (p : ℕ) → slice_get t p ≡ Some x → Any (Absent t) (calls x) → InNames t NoRoutine p
  argument_count : {x : Record} (p : ℕ) → slice_get t p ≡ Some x → Any (Miscounted t) (calls x) → InNames t ArgumentCount p
