-- When a table is well formed, in three parts: its records by themselves, its blocks, its names.
use Rattle.std.specs.Prelude.{◌≡◌, ℕ, suc, ◌<◌, ◌≤◌, true, false, List, length, Some, count_by, Option}
use Rattle.std.specs.List.{slice_get, AllByRecursion}
use Rattle.language.specs.declared.handler.Handler.{Handler}
use Rattle.language.specs.declared.instruction.Instruction.{Instruction}
use Rattle.language.specs.declared.record.Record.{Record}
use Rattle.language.specs.declared.record.Record.TheVariants.{Routine, Block, Body}
use Rattle.language.specs.Bytes.{InRange, bytes}
use Rattle.language.specs.Forms.{closes, is_routine, is_block, is_heading, variables, labels, Called, called, calls}
use Rattle.language.specs.Lines.{line, lines, Enters, Heads}

module _ (t : List Record) where
  -- 1 to 256 records, each with its fields in range
  pub record Legible : Type 0 where
    pub some : 0 < length t
    pub few : length t ≤ 256
    pub ranged : AllByRecursion InRange t

  pub record Blocked : Type 0 where
    -- the table begins with a routine
    pub begins : (g : ℕ) × (p : ℕ) × (q : ℕ) × (slice_get t 0 ≡ Some (Routine g p q))
    -- where a block is open an instruction follows, so no block is empty and each one ends
    pub flows : (i : ℕ) (x : Record) → slice_get t i ≡ Some x → closes x ≡ false → (y : Instruction) × (slice_get t (suc i) ≡ Some (Body y))
    -- where a block is closed no instruction follows, so each one ends once
    pub ends : (i : ℕ) (x y : Record) → slice_get t i ≡ Some x → closes x ≡ true → slice_get t (suc i) ≡ Some y → is_heading y ≡ true
    -- few enough routines, and blocks with a label
    pub routines : count_by is_routine t ≤ 16
    pub blocks : count_by is_block t ≤ 64

  -- the routine r has the block l; there is a routine g of n parameters
  pub record HasBlock (r l : ℕ) : Type 0 where
    pub at : ℕ
    pub handler : Option Handler
    pub here : Heads t r l at handler

  pub record HasRoutine (g n : ℕ) : Type 0 where
    pub at : ℕ
    pub locals : ℕ
    pub here : Enters t g at n locals

  abbrev pub Callable : Called → Type 0
  Callable (called g n) = HasRoutine g n

  pub record Named : Type 0 where
    -- no two routines have one identifier, and no two blocks of a routine one label
    pub routines : (i j g p q p' q' : ℕ) → slice_get t i ≡ Some (Routine g p q) → slice_get t j ≡ Some (Routine g p' q') → i ≡ j
    pub blocks : (i j r n n' l : ℕ) (h h' k k' : Option Handler) → slice_get (lines t) i ≡ Some (line r n h (Block l k)) → slice_get (lines t) j ≡ Some (line r n' h' (Block l k')) → i ≡ j
    -- each variable that is named is one of the routine's
    pub variables : (i r n : ℕ) (h : Option Handler) (x : Record) → slice_get (lines t) i ≡ Some (line r n h x) → AllByRecursion (λ v. v < n) (variables x)
    -- each label that is named is that of a block of the routine
    pub labels : (i r n : ℕ) (h : Option Handler) (x : Record) → slice_get (lines t) i ≡ Some (line r n h x) → AllByRecursion (HasBlock r) (labels x)
    -- each routine that is called is there, and takes as many arguments as it is called with
    pub calls : (i r n : ℕ) (h : Option Handler) (x : Record) → slice_get (lines t) i ≡ Some (line r n h x) → AllByRecursion Callable (calls x)
    -- there is a routine 0, where a run starts
    pub main : (n : ℕ) × HasRoutine 0 n

  pub record WellFormed : Type 0 where
    pub legible : Legible
    pub blocked : Blocked
    pub named : Named

-- bs are the bytes of t, whose records are sound by themselves
pub record Holds (bs : List ℕ) (t : List Record) : Type 0 where
  pub same : bytes t ≡ bs
  pub legible : Legible t

-- some well-formed table has the bytes bs
pub record WellFormedBytes (bs : List ℕ) : Type 0 where
  pub table : List Record
  pub same : bytes table ≡ bs
  pub formed : WellFormed table
