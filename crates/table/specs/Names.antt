-- What layer 3 answers: the entries of a table whose names fit together, or the first cause that they do not.
use Rattle.std.specs.Prelude.{◌≡◌, ℕ, ◌<◌, ◌≤◌, List, Some, None, Ok, Err, Option, Result, ◌≢◌, slice_index_or}
use Rattle.language.specs.declared.cause.NameCause.{NameCause}
use Rattle.language.specs.declared.cause.NameCause.TheVariants.{RepeatedRoutine, RepeatedBlock, NoMain, NoVariable, NoBlock, NoRoutine, ArgumentCount}
use Rattle.language.specs.declared.record.Record.{Record}
use Rattle.language.specs.declared.record.Record.TheVariants.{Routine, Block, Body}
use Rattle.language.specs.Forms.{variables, labels, Called, called, calls}
use Rattle.language.specs.Lines.{place}
use Rattle.language.specs.Causes.{name_number_of, InNames, Any}
use Rattle.language.specs.Refusals.{First, NamesClear}
use Rattle.table.specs.declared.entries.RoutineEntry.{RoutineEntry}
use Rattle.table.specs.declared.entries.BlockEntry.{BlockEntry}
use Rattle.table.specs.declared.index.Index.{Index}
use Rattle.table.specs.declared.fault.Located.{Located}
use Rattle.scopes.specs.declared.scope.Scope.{Scope}
use Rattle.table.specs.Entries.{of_routine, routine_at_of, block_at, no_routine_entry}
use Rattle.table.specs.Indexes.{Indexes}

abbrev pub Tied : List Record → Result Index (Located NameCause) → Type 0
Tied t (Ok index) = NamesClear t × Indexes index t
Tied t (Err f) = First name_number_of (InNames t) f.cause f.place

-- what follows says the same of one record, by the entries of the table

-- a heading that is found stands before the place
abbrev pub Earlier : Option ℕ → ℕ → Type 0
Earlier None p = ⊥
Earlier (Some j) p = j < p

-- a called routine is not there; it is, and takes another number of arguments
abbrev pub Unknown : List RoutineEntry → Called → Type 0
Unknown rs (called g n) = place (of_routine g) rs ≡ None

abbrev pub Misfit : List RoutineEntry → Called → Type 0
Misfit rs (called g n) = (k : ℕ) × (place (of_routine g) rs ≡ Some k) × ((slice_index_or rs k no_routine_entry).parameters ≢ n)

abbrev pub Bad : List RoutineEntry → List BlockEntry → Scope → ℕ → Record → NameCause → Type 0
Bad rs bs s p (Routine g a b) RepeatedRoutine = Earlier (routine_at_of rs g) p
Bad rs bs s p (Block l h) RepeatedRoutine = ⊥
Bad rs bs s p (Body i) RepeatedRoutine = ⊥
Bad rs bs s p (Routine g a b) RepeatedBlock = ⊥
Bad rs bs s p (Block l h) RepeatedBlock = Earlier (block_at bs s.routine l) p
Bad rs bs s p (Body i) RepeatedBlock = ⊥
Bad rs bs s p x NoMain = ⊥
Bad rs bs s p x NoVariable = Any (λ v. s.variables ≤ v) (variables x)
Bad rs bs s p x NoBlock = Any (λ l. block_at bs s.routine l ≡ None) (labels x)
Bad rs bs s p x NoRoutine = Any (Unknown rs) (calls x)
Bad rs bs s p x ArgumentCount = Any (Misfit rs) (calls x)

-- the lowest cause at one record, or that there is none
abbrev pub Flawed : List RoutineEntry → List BlockEntry → Scope → ℕ → Record → Option NameCause → Type 0
Flawed rs bs s p x None = (j : NameCause) → Bad rs bs s p x j → ⊥
Flawed rs bs s p x (Some k) = Bad rs bs s p x k × ((j : NameCause) → name_number_of j < name_number_of k → Bad rs bs s p x j → ⊥)

-- the lowest cause at a call: 14, then 15
abbrev pub Miscalled : List RoutineEntry → ℕ → ℕ → Option NameCause → Type 0
Miscalled rs g n None = (Unknown rs (called g n) → ⊥) × (Misfit rs (called g n) → ⊥)
Miscalled rs g n (Some RepeatedRoutine) = ⊥
Miscalled rs g n (Some RepeatedBlock) = ⊥
Miscalled rs g n (Some NoMain) = ⊥
Miscalled rs g n (Some NoVariable) = ⊥
Miscalled rs g n (Some NoBlock) = ⊥
Miscalled rs g n (Some NoRoutine) = Unknown rs (called g n)
Miscalled rs g n (Some ArgumentCount) = (Unknown rs (called g n) → ⊥) × Misfit rs (called g n)
