-- What layer 2 answers: that the records make blocks, or the first cause that they do not.
use Rattle.std.specs.Prelude.{◌≡◌, ℕ, ◌<◌, Bool, true, false, ◌⊎◌, List, Some, None, Ok, Err, Option, Result}
use Rattle.language.specs.declared.cause.BlockCause.{BlockCause}
use Rattle.language.specs.declared.cause.BlockCause.TheVariants.{Headless, Unclosed, Trailing, Crowded}
use Rattle.language.specs.declared.record.Record.{Record}
use Rattle.language.specs.Forms.{closes, is_routine, is_block, is_heading}
use Rattle.language.specs.Causes.{block_number_of, InBlocks}
use Rattle.language.specs.Refusals.{First, BlocksClear}
use Rattle.table.specs.declared.fault.Located.{Located}
use Rattle.table.specs.declared.blocks.Flow.{Flow}
use Rattle.table.specs.declared.blocks.Flow.TheVariants.{Start, Open, Closed}

abbrev pub Built : List Record → Result Unit (Located BlockCause) → Type 0
Built t (Ok u) = BlocksClear t
Built t (Err f) = First block_number_of (InBlocks t) f.cause f.place

abbrev pub flow_of : Bool → Flow
flow_of true = Closed
flow_of false = Open

abbrev pub after : Record → Flow
after x = flow_of (closes x)

-- a cause at one record: what comes before it is f, with n routines and m blocks
abbrev pub Bad : Flow → Record → ℕ → ℕ → BlockCause → Type 0
Bad Start x n m Headless = is_routine x ≡ false
Bad Open x n m Headless = ⊥
Bad Closed x n m Headless = ⊥
Bad Start x n m Unclosed = ⊥
Bad Open x n m Unclosed = is_heading x ≡ true
Bad Closed x n m Unclosed = ⊥
Bad Start x n m Trailing = ⊥
Bad Open x n m Trailing = ⊥
Bad Closed x n m Trailing = is_heading x ≡ false
Bad f x n m Crowded = ((is_routine x ≡ true) × (n ≡ 16)) ⊎ ((is_block x ≡ true) × (m ≡ 64))

-- the lowest cause at one record, or that there is none
abbrev pub Flawed : Flow → Record → ℕ → ℕ → Option BlockCause → Type 0
Flawed f x n m None = (j : BlockCause) → Bad f x n m j → ⊥
Flawed f x n m (Some k) = Bad f x n m k × ((j : BlockCause) → block_number_of j < block_number_of k → Bad f x n m j → ⊥)
