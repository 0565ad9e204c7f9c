-- What the machine stands for in the rules, and what its moves do.
use Rattle.std.specs.Prelude.{◌≡◌, ℕ, suc, ◌<◌, Bool, true, false, length, ℤ, Ok, Err, Option, Result, slice_set}
use Rattle.continuation.specs.Views.{filled_cells}
use Rattle.continuation.specs.declared.cell.Cell.{Cell}
use Rattle.continuation.specs.declared.machine.Machine.{Machine}
use Rattle.few.specs.declared.full.Full.{Full}
use Rattle.language.specs.Configurations.{cell_count, Configuration, moved, saved}

abbrev pub configuration : Machine → Configuration
configuration m = record { counter = m.counter; variables = m.variables.values; register = m.register; continuation = m.continuation; handler = m.handler; cells = filled_cells m.cells }

-- the next word, or the one after it
abbrev pub tested : Configuration → Bool → Configuration
tested s true = moved s (suc s.counter) s.variables
tested s false = moved s (suc (suc s.counter)) s.variables

-- the next cell is filled, or none is free
abbrev pub Saved : Configuration → ℕ → Option ℕ → Result (Unit {0}) Full → Configuration → Type 0
Saved s x c (Ok d) s' = (length s.cells < cell_count) × (s' ≡ saved s x c)
Saved s x c (Err e) s' = (length s.cells ≡ cell_count) × (s' ≡ s)

-- what the cell saved comes back, with a value for its variable x, at an address; the cells stay
abbrev pub Handed : Configuration → Cell → ℕ → ℕ → ℤ → Configuration → Type 0
Handed s c x a v s' = s' ≡ record { counter = a; variables = slice_set c.variables.values x v; register = s.register; continuation = c.continuation; handler = c.handler; cells = s.cells }
