-- A program's table is well formed, and its bytes are those of the table's translation.
use mathlib.Core.Logic.{∥∥₁_elim}
use native.Mathlib.Nat.{ℕ_set}
use Rattle.continuation.specs.Programs.{records_in}
use Rattle.continuation.specs.declared.program.Program.{Program}
use Rattle.language.proofs.Props.{known_formed}
use Rattle.language.specs.WellFormed.{WellFormed}
use Rattle.translation.specs.Addressing.{EntryAddress}

pub formed : (p : Program) → WellFormed (records_in p)
formed p = known_formed (records_in p) p.table.formed

pub enters : (p : Program) → EntryAddress (records_in p) p.entry
enters p = record { is = λ j a b d. ∥∥₁_elim p.enters (ℕ_set _ _) (λ w. w.is j a b d) }
