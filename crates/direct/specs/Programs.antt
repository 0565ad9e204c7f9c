-- What is read from a program.
use Rattle.std.specs.Prelude.{◌≡◌, ℕ, List, Some, Option}
use Rattle.std.specs.List.{slice_get}
use Rattle.direct.specs.Links.{LinkedBy, HandledBy}
use Rattle.direct.specs.declared.link.Link.{Link}
use Rattle.direct.specs.declared.program.Program.{Program}
use Rattle.language.specs.Lines.{line, lines}
use Rattle.language.specs.declared.handler.Handler.{Handler}
use Rattle.language.specs.declared.instruction.Instruction.{Instruction}
use Rattle.language.specs.declared.instruction.Instruction.TheVariants.{Branch}
use Rattle.language.specs.declared.record.Record.{Record}
use Rattle.language.specs.declared.record.Record.TheVariants.{Body}
use Rattle.table.specs.Checked.{records_of}

abbrev pub records_in : Program → List Record
records_in p = records_of p.table

-- an instruction stands at a place
pub record StandsAt (t : List Record) (at : ℕ) : Type 0 where
  pub instruction : Instruction
  pub there : slice_get t at ≡ Some (Body instruction)

-- the link has the targets of the names in the record at a place, and of the handler in force there
pub record LinkAt (t : List Record) (at : ℕ) (k : Link) : Type 0 where
  pub names : (r n : ℕ) (h : Option Handler) (x : Record) → slice_get (lines t) at ≡ Some (line r n h x) → LinkedBy t r x k
  pub handler : (r n : ℕ) (h : Option Handler) (x : Record) → slice_get (lines t) at ≡ Some (line r n h x) → HandledBy t r h k.handler

-- a branch on x and y stands at a place
pub record BranchesAt (t : List Record) (at x y : ℕ) : Type 0 where
  pub then : ℕ
  pub otherwise : ℕ
  pub there : slice_get t at ≡ Some (Body (Branch x y then otherwise))
