-- A program's table is well formed.
use Rattle.std.proofs.Common.{◌<◌, arith}
use Rattle.direct.proofs.Rules.{at_below}
use Rattle.direct.specs.Programs.{records_in}
use Rattle.direct.specs.declared.program.Program.{Program}
use Rattle.language.proofs.Props.{known_formed}
use Rattle.language.specs.Reachable.{Reachable}
use Rattle.language.specs.Runs.{State}
use Rattle.language.specs.WellFormed.{WellFormed}

pub formed : (p : Program) → WellFormed (records_in p)
formed p = known_formed (records_in p) p.table.formed

-- a run stands at one of at most 256 records
pub low : (p : Program) (s : State) → Reachable (records_in p) s → s.at < 256
low p s here = omega (arith, at_below (records_in p) (formed p) s here, (formed p).legible.few)
