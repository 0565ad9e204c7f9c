-- What the code's cells stand for in the rules.
use Rattle.std.specs.Prelude.{List, map, Some, None, Option}
use Rattle.continuation.specs.declared.cell.Cell.{Cell}
use Rattle.continuation.specs.declared.cell.Landing.{Landing}
use Rattle.few.specs.Held.{held}
use Rattle.few.specs.declared.few.Few.{Few}
use Rattle.language.specs.Configurations.{Cell as Saved, Landing as Lands}

abbrev pub landing_of : Option Landing → Option Lands
landing_of None = None
landing_of (Some l) = Some (record { catch = l.catch; address = l.address })

abbrev pub cell_of : Cell → Saved
cell_of c = record { result = c.result; rest = c.rest; landing = landing_of c.landing; variables = c.variables.values; continuation = c.continuation; handler = c.handler }

-- the cells that are filled, the oldest first
abbrev pub filled_cells : Few Cell 32 → List Saved
filled_cells s = map cell_of (held s)
