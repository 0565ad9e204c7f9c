use Rattle.std.proofs.Common.{rules}
use Rattle.std.proofs.lemmas.List.{take-map}
use Rattle.continuation.proofs.cells.release.Goals as goal

pub returns-clause-below : goal.returns-clause-below
returns-clause-below c = search (rules, take-map)
