use Rattle.std.proofs.Common.{rules}
use Rattle.variables.proofs.Variables.difference.Goals as goal
use Rattle.language.specs.Runs.{difference}
use Rattle.std.proofs.lemmas.Int.{wraps}

pub returns : goal.returns
unfolding difference
returns c = search (rules, wraps)
