use Rattle.std.proofs.Common.{◌≤◌, take, rules}
use Rattle.std.proofs.lemmas.Iterator.{cases_from_any, YieldsList-from_slice, YieldsList-from_take}
use borrow.Author.Tests.{tests}
use Rattle.table.proofs.Passing.{any_found}
use Rattle.table.proofs.variables.passes_outside.Goals as goal

pub returns : goal.returns
returns c =
    any_found (λ v. c.args.limit ≤ v) (take c.args.count c.args.arguments) c.any.result
    (cases_from_any _ _ _ (λ v. c.args.limit ≤ v) (λ v. c.args.limit ≤ v → ⊥) c.any.ensures.ran (YieldsList-from_take c.args.count (YieldsList-from_slice c.args.arguments cc) cc) (λ x q k. search (rules, tests)) (λ x q k. search (rules, tests)))
