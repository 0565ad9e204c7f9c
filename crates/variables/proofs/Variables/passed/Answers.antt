use Rattle.std.proofs.Common.{◌≤◌, map, length, sym, subst, rules}
use lib.ListN.{length-map}
use Rattle.language.specs.Runs.{variable_count, value}
use Rattle.variables.proofs.Arguments.{placed}
use Rattle.variables.proofs.Variables.passed.Goals as goal

pub returns : goal.returns
returns c =
    let ys = c.args.arguments.now in
    let f = value c.args.self.now.values in
    let l = map f ys in
    let most : length l ≤ variable_count = subst (λ n. n ≤ variable_count) (sym (length-map ys f)) c.requires in
    placed _ _ l (λ i y q k. search rules) _ most c.from_fn.ensures.items
