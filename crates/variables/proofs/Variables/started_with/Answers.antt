use Rattle.std.proofs.Common.{length, drop, replicate, pos, ap, ◌∙◌, ◌++◌}
use Rattle.std.proofs.lemmas.List.{drop-replicate}
use Rattle.variables.proofs.Variables.started_with.Goals as goal

pub returns : goal.returns
returns c =
    let given = c.args.arguments.now in
    ap (λ vs. vs ++ drop (length given) (replicate 16 (pos 0))) c.copy_from_slice.ensures.after ∙ ap (λ vs. given ++ vs) (drop-replicate (length given) 16 (pos 0))
