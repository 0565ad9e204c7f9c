use Rattle.std.proofs.Common.{◌≡◌, ◌%◌, length, sym, ◌∙◌, arith, rules}
use Rattle.std.specs.List.{list_all}
use Rattle.std.proofs.lemmas.Bool.{eqb-true}
use Rattle.std.proofs.lemmas.Iterator.{YieldsList-from_slice}
use Rattle.std.proofs.lemmas.Iterator.Search.{all_from_yields_List}
use Rattle.script.proofs.Hexes.{is_digit, pairs_of, of_pairs}
use Rattle.script.proofs.hex.is_pairs.Goals as goal

pub returns-then-word-eq0 : goal.returns-then-word-eq0
returns-then-word-eq0 c =
    let w = c.args.word.now in
    let all : c.all.result ≡ list_all is_digit w = all_from_yields_List is_digit _ _ c.all.result c.all.ensures.ran (YieldsList-from_slice w cc) (λ x b q k. search rules) in
    (λ t. pairs_of w (omega arith) (sym all ∙ t), λ p. all ∙ (of_pairs w p).1)

pub returns-else-word-eq0 : goal.returns-else-word-eq0
returns-else-word-eq0 c = (λ t. absurd (c.if-word-eq0.false (eqb-true (length c.args.word.now % 2) 0 t)), λ p. absurd (c.if-word-eq0.false (of_pairs c.args.word.now p).0))
