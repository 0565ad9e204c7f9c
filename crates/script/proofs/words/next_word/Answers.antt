use Rattle.std.proofs.Common.{◌≡◌, true, false, rules}
use Rattle.std.proofs.lemmas.Iterator.{IsFirst-from_position, YieldsList-from_slice}
use Rattle.script.specs.Words.{blank}
use Rattle.script.proofs.Cuts.{no_word, one_word}
use Rattle.script.proofs.words.next_word.Goals as goal

pub returns-in_err-start : goal.returns-in_err-start
returns-in_err-start c =
    let first = IsFirst-from_position _ _ c.position.result (λ b. blank b ≡ false) (λ b. blank b ≡ true) c.position.ensures.ran (YieldsList-from_slice c.args.text.now cc) (λ x q k. search rules) (λ x q k. search rules) in
    rw c.from_residual.ensures (no_word c.args.text.now c.position.result first c.in_err-start.was)

pub returns : goal.returns
returns c =
    let first = IsFirst-from_position _ _ c.position.result (λ b. blank b ≡ false) (λ b. blank b ≡ true) c.position.ensures.ran (YieldsList-from_slice c.args.text.now cc) (λ x q k. search rules) (λ x q k. search rules) in
    let second = IsFirst-from_position _ _ c.position-end.result (λ b. blank b ≡ true) (λ b. blank b ≡ false) c.position-end.ensures.ran (YieldsList-from_slice c.split_at.result.1.now cc) (λ x q k. search rules) (λ x q k. search rules) in
    one_word c.args.text.now _ _ _ _ _ c.position.result c.position-end.result first c.in_ok-start.was c.split_at.ensures.back second c.unwrap_or.ensures c.split_at-2.ensures.front c.split_at-2.ensures.back
