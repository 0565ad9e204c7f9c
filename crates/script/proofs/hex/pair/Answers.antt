use Rattle.std.proofs.Common.{◌≡◌, ◌∙◌, get_or, rules}
use Rattle.script.specs.Tables.{nibble}
use Rattle.script.proofs.Hexes.{nibble_of}
use Rattle.script.proofs.hex.pair.Goals as goal

pub returns : goal.returns
returns c =
    let high : c.unwrap_or.result ≡ nibble (get_or c.args.digits.now 0 0) = c.unwrap_or.ensures ∙ nibble_of (get_or c.args.digits.now 0 0) c.digit.result c.digit.ensures in
    let low : c.unwrap_or-2.result ≡ nibble (get_or c.args.digits.now 1 0) = c.unwrap_or-2.ensures ∙ nibble_of (get_or c.args.digits.now 1 0) c.digit-2.result c.digit-2.ensures in
    search (rules, high, low)
