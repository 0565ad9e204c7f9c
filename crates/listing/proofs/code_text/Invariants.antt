use Rattle.std.proofs.Common.{◌≡◌, ◌++◌, drop, string_bytes}
use Rattle.listing.specs.Texts.{words_text}
use Rattle.listing.proofs.code_text.Given as goal

abbrev pub invariant-loop-address : goal.invariant-loop-address
invariant-loop-address l = string_bytes l.text ++ words_text l.address (drop l.address l.words) ≡ words_text 0 l.words
