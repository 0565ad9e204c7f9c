use Rattle.std.proofs.Common.{◌≡◌, take}
use Rattle.few.specs.Held.{held}
use Rattle.translation.proofs.layout.words.few.Given as goal

abbrev pub invariant-loop-word : goal.invariant-loop-word
invariant-loop-word l = held l.all ≡ take l.word-index l.words
