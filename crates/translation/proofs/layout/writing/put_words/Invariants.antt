use Rattle.std.proofs.Common.{◌≡◌, ◌+◌, ◌*◌, take}
use Rattle.std.specs.List.{flat_map}
use Rattle.language.specs.Code.{word_bytes}
use Rattle.translation.specs.Buffers.{Appends}
use Rattle.translation.proofs.layout.writing.put_words.Given as goal

abbrev pub invariant-loop-word : goal.invariant-loop-word
invariant-loop-word l = record {
  next : l.next ≡ l.at + 8 * l.word-index;
  appends : Appends l.at (flat_map word_bytes (take l.word-index l.words)) l.initial.out l.out l.next;
}
