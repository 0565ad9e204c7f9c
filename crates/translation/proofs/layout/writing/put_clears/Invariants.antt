use Rattle.std.proofs.Common.{◌≡◌, ◌+◌, ◌-◌, ◌*◌}
use Rattle.std.specs.List.{flat_map}
use Rattle.language.specs.Code.{word_bytes}
use Rattle.language.specs.Translation.{clears}
use Rattle.translation.specs.Buffers.{Appends}
use Rattle.translation.proofs.layout.writing.put_clears.Given as goal

abbrev pub invariant-loop-x : goal.invariant-loop-x
invariant-loop-x l = record {
  next : l.next ≡ l.at + 8 * (l.x - l.parameters);
  appends : Appends l.at (flat_map word_bytes (clears l.parameters (l.x - l.parameters))) l.initial.out l.out l.next;
}
