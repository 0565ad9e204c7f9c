use Rattle.few.specs.Held.{held}
use Rattle.translation.proofs.Collecting.{Collected}
use Rattle.translation.proofs.addresses.find_addresses.Given as goal

abbrev pub invariant-loop-next : goal.invariant-loop-next
invariant-loop-next l = Collected l.records l.next-index l.scope (held l.of) l.words
