use Rattle.direct.proofs.Made.{Made}
use Rattle.direct.proofs.linking.link_table.Given as goal
use Rattle.few.specs.Held.{held}
use Rattle.table.specs.Checked.{records_of}

abbrev pub invariant-loop-next : goal.invariant-loop-next
invariant-loop-next l = Made (records_of l.table) l.next-index l.scope (held l.links)
