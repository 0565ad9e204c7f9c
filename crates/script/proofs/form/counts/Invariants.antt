use Rattle.script.proofs.Counts.{Sofar}
use Rattle.script.specs.Words.{words}
use Rattle.script.proofs.form.counts.Given as goal

abbrev pub invariant-loop-count : goal.invariant-loop-count
invariant-loop-count l = Sofar (words l.text) (words l.rest) l.count-index l.count-items
