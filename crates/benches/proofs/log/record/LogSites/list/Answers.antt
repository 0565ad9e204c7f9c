use Rattle.std.proofs.Common.{arith}
use Rattle.std.proofs.lemmas.Grind.{common_steps}
use Rattle.std.proofs.lemmas.List.{take_more}
use Rattle.benches.specs.LaidLemmas.{laid_push}
use Rattle.benches.proofs.log.record.LogSites.list.Goals as goal

pub loop-placement-preserved : goal.loop-placement-preserved
loop-placement-preserved c = grind (arith, common_steps, laid_push, take_more)
