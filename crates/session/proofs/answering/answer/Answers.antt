use Rattle.std.proofs.Common.{rules}
use Rattle.bench.proofs.Rules.{from_respond}
use Rattle.script.specs.declared.answer.Answer.TheVariants.{Number, Fault}
use Rattle.session.proofs.Playing.{loaded, jogged, by_outcome}
use Rattle.session.proofs.answering.answer.Goals as goal

pub returns-in-Load : goal.returns-in-Load
returns-in-Load g c = loaded _ _ c.in-Load.bytes _ (search rules) (c.answer_load.ensures _ c.in-Load.bytes (search rules))

pub returns-in-Jog : goal.returns-in-Jog
returns-in-Jog g c = jogged _ _ _ c.in-Jog.request _ _ (search rules) (by_outcome Number Fault _ _ c.into.ensures) (from_respond _ _ _ _ _ c.request.ensures.answer c.request.ensures.after)
