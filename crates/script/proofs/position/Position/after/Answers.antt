use Rattle.std.proofs.Common.{rules}
use Rattle.script.proofs.Ordering.{begun, turned, loaded, jogged, ended, opened, within}
use Rattle.script.proofs.position.Position.after.Goals as goal

pub returns-in-Bench-default-clause-next : goal.returns-in-Bench-default-clause-next
returns-in-Bench-default-clause-next c = begun _ _ _ c.in-Bench-default.is-0

pub returns-in-Turn-Opened-clause-next : goal.returns-in-Turn-Opened-clause-next
returns-in-Turn-Opened-clause-next c = turned _ _ _ c.in-Turn-Opened.is-0 c.in-Turn-Opened.is-1

pub returns-in-Load-Opened-clause-next : goal.returns-in-Load-Opened-clause-next
returns-in-Load-Opened-clause-next c = search (rules, loaded, opened)

pub returns-in-Load-Opened-2-clause-next : goal.returns-in-Load-Opened-2-clause-next
returns-in-Load-Opened-2-clause-next c = search (rules, loaded, within)

pub returns-in-Jog-Opened-clause-next : goal.returns-in-Jog-Opened-clause-next
returns-in-Jog-Opened-clause-next c = search (rules, jogged, opened)

pub returns-in-Jog-Opened-2-clause-next : goal.returns-in-Jog-Opened-2-clause-next
returns-in-Jog-Opened-2-clause-next c = search (rules, jogged, within)

pub returns-in-State-Opened-clause-next : goal.returns-in-State-Opened-clause-next
returns-in-State-Opened-clause-next c = search (rules, ended, opened)

pub returns-in-State-Opened-2-clause-next : goal.returns-in-State-Opened-2-clause-next
returns-in-State-Opened-2-clause-next c = search (rules, ended, within)
