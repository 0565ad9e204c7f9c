use Rattle.std.proofs.Common.{sym, subst}
use Rattle.few.specs.Held.{held}
use Rattle.table.specs.Names.{Flawed}
use Rattle.table.proofs.index.Index.flaw.Goals as goal

pub returns-in-Body : goal.returns-in-Body
returns-in-Body c =
    let index = c.args.self.now in
    subst (λ x. Flawed (held index.routines) (held index.blocks) c.args.scope c.args.place x c.body_flaw.result) (sym c.in-Body.is) (c.body_flaw.ensures c.args.place)
