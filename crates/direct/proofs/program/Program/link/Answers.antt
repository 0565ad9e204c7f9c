use Rattle.std.proofs.Common.{◌≡◌, List, get_or, ap, sym, ◌∙◌, subst}
use Rattle.direct.proofs.Known.{known_linked}
use Rattle.direct.proofs.program.Program.link.Goals as goal
use Rattle.direct.specs.Links.{no_link}
use Rattle.direct.specs.Programs.{records_in, LinkAt}
use Rattle.direct.specs.declared.link.Link.{Link}
use Rattle.few.specs.Held.{held}

pub returns : goal.returns
returns c =
    let p = c.args.self.now in
    let t = records_in p in
    let ks = held p.links in
    let k = known_linked t ks p.linked in
    let i = c.args.at in
    let same : get_or c.as_slice.result.now c.from.result (no_link t) ≡ get_or ks i (no_link t) = ap (λ (ls : List Link). get_or ls c.from.result (no_link t)) c.as_slice.ensures ∙ ap (λ j. get_or ks j (no_link t)) c.from.ensures in
    subst (LinkAt t i) (sym same) (record { names = k.names i; handler = k.handlers i })
