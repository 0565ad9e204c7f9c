use Rattle.std.proofs.Common.{◌≡◌, Bool, true, false, rules}
use Rattle.std.proofs.lemmas.Iterator.{IsFirst-from_position, YieldsList-from_slice}
use Rattle.table.proofs.Finding.{finds_first}
use Rattle.table.proofs.lookup.find.Goals as goal

pub returns : goal.returns
returns g c =
    let same : g.row.E.Denot → Bool = λ e. g.E.Key.PartialEq.eq (g.E.Entry.keyed e) c.args.key.now in
    finds_first (λ e. g.E.Entry.keyed e ≡ c.args.key.now) same (λ e b is. g.met.E.Entry.agrees (g.E.Entry.keyed e) c.args.key.now b is) c.args.entries.now c.position.result
    (IsFirst-from_position _ _ _ (λ e. same e ≡ true) (λ e. same e ≡ false) c.position.ensures.ran (YieldsList-from_slice c.args.entries.now cc) (λ x q k. search rules) (λ x q k. search rules))
