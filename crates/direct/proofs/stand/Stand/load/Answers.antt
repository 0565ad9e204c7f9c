use Rattle.std.proofs.Common.{◌≡◌, Ok, Err, sym, subst, rules}
use Rattle.direct.proofs.stand.Stand.load.Goals as goal
use Rattle.direct.specs.Stands.{stand_of, load_answer}
use Rattle.language.specs.Calls.{load, done, loads, load_not}
use Rattle.language.specs.Direct.{DirectCalls}
use Rattle.table.specs.Checked.{records_of, Checked}

pub returns : goal.returns
returns g c =
    let x = stand_of g.B.Bench.state c.args.self.now in
    let is : c.check.result ≡ Ok c.in_ok-check.field-0 = search rules in
    let checked = subst (Checked c.args.bytes.now) is c.check.ensures.checked in
    subst (DirectCalls x (load c.args.bytes.now) done) (sym (c.new.ensures x.bench)) (loads (records_of c.in_ok-check.field-0) checked.holds checked.formed)

pub returns-in_err-check : goal.returns-in_err-check
returns-in_err-check g c =
    let x = stand_of g.B.Bench.state c.args.self.now in
    let is : c.check.result ≡ Err c.in_err-check.field-0.0 = search rules in
    let told : c.from_residual.result ≡ Err c.in_err-check.field-0.0 = search rules in
    let checked = subst (Checked c.args.bytes.now) is c.check.ensures.checked in
    subst (λ r. DirectCalls x (load c.args.bytes.now) (load_answer r) x) (sym told) (load_not checked)
