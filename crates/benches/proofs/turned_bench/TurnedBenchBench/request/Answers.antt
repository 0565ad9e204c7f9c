use Rattle.std.proofs.Common.{◌≡◌, Ok, sym, ap, ◌∙◌, rules}
use Rattle.bench.specs.Actions.{action_of}
use Rattle.bench.specs.Reading.{state_under}
use Rattle.bench.specs.Respond.{Outcome}
use Rattle.benches.specs.Turned.{other_under}
use Rattle.benches.proofs.turned_bench.TurnedBenchBench.request.Goals as goal

pub returns-in_default : goal.returns-in_default
returns-in_default g c =
    let b = c.args.self.now in
    let s = g.B.Bench.state b.below in
    let q = c.args.request in
    let asked : action_of q.operation q.number ≡ Ok c.in_ok-angle.field-0 = search rules in
    let rule = other_under b.shift s q.operation q.number _ asked c.in_default.not-Turn c.in_default.not-Look in
    record {
      answer = c.request-in_default.ensures.answer ∙ sym (ap (λ (o : Outcome). o.0) rule);
      after = ap (state_under b.shift) c.request-in_default.ensures.after ∙ sym (ap (λ (o : Outcome). o.1) rule);
    }
