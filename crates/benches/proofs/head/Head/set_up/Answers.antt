use Rattle.std.proofs.Common.{◌≡◌, ℕ, ◌+◌, ◌<◌, ◌≤◌, length, get_or, pos, Err, sym, ◌∙◌, subst, arith, rules}
use Rattle.std.proofs.lemmas.List.{get_or_default}
use Rattle.bench.specs.Bounds.{feeder_count, most_in_feeder}
use Rattle.bench.specs.Ranges.{Outside}
use Rattle.bench.specs.SetUps.{SetsUp}
use Rattle.bench.specs.SetUps.SetsUp.{taken_over, refused}
use Rattle.bench.specs.declared.refusal.SetUpRefusal.TheVariants.{CountOutOfRange}
use Rattle.benches.specs.Heads.{over}
use Rattle.benches.specs.Spots.{all_free}
use Rattle.benches.proofs.SetUp.{all_counted}
use Rattle.benches.proofs.head.Head.set_up.Goals as goal

pub returns-in-Ok : goal.returns-in-Ok
returns-in-Ok c =
    let zs = c.args.counts in
    let ns = c.in-Ok.parts in
    let eight : length zs ≡ feeder_count = search rules in
    let each : (k : ℕ) → k < feeder_count → (get_or zs k (pos 0) ≡ pos (get_or ns k 0)) × (get_or ns k 0 ≤ most_in_feeder) = λ k h. (let call = (c.in-Ok.ensures.ok.at k (pos 0) 0 h).2 in search rules) in
    let all = all_counted zs ns (c.in-Ok.ensures.ok.long ∙ sym eight) (λ k h. (each k (omega arith)).0) in
    subst (SetsUp zs _) (sym c.with_counts.ensures) (taken_over ns all (λ k h. (each k h).1))

pub returns-in-Err : goal.returns-in-Err
returns-in-Err c =
    let zs = c.args.counts in
    let eight : length zs ≡ feeder_count = search rules in
    let (x, (i, (within, at)), p, q, call) = c.in-Err.ensures.err in
    let told : (c.in-Err.refusal ≡ CountOutOfRange) × Outside (most_in_feeder + 1) x = search rules in
    let here : x ≡ get_or zs i (pos 0) = at ∙ get_or_default zs i x (pos 0) within in
    subst (λ e. SetsUp zs (Err e) (over c.with_counts-in-Err.result all_free)) (sym told.0)
    (subst (SetsUp zs (Err CountOutOfRange)) (sym c.with_counts-in-Err.ensures) (refused i (omega arith) (subst (Outside (most_in_feeder + 1)) here told.1)))
