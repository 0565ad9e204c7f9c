use Rattle.std.proofs.Common.{◌≡◌, ◌+◌, ◌-◌, ◌++◌, length, take, drop, replicate, vec_items, sym, ap, ◌∙◌, rules}
use Rattle.std.proofs.lemmas.List.{length-drop, take-append-drop, with_items_is}
use Rattle.std.proofs.lemmas.Result.{IfOk-weaker}
use Rattle.script.specs.declared.answer.Answer.TheVariants.{Done}
use Rattle.session.specs.Performs.{states}
use Rattle.session.specs.declared.exchange.Exchange.{Exchange}
use Rattle.session.proofs.Performing.{goes_on, widened, first_state, second_state}
use Rattle.session.proofs.section.Section.go_on.Goals as goal

pub returns : goal.returns
returns g c =
    let x = c.args.self.now in
    let s = g.P.Bench.state c.play_after.new.first in
    let t = g.Q.Bench.state c.play_after.new.second in
    let es = c.deref.result.now in
    let held = vec_items c.args.before in
    let n = c.len-start.result in
    let wide = vec_items c.resize.new.self in
    let unfilled = drop n c.deref_mut.result.now in
    let all = c.play_after.new.exchanges in
    let slots = drop n all in
    let blank : Exchange = record { first = Done; second = Done } in
    let given : es ≡ vec_items x.events = search rules in
    let here : n ≡ length held = search rules in
    let sum : c.in_ok-end.end ≡ n + length es = search rules in
    let room : wide ≡ take c.in_ok-end.end held ++ replicate (c.in_ok-end.end - length held) blank = search rules in
    let w = widened held wide n (length es) c.in_ok-end.end blank here sum room in
    let lent : c.deref_mut.result.now ≡ wide = search rules in
    let long : length unfilled ≡ length es = ap (λ l. length (drop n l)) lent ∙ w.1 in
    let kept : length all ≡ length c.deref_mut.result.now = search rules in
    let many : length slots ≡ length unfilled = length-drop n all ∙ ap (λ m. m - n) kept ∙ sym (length-drop n c.deref_mut.result.now) in
    let whole : all ≡ held ++ slots = sym (take-append-drop n all) ∙ ap (λ l. l ++ slots) (c.play_after.ensures.front ∙ ap (take n) lent ∙ w.0) in
    let extra = states x.state s t in
    record {
      first = IfOk-weaker _ _ _ (λ v is. goes_on x _ s (λ e. e.first) es slots unfilled held extra (vec_items v)
          given long many c.play_after.ensures.played.first (is ∙ ap (λ l. l ++ extra) ((search (rules, with_items_is)) ∙ whole)) (first_state x.state s t)) c.with_states.ensures;
      second = IfOk-weaker _ _ _ (λ v is. goes_on x _ t (λ e. e.second) es slots unfilled held extra (vec_items v)
          given long many c.play_after.ensures.played.second (is ∙ ap (λ l. l ++ extra) ((search (rules, with_items_is)) ∙ whole)) (second_state x.state s t)) c.with_states.ensures;
    }
