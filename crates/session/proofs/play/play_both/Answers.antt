use Rattle.std.proofs.Common.{◌≡◌, ◌<◌, ◌≤◌, min, length, get_or, refl, ◌∙◌, arith, length-set}
use Rattle.std.proofs.lemmas.List.{get_or-take, length-take}
use Rattle.bench.specs.Histories.History.{done}
use Rattle.bench.proofs.Histories.{history_more, history_all, agreement, dropped_more, dropped_on}
use Rattle.session.specs.Events.{Does}
use Rattle.session.specs.declared.exchange.Exchange.{Exchange}
use Rattle.session.proofs.Playing.{event_at, one_answer}
use Rattle.session.proofs.play.play_both.Goals as goal

pub loop-i-init : goal.loop-i-init
loop-i-init g c = (refl, done, done, refl)

pub loop-i-preserved : goal.loop-i-preserved
loop-i-preserved g c =
    let es = c.args.events.now in
    let slots = c.loop-i.slots in
    let i = c.loop-i.i in
    let e = c.index-given-i.result in
    let x : Exchange = record { first = c.answer.result; second = c.answer-in-loop-i.result } in
    let given = length-take c.min.result es in
    let within : i < c.min.result = omega arith in
    let he : i < length es = omega arith in
    let hs : i < length slots = omega arith in
    let here : e ≡ get_or es i e = c.index-given-i.is ∙ get_or-take c.min.result es i e within in (
      length-set slots i x ∙ c.loop-i.invariant.0,
      history_more Does (λ y. y.first) es slots i e x _ _ _ he hs c.loop-i.invariant.1 (event_at _ _ es i e _ c.answer.ensures here),
      history_more Does (λ y. y.second) es slots i e x _ _ _ he hs c.loop-i.invariant.2 (event_at _ _ es i e _ c.answer-in-loop-i.ensures here),
      dropped_more slots c.args.slots.now i x c.loop-i.invariant.3,
    )

pub returns : goal.returns
returns g c =
    let es = c.args.events.now in
    let slots = c.loop-i.slots in
    let i = c.loop-i.i in
    let n = length c.args.slots.now in
    let long : length slots ≡ n = c.loop-i.invariant.0 in
    let given = length-take c.min.result es in
    let end : i ≡ min (length es) n = omega arith in
    let past : i ≤ length es = omega arith in
    let first = history_all Does (λ y. y.first) es slots i n _ _ end long c.loop-i.invariant.1 in
    let second = history_all Does (λ y. y.second) es slots i n _ _ end long c.loop-i.invariant.2 in
    record {
      first = first;
      second = second;
      agree = agreement Does one_answer _ _ _ _ _ _ _ first second;
      rest = dropped_on slots c.args.slots.now i (length es) past c.loop-i.invariant.3;
    }
