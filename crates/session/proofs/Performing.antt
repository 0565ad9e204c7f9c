-- What two benches answered through a section is what the rules say, and the same.
use Rattle.std.proofs.Common.{◌≡◌, ℕ, ◌+◌, ◌-◌, Bool, true, false, List, [], ◌∷◌, ◌++◌, map, length, take, drop, replicate, ℤ, IfOk, Some, None, Ok, Err, vec_items, Result, Vec, sym, refl, ap, ◌∙◌, subst, arith}
use Rattle.std.proofs.Math.Seq.{take-append_seam, drop-append_seam}
use Rattle.std.proofs.lemmas.List.{append_assoc, length-replicate, map-append, take_all}
use Rattle.std.specs.declared.alloc.AllocError.{AllocError}
use Rattle.std.specs.declared.alloc.Global.{Global}
use Rattle.session.specs.Plays.{first_answers, second_answers}
use Rattle.bench.specs.Histories.{History}
use Rattle.bench.specs.Ranges.{Angle}
use Rattle.bench.specs.Reading.{state_under}
use Rattle.bench.specs.SetUps.{SetsUp, TurnsBy}
use Rattle.bench.specs.declared.refusal.SetUpRefusal.{SetUpRefusal}
use Rattle.bench.specs.declared.refusal.ShiftRefusal.{ShiftRefusal}
use Rattle.bench.specs.declared.state.State.{State}
use Rattle.bench.proofs.Histories.{same_history}
use Rattle.bench.proofs.SetUps.{Setting, Turning, same_set_up, same_turn}
use Rattle.script.specs.declared.answer.Answer.{Answer}
use Rattle.session.specs.Answering.{set_up_answer_of, turn_answer_of, report}
use Rattle.session.specs.Events.{Does}
use Rattle.session.specs.BothPerforms.{BothPerform}
use Rattle.session.specs.Performs.{Performs, GoesOn, states}
use Rattle.session.specs.Performs.Performs.{plain, turned}
use Rattle.session.specs.declared.event.Event.{Event}
use Rattle.session.specs.declared.exchange.Exchange.{Exchange}
use Rattle.session.specs.declared.section.Section.{Section}
use Rattle.session.proofs.Playing.{one_answer}

-- a fact of what is made, from two
pub made_both : {X Y : Type 0} (r : Result X Y) (P Q R : X → Type 0) → ((x : X) → P x → Q x → R x) → IfOk r P → IfOk r Q → IfOk r R
made_both (Ok x) P Q R f h k = f x h k
made_both (Err y) P Q R f h k = tt

-- a list of k exchanges with n places more: what it held, and as many places
pub widened : (before wide : List Exchange) (k n e : ℕ) (x : Exchange) → k ≡ length before → e ≡ k + n → wide ≡ take e before ++ replicate (e - length before) x →
    (take k wide ≡ before) × (length (drop k wide) ≡ n)
widened before wide k n e x here sum is =
    let more = replicate (e - length before) x in
    let held : take e before ≡ before = take_all e before (omega arith) in
    let whole : wide ≡ before ++ more = is ∙ ap (λ l. l ++ more) held in
    let many : e - length before ≡ n = omega arith in (
      ap (λ i. take i wide) here ∙ ap (take (length before)) whole ∙ take-append_seam before more,
      ap (λ i. length (drop i wide)) here ∙ ap (λ l. length (drop (length before) l)) whole ∙ ap length (drop-append_seam before more) ∙ length-replicate (e - length before) x ∙ many,
    )

-- one of the two benches, from the slots that its answers stand in
pub goes_on : (x : Section) (s t : State) (f : Exchange → Answer) (es : List Event) (slots unfilled : List Exchange) (before extra all : List Exchange) →
    es ≡ vec_items x.events → length unfilled ≡ length es → length slots ≡ length unfilled →
    History Does s (take (length unfilled) es) (map f (take (length es) slots)) t →
    all ≡ (before ++ slots) ++ extra → map f extra ≡ report x.state t →
    GoesOn x s (map f before) (map f all)
goes_on x s t f es slots unfilled before extra all same long kept history is end =
    let given : take (length unfilled) es ≡ vec_items x.events = take_all (length unfilled) es (omega arith) ∙ same in
    let filled : take (length es) slots ≡ slots = take_all (length es) slots (omega arith) in
    record {
      answers = map f slots;
      last = t;
      history = subst (λ l. History Does s l (map f slots) t) given (subst (λ l. History Does s (take (length unfilled) es) (map f l) t) filled history);
      is = ap (map f) is ∙ map-append f (before ++ slots) extra
          ∙ ap (λ l. l ++ map f extra) (map-append f before slots) ∙ append_assoc (map f before) (map f slots) (map f extra)
          ∙ ap (λ l. map f before ++ (map f slots ++ l)) end;
    }

-- of two states that are told, the first bench told the first, the second the second
pub first_state : (asked : Bool) (s t : State) → map (λ e. e.first) (states asked s t) ≡ report asked s
first_state true s t = refl
first_state false s t = refl

pub second_state : (asked : Bool) (s t : State) → map (λ e. e.second) (states asked s t) ≡ report asked t
second_state true s t = refl
second_state false s t = refl

-- a bench that goes on after its set-up, and one that was turned
pub plain_performs : (x : Section) (r : Result (Unit {0}) SetUpRefusal) (s : State) (before all : List Answer) → x.turn ≡ None → SetsUp x.pairing.counts r s →
    before ≡ set_up_answer_of r ∷ [] → GoesOn x s before all → Performs x all
plain_performs x r s before all e u b g =
    subst (Performs x) (sym (g.is ∙ ap (λ l. l ++ (g.answers ++ report x.state g.last)) b)) (plain e u g.history)

pub turned_performs : (x : Section) (z : ℤ) (r : Result (Unit {0}) SetUpRefusal) (q : Result (Unit {0}) ShiftRefusal) (a : Angle) (s : State) (before all : List Answer) → x.turn ≡ Some z →
    SetsUp x.pairing.counts r s → TurnsBy z q a → before ≡ set_up_answer_of r ∷ turn_answer_of q ∷ [] → GoesOn x (state_under a s) before all → Performs x all
turned_performs x z r q a s before all e u w b g =
    subst (Performs x) (sym (g.is ∙ ap (λ l. l ++ (g.answers ++ report x.state g.last)) b)) (turned e u w g.history)

-- from one state, or from equal ones, events are answered once
same_from : (s s' t t' : State) (es : List Event) (rs rs' : List Answer) → s ≡ s' → History Does s es rs t → History Does s' es rs' t' → (rs ≡ rs') × (t ≡ t')
same_from s s' t t' es rs rs' e a b = same_history Does one_answer s t t' es rs rs' a (subst (λ m. History Does m es rs' t') (sym e) b)

-- a section has one answer to each event
pub same_performance : (x : Section) (us vs : List Answer) → Performs x us → Performs x vs → us ≡ vs
same_performance x us vs (plain {r = r} {s = s} {t = t} {rs = rs} e u a) (plain {r = r'} {s = s'} {t = t'} {rs = rs'} f v b) =
    let set = same_set_up x.pairing.counts (r', s') (r, s) v u in
    let outcome : r ≡ r' = ap (λ (o : Setting). o.0) set in
    let end = same_from s s' t t' (vec_items x.events) rs rs' (ap (λ (o : Setting). o.1) set) a b in
    let replies : rs ≡ rs' = end.0 in
    let last : t ≡ t' = end.1 in
    cc
same_performance x us vs (plain e u a) (turned f v w b) = let o : ◌≡◌ {A = ℕ} 0 1 = cc in absurd (omega arith)
same_performance x us vs (turned e u w a) (plain f v b) = let o : ◌≡◌ {A = ℕ} 0 1 = cc in absurd (omega arith)
same_performance x us vs (turned {z = z} {r = r} {q = q} {a = k} {s = s} {t = t} {rs = rs} e u w a) (turned {z = z'} {r = r'} {q = q'} {a = k'} {s = s'} {t = t'} {rs = rs'} f v y b) =
    let shift : z' ≡ z = cc in
    let set = same_set_up x.pairing.counts (r', s') (r, s) v u in
    let turn = same_turn z (q', k') (q, k) (subst (λ n. TurnsBy n q' k') shift y) w in
    let outcome : r ≡ r' = ap (λ (o : Setting). o.0) set in
    let turned_so : q ≡ q' = ap (λ (o : Turning). o.0) turn in
    let from : state_under k s ≡ state_under k' s' = ap (λ (o : Setting). state_under k o.1) set ∙ ap (λ (o : Turning). state_under o.1 s') turn in
    let end = same_from (state_under k s) (state_under k' s') t t' (vec_items x.events) rs rs' from a b in
    let replies : rs ≡ rs' = end.0 in
    let last : t ≡ t' = end.1 in
    cc

-- each bench performs the section, and so what both answered is the same
pub both_perform : (x : Section) (r : Result (Vec Exchange Global) AllocError) → IfOk r (λ v. Performs x (first_answers (vec_items v))) → IfOk r (λ v. Performs x (second_answers (vec_items v))) →
    IfOk r (λ v. BothPerform x (vec_items v))
both_perform x r = made_both r _ _ _ (λ v a b. record { first = a; second = b; alike = same_performance x (first_answers (vec_items v)) (second_answers (vec_items v)) a b })
