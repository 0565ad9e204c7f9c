-- One event at a time: what is answered is what the rules say, and only that.
use Rattle.std.proofs.Common.{◌≡◌, ℕ, List, get_or, vec_items, Vec, Ok, Err, Result, MatchResult, sym, refl, ap, subst}
use Rattle.std.specs.declared.alloc.Global.{Global}
use Rattle.bench.specs.Histories.{Deterministic}
use Rattle.bench.specs.Responds.{Answer as Reply, Responds}
use Rattle.bench.specs.declared.request.Request.{Request}
use Rattle.bench.specs.declared.state.State.{State as Standing}
use Rattle.bench.proofs.Rules.{same_answer, same_after}
use Rattle.language.specs.Refusals.{Refused}
use Rattle.language.specs.WellFormed.{WellFormedBytes}
use Rattle.language.proofs.Refusals.{refused_once, sound_accepted}
use Rattle.script.specs.declared.answer.Answer.{Answer}
use Rattle.script.specs.declared.answer.Answer.TheVariants.{Done, TableRefused}
use Rattle.session.specs.Answering.{outcome, reply}
use Rattle.session.specs.Events.{Does, accepts, refuses, jogs}
use Rattle.session.specs.declared.event.Event.{Event}
use Rattle.session.specs.declared.event.Event.TheVariants.{Load, Jog}

-- one event is another
pub event_is : (s t : Standing) (e d : Event) (a : Answer) → e ≡ d → Does s e a t → Does s d a t
event_is s t e d a is h = subst (λ x. Does s x a t) is h

-- the event that was given stands at a place of the list
pub event_at : (s t : Standing) (es : List Event) (i : ℕ) (e : Event) (a : Answer) → Does s e a t → e ≡ get_or es i e → Does s (get_or es i e) a t
event_at s t es i e a h is = event_is s t e (get_or es i e) a is h

-- an outcome as an answer, by what the conversion says of its value and of its error
pub by_outcome : {X E : Type 0} (f : X → Answer) (g : E → Answer) (r : Result X E) (a : Answer) → MatchResult r (λ x. a ≡ f x) (λ e. a ≡ g e) → a ≡ outcome f g r
by_outcome f g (Ok x) a h = h
by_outcome f g (Err e) a h = h

-- bytes that are to be loaded, answered as the check finds them
pub accepted : (s : Standing) (v : Vec ℕ Global) (bs : List ℕ) → bs ≡ vec_items v → WellFormedBytes bs → Does s (Load v) Done s
accepted s v bs same h = accepts (subst WellFormedBytes same h)

pub refused : (s : Standing) (v : Vec ℕ Global) (bs : List ℕ) (l c p : ℕ) (a : Answer) → bs ≡ vec_items v → a ≡ TableRefused l c p → Refused bs l c p → Does s (Load v) a s
refused s v bs l c p a same as-told h = subst (λ b. Does s (Load v) b s) (sym as-told) (refuses (subst (λ b. Refused b l c p) same h))

pub loaded : (s : Standing) (e : Event) (v : Vec ℕ Global) (a : Answer) → e ≡ Load v → Does s (Load v) a s → Does s e a s
loaded s e v a is h = event_is s s (Load v) e a (sym is) h

pub jogged : (s t : Standing) (e : Event) (q : Request) (r : Reply) (a : Answer) → e ≡ Jog q → a ≡ reply r → Responds s q.operation q.number r t → Does s e a t
jogged s t e q r a is as-told h = subst (λ d. Does s d a t) (sym is) (subst (λ b. Does s (Jog q) b t) (sym as-told) (jogs h))

pub one_answer : Deterministic Does
one_answer s e a a' t t' (accepts h) (accepts k) = (refl, refl)
one_answer s e a a' t t' (accepts h) (refuses k) = absurd (sound_accepted _ h _ _ _ k)
one_answer s e a a' t t' (refuses h) (accepts k) = absurd (sound_accepted _ k _ _ _ h)
one_answer s e a a' t t' (refuses {v = v} {l = l} {c = c} {p = p} h) (refuses {l = l'} {c = c'} {p = p'} k) =
    let same = refused_once (vec_items v) l c p l' c' p' h k in
    let el : l ≡ l' = same.0 in
    let ec : c ≡ c' = same.1 in
    let ep : p ≡ p' = same.2 in
    (cc, refl)
one_answer s e a a' t t' (jogs {q = q} {r = r} h) (jogs {r = r'} k) =
    (ap reply (same_answer s q.operation q.number r r' t t' h k), same_after s q.operation q.number r r' t t' h k)
