-- The agreement of the two stands, from the simulation of their calls.
use Rattle.std.proofs.Common.{◌≡◌, ℕ, List, ℤ, refl, subst, inl, inr}
use Rattle.bench.specs.Histories.{History}
use Rattle.bench.specs.Histories.History.{done as no_more, next}
use Rattle.language.specs.Agreement.{SameAnswer, both_done, both_refuse_load, both_refuse_start, both_refuse_go, both_went, both_replied, StepsMade, Agreement, nothing, event, HistoriesAgree, HistoriesExist}
use Rattle.language.specs.Calls.{Event, Answer, went, Stand, fresh_stand, loads, load_not, starts, start_nothing, start_miscounted, goes, go_nowhere, go_too_far, jogs}
use Rattle.language.specs.Configurations.{Configuration}
use Rattle.language.specs.Continuation.{CodeChain, ContinuationCalls}
use Rattle.language.specs.Direct.{DirectCalls}
use Rattle.language.specs.Following.{FollowsRun}
use Rattle.language.specs.Reachable.{ReachableRun}
use Rattle.language.specs.Runs.{State}
use Rattle.language.proofs.ContinuationCalls.{one_call, one_step_ahead, go_chain}
use Rattle.language.proofs.DirectCalls.{one_beat_ahead, some_direct_call}
use Rattle.language.proofs.Following.{few_in_all}
use Rattle.language.proofs.Lists.{clash}
use Rattle.language.proofs.SoundCalls.{Sound}
use Rattle.language.specs.CallLaws.{Settled}
use Rattle.language.proofs.CallSimulation.{Alike, calls_simulated, direct_sound, continuation_sound, fresh_alike, fresh_direct, fresh_continuation}

-- the answers of one call, of which the steps are those that were listed
same_answers : (d d' : Stand State) (e : Event) (a : Answer) → Sound ReachableRun d → DirectCalls d e a d' → SameAnswer a a
same_answers d d' e a k (loads t holds ok) = both_done
same_answers d d' e a k (load_not q) = both_refuse_load
same_answers d d' e a k (starts t j l f n) = both_done
same_answers d d' e a k (start_nothing l) = both_refuse_start
same_answers d d' e a k (start_miscounted t j l f n) = both_refuse_start
same_answers d d' e a k (goes {m = m} {k = i} {r' = r'} {b' = b'} t r n l s few g) =
    let f = few_in_all t (k.formed t l) n m i r r' d.bench b' g in
    both_went refl f.0 f.1
same_answers d d' e a k (go_nowhere s) = both_refuse_go
same_answers d d' e a k (go_too_far r s o) = both_refuse_go
same_answers d d' e a k (jogs q) = both_replied

-- the steps of a go, as a chain
steps_made : (c c' : Stand Configuration) (e : Event) (a : Answer) → ContinuationCalls c e a c' → (progress beats k : ℕ) (value : ℤ) → a ≡ went progress value beats k → StepsMade c k c'
steps_made c c' e a (loads t holds ok) p m k v q = clash cc
steps_made c c' e a (load_not r) p m k v q = clash cc
steps_made c c' e a (starts t j l f n) p m k v q = clash cc
steps_made c c' e a (start_nothing l) p m k v q = clash cc
steps_made c c' e a (start_miscounted t j l f n) p m k v q = clash cc
steps_made c c' e a (goes {m = i} {k = j} {r' = r'} {b' = b'} t r n l s few g) p m k v q =
    let same : j ≡ k = cc in
    record { table = t; before = r; after = r'; loaded = l; started = s; left = refl; chain = subst (λ x. CodeChain t x r c.bench r' b') same (go_chain t n i j r r' c.bench b' g) }
steps_made c c' e a (go_nowhere s) p m k v q = clash cc
steps_made c c' e a (go_too_far r s o) p m k v q = clash cc
steps_made c c' e a (jogs r) p m k v q = clash cc

agrees : (d d'' : Stand State) (c c'' : Stand Configuration) (es : List Event) (rs rs' : List Answer) → Alike d c → Sound ReachableRun d → Sound FollowsRun c →
    History DirectCalls d es rs d'' → History ContinuationCalls c es rs' c'' → Agreement d c es rs rs' d'' c''
agrees d d'' c c'' es rs rs' h k f no_more no_more = nothing
agrees d d'' c c'' es rs rs' h k f (next {m = d'} {e = e} {a = a} {es = fs} {rs = ps} p rest) (next {m = c'} {a = a'} {rs = qs} q rest') =
    let s = calls_simulated d d' c e a h k p in
    let one = one_call c e a a' s.left c' s.calls q in
    let like : Alike d' c' = subst (Alike d') one.1 s.alike in
    let k' = direct_sound d d' e a k p in
    let f' = continuation_sound c c' e a' f q in
    event p q (subst (SameAnswer a) one.0 (same_answers d d' e a k p)) (steps_made c c' e a' q) like.bench (one_beat_ahead d' k') (one_step_ahead c' f')
    (agrees d' d'' c' c'' fs ps qs like k' f' rest rest')

pub histories_agree_lem : HistoriesAgree
histories_agree_lem b b' e es rs rs' d c p q = agrees (fresh_stand b) d (fresh_stand b') c es rs rs' (fresh_alike b b' e) (fresh_direct b) (fresh_continuation b') p q

-- a call that is answered was settled
settled : (c c' : Stand Configuration) (e : Event) (a : Answer) → ContinuationCalls c e a c' → Settled e
settled c c' e a (loads t holds ok) = inl (record { table = t; same = holds.same; formed = ok })
settled c c' e a (load_not {l = l} {c = k} {p = p} r) = inr (l, k, p, r)
settled c c' e a (starts t j l f n) = tt
settled c c' e a (start_nothing l) = tt
settled c c' e a (start_miscounted t j l f n) = tt
settled c c' e a (goes t r n l s few g) = tt
settled c c' e a (go_nowhere s) = tt
settled c c' e a (go_too_far r s o) = tt
settled c c' e a (jogs r) = tt

some_continuation : (d d'' : Stand State) (c : Stand Configuration) (es : List Event) (rs : List Answer) → Alike d c → Sound ReachableRun d → History DirectCalls d es rs d'' → (c'' : Stand Configuration) × History ContinuationCalls c es rs c''
some_continuation d d'' c es rs h k no_more = (c, no_more)
some_continuation d d'' c es rs h k (next {m = d'} {e = e} {a = a} {es = fs} {rs = ps} p rest) =
    let s = calls_simulated d d' c e a h k p in
    let on = some_continuation d' d'' s.left fs ps s.alike (direct_sound d d' e a k p) rest in
    (on.0, next s.calls on.1)

some_direct : (d : Stand State) (c c'' : Stand Configuration) (es : List Event) (rs : List Answer) → Alike d c → Sound ReachableRun d → History ContinuationCalls c es rs c'' → (d'' : Stand State) × History DirectCalls d es rs d''
some_direct d c c'' es rs h k no_more = (d, no_more)
some_direct d c c'' es rs h k (next {m = c'} {e = e} {a = a} {es = fs} {rs = ps} q rest) =
    let o = some_direct_call d k e (settled c c' e a q) in
    let s = calls_simulated d o.0.1 c e o.0.0 h k o.1 in
    let one = one_call c e o.0.0 a s.left c' s.calls q in
    let p : DirectCalls d e a o.0.1 = subst (λ x. DirectCalls d e x o.0.1) one.0 o.1 in
    let on = some_direct o.0.1 c' c'' fs ps (subst (Alike o.0.1) one.1 s.alike) (direct_sound d o.0.1 e a k p) rest in
    (on.0, next p on.1)

pub histories_exist : HistoriesExist
histories_exist = record {
  continuation = λ b es rs d p. some_continuation (fresh_stand b) d (fresh_stand b) es rs (fresh_alike b b refl) (fresh_direct b) p;
  direct = λ b es rs c q. some_direct (fresh_stand b) (fresh_stand b) c es rs (fresh_alike b b refl) (fresh_direct b) q;
}
