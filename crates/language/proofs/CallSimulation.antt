-- The calls of the two stands: on stands that are alike the continuation stand can answer each call as the
-- direct stand does, and they are then alike again.
use Rattle.std.proofs.Common.{◌≡◌, ℕ, List, ℤ, pos, Some, None, Option, sym, refl, ap, ◌∙◌, subst}
use Rattle.bench.specs.Responds.{Responds}
use Rattle.bench.specs.declared.state.State.{State as Standing}
use Rattle.language.specs.Calls.{Event, go, Answer, went, Stand, fresh_stand, over, enough, more, loads, load_not, starts, start_nothing, start_miscounted, goes, go_nowhere, go_too_far, jogs, progress_number, progress_value}
use Rattle.language.specs.Configurations.{Configuration}
use Rattle.language.specs.Continuation.{continuation_begin, CodeBeat, ContinuationGoes, ContinuationCalls}
use Rattle.language.specs.Direct.{direct_begin, DirectBeat, DirectGoes, DirectCalls}
use Rattle.language.specs.Following.{FollowsRun}
use Rattle.language.specs.Matching.{matching, matching_run}
use Rattle.language.specs.Reachable.{ReachableRun}
use Rattle.language.specs.Runs.{State, Run, running, ended}
use Rattle.language.specs.WellFormed.{WellFormed}
use Rattle.language.specs.declared.ending.Ending.TheVariants.{Returned, Raised, Exhausted}
use Rattle.language.specs.declared.record.Record.{Record}
use Rattle.language.proofs.ContinuationCalls.{keeps_following}
use Rattle.language.proofs.DirectCalls.{begins_reached, keeps_reached}
use Rattle.language.proofs.Following.{simulation, begin_follows}
use Rattle.language.proofs.Lists.{clash}
use Rattle.language.proofs.OneCall.{same_some}
use Rattle.language.proofs.SoundCalls.{Sound, call_sound, fresh_sound}

-- a go of the direct stand is one of the continuation stand
pub goes_simulated : (t : List Record) → WellFormed t → (n m k : ℕ) (r r' : Run State) (b b' : Standing) → ReachableRun t r → DirectGoes t n r b m k r' b' → (v : ℤ) →
    (w : ℤ) × ContinuationGoes t n (matching_run t v r) b m k (matching_run t w r') b'
goes_simulated t ok n m k r r' b b' h over v = (v, over)
goes_simulated t ok n m k r r' b b' h enough v = (v, enough)
goes_simulated t ok n m k r r' b b' h (more {n = i} {m = j} {k = o} {l = l} {s = s} {r = u} {b' = c} d rest) v =
    let σ = simulation t ok s h v b c u d.0 in
    let here = subst (λ q. CodeBeat t (matching t v s) b q (matching_run t σ.0 u) c) (sym d.1) σ.1 in
    let on = goes_simulated t ok i j l u r' c b' (keeps_reached t ok s b c o u h d) rest σ.0 in
    (on.0, more here on.1)

same_number : (t : List Record) (v : ℤ) (r : Run State) → progress_number (matching_run t v r) ≡ progress_number r
same_number t v (running s) = refl
same_number t v (ended (Returned n)) = refl
same_number t v (ended (Raised n)) = refl
same_number t v (ended Exhausted) = refl

same_value : (t : List Record) (v : ℤ) (r : Run State) → progress_value (matching_run t v r) ≡ progress_value r
same_value t v (running s) = refl
same_value t v (ended (Returned n)) = refl
same_value t v (ended (Raised n)) = refl
same_value t v (ended Exhausted) = refl

-- the runs of two stands on one table match
pub data Matched (t : Option (List Record)) : Option (Run State) → Option (Run Configuration) → Type 0 where
  neither : Matched t None None
  both : {u : List Record} {r : Run State} (v : ℤ) → t ≡ Some u → Matched t (Some r) (Some (matching_run u v r))

pub record Alike (d : Stand State) (c : Stand Configuration) : Type 0 where
  pub table : d.table ≡ c.table
  pub bench : d.bench ≡ c.bench
  pub runs : Matched d.table d.run c.run

-- the run that matches one that is started, and none where none is
run_of : (o : Option (List Record)) (t : List Record) (p : Option (Run State)) (r : Run State) (q : Option (Run Configuration)) → Matched o p q → o ≡ Some t → p ≡ Some r → (v : ℤ) × (q ≡ Some (matching_run t v r))
run_of o t p r q neither e f = clash cc
run_of o t p r q (both {u = u} {r = r'} v g) e f =
    let same : u ≡ t = same_some o u t g e in
    let run : r' ≡ r = cc in
    (v, ap (λ x. Some (matching_run x v r')) same ∙ ap (λ x. Some (matching_run t v x)) run)

no_run : (o : Option (List Record)) (p : Option (Run State)) (q : Option (Run Configuration)) → Matched o p q → p ≡ None → q ≡ None
no_run o p q neither e = refl
no_run o p q (both v g) e = clash cc

-- the continuation stand can answer as the direct stand does, and is then alike again
pub record Answered (d : Stand State) (c : Stand Configuration) (e : Event) (a : Answer) : Type 0 where
  pub left : Stand Configuration
  pub calls : ContinuationCalls c e a left
  pub alike : Alike d left

pub calls_simulated : (d d' : Stand State) (c : Stand Configuration) (e : Event) (a : Answer) → Alike d c → Sound ReachableRun d → DirectCalls d e a d' → Answered d' c e a
calls_simulated d d' c e a h k (loads t holds ok) = record { left = _; calls = loads t holds ok; alike = record { table = refl; bench = h.bench; runs = neither } }
calls_simulated d d' c e a h k (load_not q) = record { left = c; calls = load_not q; alike = h }
calls_simulated d d' c e a h k (starts t j l f n) = record { left = _; calls = starts t j (sym h.table ∙ l) f n; alike = record { table = h.table; bench = h.bench; runs = both (pos 0) l } }
calls_simulated d d' c e a h k (start_nothing l) = record { left = c; calls = start_nothing (sym h.table ∙ l); alike = h }
calls_simulated d d' c e a h k (start_miscounted t j l f n) = record { left = c; calls = start_miscounted t j (sym h.table ∙ l) f n; alike = h }
calls_simulated d d' c e a h k (goes {m = m} {k = i} {r' = r'} {b' = b'} t r n l s few g) =
    let v = run_of d.table t d.run r c.run h.runs l s in
    let w = goes_simulated t (k.formed t l) n m i r r' d.bench b' (k.reached t r l s) g v.0 in
    let there = subst (λ b. ContinuationGoes t n (matching_run t v.0 r) b m i (matching_run t w.0 r') b') h.bench w.1 in
    let left : Stand Configuration = record { table = c.table; run = Some (matching_run t w.0 r'); bench = b' } in
    let call = goes t (matching_run t v.0 r) n (sym h.table ∙ l) v.1 few there in
    let told = subst (λ x. ContinuationCalls c (go (pos n)) (went x (progress_value (matching_run t w.0 r')) m i) left) (same_number t w.0 r') call in
    record {
      left = left;
      calls = subst (λ x. ContinuationCalls c (go (pos n)) (went (progress_number r') x m i) left) (same_value t w.0 r') told;
      alike = record { table = h.table; bench = refl; runs = both w.0 l };
    }
calls_simulated d d' c e a h k (go_nowhere s) = record { left = c; calls = go_nowhere (no_run d.table d.run c.run h.runs s); alike = h }
calls_simulated d d' c e a h k (go_too_far r s o) =
    let t = k.tabled r s in
    let v = run_of d.table t.0 d.run r c.run h.runs t.1 s in
    record { left = c; calls = go_too_far (matching_run t.0 v.0 r) v.1 o; alike = h }
calls_simulated d d' c e a h k (jogs {op = op} {y = y} {a = reply} {b' = b'} q) =
    record { left = _; calls = jogs (subst (λ b. Responds b op y reply b') h.bench q); alike = record { table = h.table; bench = refl; runs = h.runs } }

pub direct_sound : (d d' : Stand State) (e : Event) (a : Answer) → Sound ReachableRun d → DirectCalls d e a d' → Sound ReachableRun d'
direct_sound = call_sound direct_begin DirectBeat ReachableRun begins_reached keeps_reached

pub continuation_sound : (c c' : Stand Configuration) (e : Event) (a : Answer) → Sound FollowsRun c → ContinuationCalls c e a c' → Sound FollowsRun c'
continuation_sound = call_sound continuation_begin CodeBeat FollowsRun begin_follows keeps_following

pub fresh_alike : (b b' : Standing) → b ≡ b' → Alike (fresh_stand b) (fresh_stand b')
fresh_alike b b' e = record { table = refl; bench = e; runs = neither }

pub fresh_direct : (b : Standing) → Sound ReachableRun (fresh_stand b)
fresh_direct = fresh_sound direct_begin DirectBeat ReachableRun begins_reached keeps_reached

pub fresh_continuation : (b : Standing) → Sound FollowsRun (fresh_stand b)
fresh_continuation = fresh_sound continuation_begin CodeBeat FollowsRun begin_follows keeps_following
