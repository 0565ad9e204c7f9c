-- The calls of the continuation stand: what they lead to is sound, and each has one answer.
use Rattle.std.proofs.Common.{◌≡◌, ℕ, ◌+◌, List, subst, suc-add, zero-add}
use Rattle.bench.specs.declared.state.State.{State as Standing}
use Rattle.language.specs.CallLaws.{OneAnswer}
use Rattle.language.specs.Calls.{Stand, over as at_end, enough, more}
use Rattle.language.specs.Code.{code}
use Rattle.language.specs.CodeWords.{WordAt}
use Rattle.language.specs.Configurations.{Configuration}
use Rattle.bench.specs.Laws.{ExactlyOne}
use Rattle.language.specs.Continuation.{continuation_begin, CodeStep, CodeChain, CodeBeat, ContinuationGoes, ContinuationCalls, ContinuationReached, StepAhead, NeverStuck, SomeGo, OneCall}
use Rattle.language.specs.Following.{FollowsRun, Going}
use Rattle.language.specs.Runs.{Run, running}
use Rattle.language.specs.Steps.{still, then, Rest, over, opens, small, beat}
use Rattle.language.specs.WellFormed.{WellFormed}
use Rattle.language.specs.declared.record.Record.{Record}
use Rattle.language.proofs.CodeWords.{one_word}
use Rattle.language.proofs.Following.{follow, follows_going, one_step, stays_going, begin_follows}
use Rattle.language.proofs.NextStep.{step_beat_once}
use Rattle.language.proofs.OneCall.{same_outcome, calls_once}
use Rattle.language.proofs.SoundCalls.{Sound, reached_sound, some_goes, some_call}

pub code_beat_once : (t : List Record) (s : Configuration) (b : Standing) (k k' : ℕ) (r r' : Run Configuration) (c c' : Standing) → CodeBeat t s b k r c → CodeBeat t s b k' r' c' → (k ≡ k') × (r ≡ r') × (c ≡ c')
code_beat_once t s b k k' r r' c c' d e = step_beat_once (WordAt (code t)) (one_word (code t)) d e

pub one_call : OneCall
one_call = calls_once continuation_begin CodeBeat code_beat_once

-- what a beat leaves follows
pub keeps_following : (t : List Record) → WellFormed t → (s : Configuration) (b b' : Standing) (k : ℕ) (r : Run Configuration) → FollowsRun t (running s) → CodeBeat t s b k r b' → FollowsRun t r
keeps_following t ok s b b' k r f d =
    let n = follow t ok s f b in
    subst (FollowsRun t) (code_beat_once t s b n.count k n.run r n.bench b' n.beats d).1 n.follows

some_code_beat : (t : List Record) → WellFormed t → (s : Configuration) (b : Standing) → FollowsRun t (running s) → (k : ℕ) × (r : Run Configuration) × (b' : Standing) × CodeBeat t s b k r b'
some_code_beat t ok s b f = let n = follow t ok s f b in (n.count, n.run, n.bench, n.beats)

pub reached_following : (x : Stand Configuration) → ContinuationReached x → Sound FollowsRun x
reached_following x d = reached_sound continuation_begin CodeBeat FollowsRun begin_follows keeps_following d.bench x d.events d.answers d.history

chain_going : (t : List Record) → WellFormed t → (n : ℕ) (r r' : Run Configuration) (b b' : Standing) → Going t r b → CodeChain t n r b r' b' → Going t r' b'
chain_going t ok n r r' b b' g still = g
chain_going t ok n r r' b b' g (then {n = m} {s = s} {r = u} {b' = c} σ rest) = chain_going t ok m u r' c b' (stays_going t ok s b c u g σ) rest

-- on a sound stand, any number of steps later, there is exactly one next step
pub one_step_ahead : (x : Stand Configuration) → Sound FollowsRun x → (t : List Record) (s : Configuration) → StepAhead x t s → (b : Standing) → ExactlyOne (λ (o : Run Configuration × Standing). CodeStep t s b o.0 o.1)
one_step_ahead x h t s a b =
    let ok = h.formed t a.loaded in
    let f = h.reached t a.run a.loaded a.started in
    one_step t ok s a.after (chain_going t ok a.count a.run (running s) x.bench a.after (follows_going t ok x.bench a.run f) a.leads) b

pub never_stuck : NeverStuck
never_stuck x d t s a b = one_step_ahead x (reached_following x d) t s a b

pub some_go : SomeGo
some_go x d t r loaded started n =
    let h = reached_following x d in
    some_goes continuation_begin CodeBeat FollowsRun begin_follows keeps_following some_code_beat t (h.formed t loaded) n r x.bench (h.reached t r loaded started)

pub one_answer : OneAnswer ContinuationReached ContinuationCalls
one_answer x d e f =
    let o = some_call continuation_begin CodeBeat FollowsRun begin_follows keeps_following some_code_beat x (reached_following x d) e f in
    (o.0, o.1, λ p q. same_outcome (one_call x e p.0 o.0.0 p.1 o.0.1 q o.1))

-- the steps of a beat, and of a go, one after another
module _ (t : List Record) where
  chains_on : {n m : ℕ} {r u v : Run Configuration} {b c d : Standing} → CodeChain t n r b u c → CodeChain t m u c v d → CodeChain t (n + m) r b v d
  chains_on {m = m} still γ = rw zero-add γ
  chains_on {m = m} (then {n = n} σ rest) γ = rw (suc-add n m) (then σ (chains_on rest γ))

  rest_chain : {n : ℕ} {r u : Run Configuration} {b c : Standing} → Rest (WordAt (code t)) r b n u c → CodeChain t n r b u c
  rest_chain over = still
  rest_chain (opens m) = still
  rest_chain (small m σ γ) = then σ (rest_chain γ)

  beat_chain : {s : Configuration} {n : ℕ} {u : Run Configuration} {b c : Standing} → CodeBeat t s b n u c → CodeChain t n (running s) b u c
  beat_chain (beat m σ γ) = then σ (rest_chain γ)

  pub go_chain : (n m k : ℕ) (r u : Run Configuration) (b c : Standing) → ContinuationGoes t n r b m k u c → CodeChain t k r b u c
  go_chain n m k r u b c at_end = still
  go_chain n m k r u b c enough = still
  go_chain n m k r u b c (more {n = i} {m = j} {l = l} {r = v} {b' = d} e rest) = chains_on (beat_chain e) (go_chain i j l v u d c rest)
