-- A run in continuation form that follows one from the table: its next beat, its next step, and what a
-- loop that makes a beat step by step carries along.
use Rattle.std.proofs.Common.{◌≡◌, ℕ, ◌≤◌, true, List, ℤ, pos, sym, refl, subst, arith}
use Rattle.bench.specs.declared.state.State.{State as Standing}
use Rattle.language.specs.Beats.{steps}
use Rattle.language.specs.Calls.{over as at_end, enough, more}
use Rattle.language.specs.Code.{code}
use Rattle.language.specs.CodeWords.{WordAt}
use Rattle.language.specs.Configurations.{Configuration}
use Rattle.language.specs.Continuation.{continuation_begin, CodeStep, CodeBeat}
use Rattle.language.specs.Direct.{direct_begin}
use Rattle.language.specs.Following.{Follows, FollowsRun, Going}
use Rattle.language.specs.Lines.{Enters}
use Rattle.language.specs.Matching.{matching_run}
use Rattle.language.specs.Reachable.{ReachableRun}
use Rattle.language.specs.Runs.{State, Run, running, ended}
use Rattle.language.specs.StepLaws.{OneStep, StaysGoing, Simulation, FewStepsInAll}
use Rattle.language.specs.Steps.{Marks, Rest, over, opens, small, beat}
use Rattle.language.specs.WellFormed.{WellFormed}
use Rattle.language.specs.declared.record.Record.{Record}
use Rattle.language.specs.declared.word.Word.{Word}
use Rattle.language.proofs.CodeWords.{one_word, code_word}
use Rattle.language.proofs.NextBeat.{some_beat, beat_on, few_steps}
use Rattle.language.proofs.NextStep.{on_any_bench, step_once, rest_from}
use Rattle.language.proofs.DirectCalls.{begins_reached}
use Rattle.language.proofs.Simulation.{simulates}

pub simulation : Simulation
simulation t ok s h v b b' r β = simulates t ok (WordAt (code t)) (code_word t ok) s h v b b' r β

pub few_in_all : FewStepsInAll
few_in_all t ok n m k r r' b b' at_end = (omega arith, omega arith)
few_in_all t ok n m k r r' b b' enough = (omega arith, omega arith)
few_in_all t ok n m k r r' b b' (more {n = i} {m = j} {k = o} {l = l} {s = s} {r = u} {b' = c} d rest) =
    let f = few_steps t ok s b c u d.0 in
    let q = d.1 in
    let low : 1 ≤ o = subst (λ x. 1 ≤ x) (sym q) f.0 in
    let high : o ≤ 18 = subst (λ x. x ≤ 18) (sym q) f.1 in
    let g = few_in_all t ok i j l u r' c b' rest in
    let g0 = g.0 in let g1 = g.1 in
    (omega arith, omega arith)

module _ (t : List Record) (ok : WellFormed t) where
  abbrev At : ℕ → Word → Type 0
  At = WordAt (code t)

  one : (a : ℕ) (w u : Word) → At a w → At a u → w ≡ u
  one = one_word (code t)

  follows_run : (w : ℤ) (r : Run State) → ReachableRun t r → FollowsRun t (matching_run t w r)
  follows_run w (running s) h = record { state = s; register = w; reachable = h; matches = refl }
  follows_run w (ended e) h = tt

  -- the next beat
  pub record Next (s : Configuration) (b : Standing) : Type 0 where
    pub count : ℕ
    pub run : Run Configuration
    pub bench : Standing
    pub beats : CodeBeat t s b count run bench
    pub follows : FollowsRun t run
    pub few : count ≤ 18

  pub follow : (s : Configuration) → Follows t s → (b : Standing) → Next s b
  follow s f b =
      let β = some_beat t ok f.state f.reachable b in
      let σ = simulation t ok f.state f.reachable f.register b β.0.1 β.0.0 β.1 in
      record {
        count = steps t β.1;
        run = matching_run t σ.0 β.0.0;
        bench = β.0.1;
        beats = subst (λ z. CodeBeat t z b (steps t β.1) (matching_run t σ.0 β.0.0) β.0.1) f.matches σ.1;
        follows = follows_run σ.0 β.0.0 (beat_on t ok f.state f.reachable β.1);
        few = (few_steps t ok f.state b β.0.1 β.0.0 β.1).1;
      }

  -- a run that follows stands at a word that opens a beat
  pub follow_opens : (s : Configuration) → Follows t s → (b : Standing) → Marks At s true
  follow_opens s f b = by (follow s f b).beats
    where
      by : {k : ℕ} {r : Run Configuration} {c : Standing} → CodeBeat t s b k r c → Marks At s true
      by (beat m σ γ) = m

  pub follow_step : (s : Configuration) → Follows t s → (b : Standing) → (o : Run Configuration × Standing) × CodeStep t s b o.0 o.1
  follow_step s f b = by (follow s f b).beats
    where
      by : {k : ℕ} {r : Run Configuration} {c : Standing} → CodeBeat t s b k r c → (o : Run Configuration × Standing) × CodeStep t s b o.0 o.1
      by (beat m σ γ) = (_, σ)

  -- one step further; the steps that are left are then one less, or those of a new beat
  going_first : {s : Configuration} {b c e : Standing} {r u : Run Configuration} {k : ℕ} → FollowsRun t u → CodeStep t s b r c → CodeBeat t s b k u e → Going t r c
  going_first f σ (beat {n = n} m σ' γ) = record { left = n; after = _; bench = _; rest = rest_from At one σ σ' γ; follows = f }

  going_on : {s : Configuration} {b c e : Standing} {r u : Run Configuration} {k : ℕ} → FollowsRun t u → CodeStep t s b r c → Rest At (running s) b k u e → Going t r c
  going_on {s} {b} f σ (opens m) = let n = follow s f b in going_first n.follows σ n.beats
  going_on f σ (small {n = n} m σ' γ) = record { left = n; after = _; bench = _; rest = rest_from At one σ σ' γ; follows = f }

  -- a step fits wherever a run is going
  pub some_step : {s : Configuration} {c e : Standing} {u : Run Configuration} {k : ℕ} → FollowsRun t u → Rest At (running s) c k u e → (b : Standing) → (o : Run Configuration × Standing) × CodeStep t s b o.0 o.1
  some_step {s} f (opens m) b = follow_step s f b
  some_step {s} f (small m σ γ) b = on_any_bench At s σ b

  -- a run that follows is going, with no step left
  pub follows_going : (b : Standing) (r : Run Configuration) → FollowsRun t r → Going t r b
  follows_going b (running s) f = record { left = 0; after = running s; bench = b; rest = opens (follow_opens s f b); follows = f }
  follows_going b (ended e) f = record { left = 0; after = ended e; bench = b; rest = over; follows = tt }

pub one_step : OneStep
one_step t ok s c g b =
    let σ = some_step t ok g.follows g.rest b in
    (σ.0, σ.1, λ o σ'. step_once (WordAt (code t)) (one_word (code t)) σ.1 σ')

pub stays_going : StaysGoing
stays_going t ok s b b' r g σ = going_on t ok g.follows σ g.rest

-- where a run begins, it follows
pub begin_follows : (t : List Record) → WellFormed t → (j p q : ℕ) (vs : List ℤ) → Enters t 0 j p q → Follows t (continuation_begin t j vs)
begin_follows t ok j p q vs d = record { state = direct_begin t j vs; register = pos 0; reachable = begins_reached t ok j p q vs d; matches = refl }
