-- The calls of the direct stand: what they lead to is sound, and each has one answer.
use Rattle.std.proofs.Common.{◌≡◌, ℕ, List, ℤ, sym, refl, ap, ◌∙◌, arith}
use Rattle.bench.specs.Laws.{ExactlyOne}
use Rattle.bench.specs.declared.state.State.{State as Standing}
use Rattle.language.specs.Beats.{Beat, steps}
use Rattle.language.specs.CallLaws.{Settled, OneAnswer}
use Rattle.language.specs.Calls.{Event, Answer, Stand}
use Rattle.language.specs.Direct.{direct_begin, DirectBeat, DirectCalls, DirectReached, Ahead, NeverStuck, SomeGo, OneCall}
use Rattle.language.specs.Lines.{Enters}
use Rattle.language.specs.Reachable.{Reachable, ReachableRun}
use Rattle.language.specs.Runs.{State, Run, running}
use Rattle.language.specs.WellFormed.{WellFormed}
use Rattle.language.specs.declared.record.Record.{Record}
use Rattle.language.proofs.BeatSteps.{steps_once}
use Rattle.language.proofs.Flow.{routine_stands}
use Rattle.language.proofs.NextBeat.{one_beat, some_beat, beat_on, beat_once}
use Rattle.language.proofs.OneCall.{same_outcome, calls_once}
use Rattle.language.proofs.SoundCalls.{Sound, goes_good, reached_sound, some_goes, some_call}

pub begins_reached : (t : List Record) → WellFormed t → (j p q : ℕ) (vs : List ℤ) → Enters t 0 j p q → Reachable t (direct_begin t j vs)
begins_reached t ok j p q vs d = record { stands = routine_stands t ok 0 j p q d; resumed = tt; few = omega arith }

pub keeps_reached : (t : List Record) → WellFormed t → (s : State) (b b' : Standing) (k : ℕ) (r : Run State) → ReachableRun t (running s) → DirectBeat t s b k r b' → ReachableRun t r
keeps_reached t ok s b b' k r h d = beat_on t ok s h d.0

some_direct_beat : (t : List Record) → WellFormed t → (s : State) (b : Standing) → ReachableRun t (running s) → (k : ℕ) × (r : Run State) × (b' : Standing) × DirectBeat t s b k r b'
some_direct_beat t ok s b h = let o = some_beat t ok s h b in (steps t o.1, o.0.0, o.0.1, (o.1, refl))

pub reached_direct : (x : Stand State) → DirectReached x → Sound ReachableRun x
reached_direct x d = reached_sound direct_begin DirectBeat ReachableRun begins_reached keeps_reached d.bench x d.events d.answers d.history

-- on a sound stand, any number of beats later, there is exactly one next beat
pub one_beat_ahead : (x : Stand State) → Sound ReachableRun x → (t : List Record) (s : State) → Ahead x t s → (b : Standing) → ExactlyOne (λ (o : Run State × Standing). Beat t s b o.0 o.1)
one_beat_ahead x h t s a b =
    let ok = h.formed t a.loaded in
    one_beat t ok s (goes_good direct_begin DirectBeat ReachableRun begins_reached keeps_reached t ok a.count a.beats a.further a.run (running s) x.bench a.after (h.reached t a.run a.loaded a.started) a.leads) b

pub never_stuck : NeverStuck
never_stuck x d t s a b = one_beat_ahead x (reached_direct x d) t s a b

pub some_go : SomeGo
some_go x d t r loaded started n =
    let h = reached_direct x d in
    some_goes direct_begin DirectBeat ReachableRun begins_reached keeps_reached some_direct_beat t (h.formed t loaded) n r x.bench (h.reached t r loaded started)

direct_once : (t : List Record) (s : State) (b : Standing) (k k' : ℕ) (r r' : Run State) (c c' : Standing) → DirectBeat t s b k r c → DirectBeat t s b k' r' c' → (k ≡ k') × (r ≡ r') × (c ≡ c')
direct_once t s b k k' r r' c c' d e =
    let same = beat_once t s e.0 d.0 in
    (d.1 ∙ steps_once t s d.0 e.0 ∙ sym e.1, ap (λ (p : Run State × Standing). p.0) same, ap (λ (p : Run State × Standing). p.1) same)

pub one_call : OneCall
one_call = calls_once direct_begin DirectBeat direct_once

pub some_direct_call : (x : Stand State) → Sound ReachableRun x → (e : Event) → Settled e → (o : Answer × Stand State) × DirectCalls x e o.0 o.1
some_direct_call = some_call direct_begin DirectBeat ReachableRun begins_reached keeps_reached some_direct_beat

pub one_answer : OneAnswer DirectReached DirectCalls
one_answer x d e f =
    let o = some_direct_call x (reached_direct x d) e f in
    (o.0, o.1, λ p q. same_outcome (one_call x e p.0 o.0.0 p.1 o.0.1 q o.1))
