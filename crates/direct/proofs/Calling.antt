-- The calls of a stand, from what its parts do.
use Rattle.std.proofs.Common.{◌≡◌, ℕ, ◌+◌, ◌<◌, ◌≤◌, List, [], length, ℤ, pos, Some, None, Ok, Err, Option, Result, sym, refl, ap, ◌∙◌, subst, add-one, arith}
use mathlib.Core.Logic.{∥∥₁_map}
use Rattle.bench.proofs.Rules.{respond_responds}
use Rattle.bench.specs.Respond.{respond}
use Rattle.bench.specs.Responds.{Answer as Reply, Responds}
use Rattle.bench.specs.declared.state.State.{State as Standing}
use Rattle.direct.proofs.Known.{known_reachable}
use Rattle.direct.proofs.Programs.{formed}
use Rattle.direct.specs.Going.{Went}
use Rattle.direct.specs.Keeping.{Keeps, run_at}
use Rattle.direct.specs.Machines.{state_of}
use Rattle.direct.specs.Programs.{records_in}
use Rattle.direct.specs.Stands.{go_answer}
use Rattle.direct.specs.declared.gone.Gone.{Gone}
use Rattle.direct.specs.declared.program.Program.{Program}
use Rattle.direct.specs.declared.run.Run.{Run as Started}
use Rattle.language.proofs.DirectCalls.{begins_reached, keeps_reached as stays_reached}
use Rattle.language.proofs.Lists.{all_nth, nth_below}
use Rattle.language.proofs.SoundCalls.{goes_good}
use Rattle.language.specs.Asked.{Asked}
use Rattle.language.specs.Bytes.{InRange}
use Rattle.language.specs.Calls.{Stand, start, go, jog, done, start_refused, replied, went, progress_number, progress_value, starts, start_miscounted, goes, go_too_far, jogs}
use Rattle.language.specs.Direct.{direct_begin, DirectBeat, DirectGoes, DirectCalls}
use Rattle.language.specs.Progress.{progressed, run_of}
use Rattle.language.specs.Reachable.{Reachable, ReachableRun}
use Rattle.language.specs.Runs.{variable_count, State, Run, running, with_arguments}
use Rattle.language.specs.declared.ending.Ending.{Ending}
use Rattle.language.specs.declared.ending.Ending.TheVariants.{Returned, Raised, Exhausted}
use Rattle.language.specs.declared.record.Record.{Record}
use Rattle.language.specs.declared.refusal.GoRefusal.{GoRefusal}
use Rattle.language.specs.declared.refusal.GoRefusal.TheVariants.{BeatCount}
use Rattle.language.specs.declared.refusal.StartRefusal.TheVariants.{ArgumentCount}
use Rattle.table.specs.Mains.{StartsWith}
use Rattle.table.specs.declared.entry_point.Main.{Main}

-- what a start begins with
module _ (p : Program) (m : Main) (vs : List ℤ) (main : StartsWith (records_in p) m) where
  abbrev t : List Record
  t = records_in p

  module _ (s : State) (is : s ≡ record { routine = 0; handler = None; at = m.place + 1; variables = with_arguments vs; frames = [] }) where
    starting : direct_begin t m.place vs ≡ s
    starting = ap (λ a. record { routine = 0; handler = None; at = a; variables = with_arguments vs; frames = [] }) (sym (add-one m.place)) ∙ sym is

    pub by_start : (x : Stand State) → x.table ≡ Some t → length vs ≡ m.parameters → DirectCalls x (start vs) done (record { table = x.table; run = Some (running s); bench = x.bench })
    by_start x loaded n =
        subst (λ u. DirectCalls x (start vs) done (record { table = x.table; run = Some (running u); bench = x.bench })) starting (starts t m.place loaded main.here n)

    pub start_reached : Reachable t s
    start_reached = subst (Reachable t) starting (begins_reached t (formed p) m.place m.parameters main.locals vs main.here)

  pub by_miscount : (x : Stand State) → x.table ≡ Some t → (length vs ≡ m.parameters → ⊥) → DirectCalls x (start vs) (start_refused ArgumentCount) x
  by_miscount x loaded n = start_miscounted t m.place loaded main.here n

  -- at most as many arguments as there are variables
  pub few_arguments : length vs ≡ m.parameters → length vs ≤ variable_count
  few_arguments n =
      let d = all_nth InRange t m.place _ (formed p).legible.ranged main.here.there in
      let a = d.0 in
      omega (arith, n)

  -- the place of its heading is one of 256
  pub main_below : m.place < 256
  main_below = omega (arith, nth_below t m.place _ main.here.there, (formed p).legible.few)

-- what is told of a run does not depend on its state
told_number : (p : Result (Unit {0}) Ending) (s : State) → progress_number (progressed p s) ≡ progress_number (run_of p)
told_number (Ok d) s = refl
told_number (Err (Returned v)) s = refl
told_number (Err (Raised v)) s = refl
told_number (Err Exhausted) s = refl

told_value : (p : Result (Unit {0}) Ending) (s : State) → progress_value (progressed p s) ≡ progress_value (run_of p)
told_value (Ok d) s = refl
told_value (Err (Returned v)) s = refl
told_value (Err (Raised v)) s = refl
told_value (Err Exhausted) s = refl

-- a go that can be made: its answer tells what it came to
module _ (x : Stand State) (t : List Record) (r : Run State) (z : ℤ) (n : ℕ) (loaded : x.table ≡ Some t) (started : x.run ≡ Some r) (asked : Asked z (Some n)) where
  pub by_go : (g : Gone) (s : State) (b : Standing) (k : ℕ) → DirectGoes t n r x.bench g.beats k (progressed g.progress s) b →
      DirectCalls x (go z) (go_answer (Ok g) k) (record { table = x.table; run = Some (progressed g.progress s); bench = b })
  by_go g s b k gone =
      let y : Stand State = record { table = x.table; run = Some (progressed g.progress s); bench = b } in
      subst (λ v. DirectCalls x (go v) (go_answer (Ok g) k) y) (sym asked.0)
      (subst (λ v. DirectCalls x (go (pos n)) (went v (progress_value (run_of g.progress)) g.beats k) y) (told_number g.progress s)
      (subst (λ v. DirectCalls x (go (pos n)) (went (progress_number (progressed g.progress s)) v g.beats k) y) (told_value g.progress s)
      (goes t r n loaded started asked.1 gone)))

-- a run that went on is one that the rules reach
pub went_kept : (p : Program) (n : ℕ) (s s' : State) (b b' : Standing) (g : Gone) → Reachable (records_in p) s → Went (records_in p) n s b g s' b' → ReachableRun (records_in p) (progressed g.progress s')
went_kept p n s s' b b' g here w = goes_good direct_begin DirectBeat ReachableRun begins_reached stays_reached (records_in p) (formed p) n g.beats w.steps (running s) (progressed g.progress s') b b' here w.goes

-- a go of too many beats, or of too few
pub by_too_far : (x : Stand State) (r : Run State) (z : ℤ) (o : Option ℕ) (p : Result Gone GoRefusal) → x.run ≡ Some r → o ≡ None → Asked z o → p ≡ Err BeatCount → DirectCalls x (go z) (go_answer p 0) x
by_too_far x r z o p started eo asked ep = subst (λ q. DirectCalls x (go z) (go_answer q 0) x) (sym ep) (go_too_far r started (subst (Asked z) eo asked))

-- what is kept of a run can be had, since it can hold in one way only
pub kept_run : (p : Program) (q : Option Started) (r : Started) → ∥ Keeps p q ∥₁ → q ≡ Some r → ReachableRun (records_in p) (run_at r)
kept_run p q r kept e = by r.progress refl
  where
    by : (o : Result (Unit {0}) Ending) → r.progress ≡ o → ReachableRun (records_in p) (run_at r)
    by (Ok d) eo =
        let known = ∥∥₁_map kept (λ w. subst (λ v. ReachableRun (records_in p) (progressed v (state_of r.machine))) eo (subst (Keeps p) e w)) in
        subst (λ v. ReachableRun (records_in p) (progressed v (state_of r.machine))) (sym eo) (known_reachable (records_in p) (state_of r.machine) known)
    by (Err x) eo = subst (λ v. ReachableRun (records_in p) (progressed v (state_of r.machine))) (sym eo) tt

-- a request that the bench answers as its contract says
pub by_jog : (x : Stand State) (op y : ℤ) (a : Reply) (b : Standing) → a ≡ (respond x.bench op y).0 → b ≡ (respond x.bench op y).1 → DirectCalls x (jog op y) (replied a) (record { table = x.table; run = x.run; bench = b })
by_jog x op y a b ea eb =
    jogs (subst (λ v. Responds x.bench op y v b) (sym ea) (subst (λ v. Responds x.bench op y (respond x.bench op y).0 v) (sym eb) (respond_responds x.bench op y)))
