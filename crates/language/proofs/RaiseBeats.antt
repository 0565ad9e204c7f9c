-- The beats of a raise and of a faulted request, matched by their steps.
use Rattle.std.proofs.Common.{◌≡◌, ℕ, suc, pred, List, length, set, ℤ, pos, Some, None, Err, Option, refl, subst, arith}
use Rattle.std.specs.List.{slice_get}
use Rattle.bench.specs.Numbers.{fault_number}
use Rattle.bench.specs.Responds.{Responds}
use Rattle.bench.specs.declared.fault.Fault.{Fault}
use Rattle.bench.specs.declared.state.State.{State as Standing}
use Rattle.language.specs.Beats.{Raises, own, frames, nobody, raise_steps, fault_steps}
use Rattle.language.specs.Configurations.{Configuration, content}
use Rattle.language.specs.Lines.{Heads}
use Rattle.language.specs.Matching.{newest, catching, cell, cells, matching, matching_run}
use Rattle.language.specs.Reachable.{Reachable}
use Rattle.language.specs.Runs.{State, Run, running, ended, value, into, Catcher, catcher, caught}
use Rattle.language.specs.Steps.{Step, assign, fault, throw, uncaught, Rest, over, small, StepBeat, beat}
use Rattle.language.specs.Translation.{address, translation}
use Rattle.language.specs.WellFormed.{WellFormed}
use Rattle.language.specs.declared.ending.Ending.TheVariants.{Raised}
use Rattle.language.specs.declared.handler.Handler.{Handler}
use Rattle.language.specs.declared.instruction.Instruction.{Instruction}
use Rattle.language.specs.declared.instruction.Instruction.TheVariants.{Request, Call, Raise}
use Rattle.language.specs.declared.operation.Operation.TheVariants.{Throw}
use Rattle.language.specs.declared.record.Record.{Record}
use Rattle.language.specs.declared.record.Record.TheVariants.{Body}
use Rattle.language.specs.declared.word.Word.{Word}
use Rattle.language.proofs.BeatWords.{line_here, words_here, fetches, marks, lands}
use Rattle.language.proofs.Cells.{catching_cell, catching_none}
use Rattle.language.proofs.Frames.{catches}
use Rattle.language.proofs.Limits.{variables_below, catch_below, not_spare}
use Rattle.language.proofs.Words.{placed, address_next}

module _ (t : List Record) (ok : WellFormed t) (At : ℕ → Word → Type 0) (reads : (a : ℕ) (w : Word) → slice_get (translation t) a ≡ Some w → At a w) where
  abbrev Beats : Configuration → Standing → ℕ → Run Configuration → Standing → Type 0
  Beats = StepBeat At

  module _ (s : State) (here : Reachable t s) (v : ℤ) (b : Standing) where
    abbrev start : Configuration
    start = matching t v s

    -- the configuration at another address, with w in register 16
    abbrev near : ℤ → ℕ → Configuration
    near w a = record { counter = a; variables = s.variables; register = w; continuation = newest s.frames; handler = catching s.frames; cells = cells t s.frames }

    -- a throw that a cell takes, and the jump after it
    record Thrown (z : Configuration) (d : Standing) (w : ℤ) (s' : State) : Type 0 where
      at : Run Configuration
      step : Step At z d at d
      rest : Rest At at d 1 (running (matching t w s')) d

    thrown : {k : Word} (d : Standing) (w : ℤ) (a x : ℕ) (n : ℤ) (c : Catcher) (j : ℕ) (g : Option Handler) → slice_get (translation t) a ≡ Some k → k.operation ≡ Throw x → content (near w a) x ≡ n →
        catcher s.frames ≡ Some c → Heads t c.frame.routine c.handler.label j g → Thrown (near w a) d w (caught c n j g)
    thrown {k} d w a x n c j g e throws en ec heads =
        let u = catching_cell t s.frames c ec in
        let f = (catches t s.frames c here.resumed ec).resumes in
        let eb = u.by in
        let ea = f.after in
        let el = u.below in
        let called : Instruction = Call f.result f.routine f.count f.arguments in
        let ws = placed t f.call c.frame.routine f.size (Some c.handler) (Body called) f.is in
        let an : pred (address t (suc f.call)) ≡ suc (suc (address t f.call)) = omega (arith, address_next t f.call c.frame.routine f.size (Some c.handler) (Body called) f.is) in
        let there : (cell t c.frame c.below).landing ≡ Some (record { catch = c.handler.catch; address = suc (suc (address t f.call)) }) = cc in
        record {
          at = _;
          step = throw (length c.below) (record { word = k; there = reads a k e; does = throws }) u.handler u.there there;
          rest = lands t At reads ok _ d w (caught c n j g) c.handler.label j g ws.1.1.0 heads refl (cc);
        }

    raise_own : {x : ℕ} {h : Handler} {g : Option Handler} (j : ℕ) → slice_get t s.at ≡ Some (Body (Raise x)) → s.handler ≡ Some h → Heads t s.routine h.label j g →
        Beats start b 2 (running (matching t v (into s (set s.variables h.catch (value s.variables x)) j g))) b
    raise_own {x} {h} {g} j e eh d =
        let c = words_here t s here (Raise x) e (Some h) eh in
        beat (marks t At reads start _ c.0) (assign (fetches t At reads start _ c.0)) (lands t At reads ok _ b v (into s (set s.variables h.catch (value s.variables x)) j g) h.label j g c.1.0 d refl refl)

    -- a raised variable is not register 16
    raised_content : {x : ℕ} → slice_get t s.at ≡ Some (Body (Raise x)) → content start x ≡ value s.variables x
    raised_content {x} e =
        let l = (variables_below t ok s.at s.routine here.stands.size s.handler (Body (Raise x)) (line_here t s here (Raise x) e s.handler refl)).0 in
        let q = not_spare x l in
        cc

    raise_frames : {x : ℕ} {k : Catcher} {g : Option Handler} (j : ℕ) → slice_get t s.at ≡ Some (Body (Raise x)) → s.handler ≡ None → catcher s.frames ≡ Some k → Heads t k.frame.routine k.handler.label j g →
        Beats start b 2 (running (matching t v (caught k (value s.variables x) j g))) b
    raise_frames {x} {k} {g} j e eh ec d =
        let c = words_here t s here (Raise x) e None eh in
        let u = thrown b v (address t s.at) x (value s.variables x) k j g c.0 refl (raised_content e) ec d in
        beat (marks t At reads start _ c.0) u.step u.rest

    raise_nobody : {x : ℕ} → slice_get t s.at ≡ Some (Body (Raise x)) → s.handler ≡ None → catcher s.frames ≡ None → Beats start b 1 (ended (Raised (value s.variables x))) b
    raise_nobody {x} e eh ec =
        let c = words_here t s here (Raise x) e None eh in
        subst (λ n. Beats start b 1 (ended (Raised n)) b) (raised_content e) (beat (marks t At reads start _ c.0) (uncaught (fetches t At reads start _ c.0) (catching_none s.frames ec)) over)

    pub raises : {x : ℕ} {r : Run State} → slice_get t s.at ≡ Some (Body (Raise x)) → (q : Raises t s (value s.variables x) r) → (w : ℤ) × Beats start b (raise_steps t q) (matching_run t w r) b
    raises e (own j h d) = (v, raise_own j e h d)
    raises e (frames j h c d) = (v, raise_frames j e h c d)
    raises e (nobody h c) = (v, raise_nobody e h c)

    module _ {x op y : ℕ} {f : Fault} {b' : Standing} (e : slice_get t s.at ≡ Some (Body (Request x op y))) (a : Responds b (pos op) (value s.variables y) (Err f) b') where
      fault_own : {h : Handler} {g : Option Handler} (j : ℕ) → s.handler ≡ Some h → Heads t s.routine h.label j g → Beats start b 2 (running (matching t v (into s (set s.variables h.catch (fault_number f)) j g))) b'
      fault_own {h} {g} j eh d =
          let c = words_here t s here (Request x op y) e (Some h) eh in
          let q = not_spare h.catch (catch_below t ok s.at s.routine here.stands.size h (Body (Request x op y)) (line_here t s here (Request x op y) e (Some h) eh)) in
          beat (marks t At reads start _ c.0) (fault (fetches t At reads start _ c.0) a) (lands t At reads ok _ b' v (into s (set s.variables h.catch (fault_number f)) j g) h.label j g c.1.0 d refl (cc))

      fault_frames : {k : Catcher} {g : Option Handler} (j : ℕ) → s.handler ≡ None → catcher s.frames ≡ Some k → Heads t k.frame.routine k.handler.label j g →
          Beats start b 3 (running (matching t (fault_number f) (caught k (fault_number f) j g))) b'
      fault_frames {k} {g} j eh ec d =
          let c = words_here t s here (Request x op y) e None eh in
          let u = thrown b' (fault_number f) (suc (address t s.at)) 16 (fault_number f) k j g c.1.0 refl refl ec d in
          beat (marks t At reads start _ c.0) (fault (fetches t At reads start _ c.0) a) (small (marks t At reads (near (fault_number f) (suc (address t s.at))) _ c.1.0) u.step u.rest)

      fault_nobody : s.handler ≡ None → catcher s.frames ≡ None → Beats start b 2 (ended (Raised (fault_number f))) b'
      fault_nobody eh ec =
          let c = words_here t s here (Request x op y) e None eh in
          let z = near (fault_number f) (suc (address t s.at)) in
          beat (marks t At reads start _ c.0) (fault (fetches t At reads start _ c.0) a) (small (marks t At reads z _ c.1.0) (uncaught (fetches t At reads z _ c.1.0) (catching_none s.frames ec)) over)

      pub faults : {r : Run State} (q : Raises t s (fault_number f) r) → (w : ℤ) × Beats start b (fault_steps t q) (matching_run t w r) b'
      faults (own j h d) = (v, fault_own j h d)
      faults (frames j h c d) = (fault_number f, fault_frames j h c d)
      faults (nobody h c) = (v, fault_nobody h c)
