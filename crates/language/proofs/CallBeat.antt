-- The beat of a call, matched by its steps: save, enter, and a clearing word for each local.
use Rattle.std.proofs.Common.{◌≡◌, ℕ, suc, pred, ◌+◌, ◌<◌, ◌≤◌, List, map, length, take, ℤ, Some, None, Option, refl, ap, arith, length-take}
use Rattle.std.specs.List.{slice_get}
use Rattle.std.proofs.lemmas.List.{length-map}
use Rattle.bench.specs.declared.state.State.{State as Standing}
use Rattle.language.specs.Configurations.{cell_count, Configuration, moved, saved}
use Rattle.language.specs.Lines.{line, lines, Enters}
use Rattle.language.specs.Matching.{cells, matching}
use Rattle.language.specs.Reachable.{Reachable}
use Rattle.language.specs.Runs.{frame_count, State, Run, running, value, with_arguments, called_into}
use Rattle.language.specs.Steps.{save, enter, Rest, small, StepBeat, beat}
use Rattle.language.specs.Translation.{small as low, address, found_address, routine_address_of, translation}
use Rattle.language.specs.WellFormed.{WellFormed}
use Rattle.language.specs.declared.handler.Handler.{Handler}
use Rattle.language.specs.declared.instruction.Instruction.TheVariants.{Call}
use Rattle.language.specs.declared.operation.Operation.TheVariants.{Enter}
use Rattle.language.specs.declared.record.Record.{Record}
use Rattle.language.specs.declared.record.Record.TheVariants.{Routine, Body}
use Rattle.language.specs.declared.word.Word.{Word}
use Rattle.language.proofs.BeatWords.{cleared, stands_open, line_here, words_here, address_after, fetches, marks, arrives, clearing}
use Rattle.language.proofs.Cells.{length-cells}
use Rattle.language.proofs.Flow.{routine_line, routine_stands}
use Rattle.language.proofs.Words.{placed, address_next}

module _ (t : List Record) (ok : WellFormed t) (At : ℕ → Word → Type 0) (reads : (a : ℕ) (w : Word) → slice_get (translation t) a ≡ Some w → At a w) where
  abbrev Beats : Configuration → Standing → ℕ → Run Configuration → Standing → Type 0
  Beats = StepBeat At

  module _ (s : State) (here : Reachable t s) (v : ℤ) (b : Standing) where
    abbrev start : Configuration
    start = matching t v s

    pub call : {x g n p q : ℕ} {ys : List ℕ} (j : ℕ) → slice_get t s.at ≡ Some (Body (Call x g n ys)) → length s.frames < frame_count → Enters t g j p q →
        Beats start b (2 + q) (running (matching t v (called_into s x g j (map (value s.variables) (take n ys))))) b
    call {x} {g} {n} {p} {q} {ys} j e l d = rw two (by s.handler refl)
      where
        two : 2 + q ≡ suc (suc q)
        two = omega arith

        arguments : List ℤ
        arguments = map (value s.variables) (take n ys)

        after : State
        after = called_into s x g j arguments

        room : length (cells t s.frames) < cell_count
        room = omega (arith, length-cells t s.frames)

        heading : slice_get (lines t) j ≡ Some (line g (p + q) None (Routine g p q))
        heading = routine_line t 0 0 None j g p q d.there

        few : length arguments ≤ p
        few =
            let f = (ok.named.calls s.at s.routine here.stands.size s.handler (Body (Call x g n ys)) (line_here t s here (Call x g n ys) e s.handler refl)).0 in
            let a = f.here.first in let a' = d.first in let c = f.here.there in let c' = d.there in
            let same : n ≡ p = cc in
            omega (arith, length-map (take n ys) (value s.variables), length-take n ys)

        -- from the routine's address on
        entered : Rest At (running (moved (matching t v after) (address t j) (with_arguments arguments))) b q (running (matching t v after)) b
        entered =
            let m : address t j + q ≡ address t (suc j) = omega (arith, address_next t j g (p + q) None (Routine g p q) heading) in
            clearing t At reads (matching t v after) b (address t j) p q (running (matching t v after)) (placed t j g (p + q) None (Routine g p q) heading)
            (λ i h. cleared arguments i (omega (arith, few)))
            (arrives t At reads b _ (matching t v after) (ap (λ (a : ℕ). moved (matching t v after) a (with_arguments arguments)) m) (stands_open t g (suc j) None (routine_stands t ok g j p q d)))

        enters : (z : Configuration) → slice_get (translation t) z.counter ≡ Some (low (Enter n (routine_address_of t g) ys)) →
            moved z (address t j) (with_arguments (map (value z.variables) (take n ys))) ≡ moved (matching t v after) (address t j) (with_arguments arguments) → Rest At (running z) b (suc q) (running (matching t v after)) b
        enters z c same =
            let a : routine_address_of t g ≡ address t j = ap (found_address t) d.first in
            small (marks t At reads z _ c) (enter (fetches t At reads z _ c)) (rw (a, same) entered)

        by : (h : Option Handler) → s.handler ≡ h → Beats start b (suc (suc q)) (running (matching t v after)) b
        by None eh =
            let c = words_here t s here (Call x g n ys) e None eh in
            let lc = length-cells t s.frames in
            let m : suc (suc (address t s.at)) ≡ address t (suc s.at) = omega (arith, address_after t s here (Call x g n ys) e None eh) in
            beat (marks t At reads start _ c.0) (save (fetches t At reads start _ c.0) room) (enters (saved start x None) c.1.0 (cc))
        by (Some h) eh =
            let c = words_here t s here (Call x g n ys) e (Some h) eh in
            let lc = length-cells t s.frames in
            let m : suc (suc (suc (address t s.at))) ≡ address t (suc s.at) = omega (arith, address_after t s here (Call x g n ys) e (Some h) eh) in
            let m' : suc (suc (address t s.at)) ≡ pred (address t (suc s.at)) = omega arith in
            beat (marks t At reads start _ c.0) (save (fetches t At reads start _ c.0) room) (enters (saved start x (Some h.catch)) c.1.0 (cc))
