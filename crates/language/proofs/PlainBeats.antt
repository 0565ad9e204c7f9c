-- The beats of one step that go on with the next record, goto, branch and return, each matched by its steps.
use Rattle.std.proofs.Common.{◌≡◌, ℕ, suc, ◌+◌, ◌≤◌, true, false, List, [], ◌∷◌, length, take, set, ℤ, pos, Some, None, Ok, Option, sym, refl, ap, ◌∙◌, subst, arith}
use lib.Signed.{le_z}
use Rattle.std.specs.List.{slice_get}
use Rattle.bench.specs.Responds.{Responds}
use Rattle.bench.specs.declared.state.State.{State as Standing}
use Rattle.language.specs.Configurations.{cell_count, Configuration, moved}
use Rattle.language.specs.Forms.{closing}
use Rattle.language.specs.Lines.{Heads}
use Rattle.language.specs.Matching.{newest, cell, cells, matching}
use Rattle.language.specs.Reachable.{Stands, Resumed, Reachable}
use Rattle.language.specs.Runs.{frame_count, Frame, State, Run, running, ended, value, difference, onward, into, returned_to}
use Rattle.language.specs.Steps.{Step, set_to, assign, subtract, answered, exhaust, jump, resume, finish, test, test_not, over, StepBeat, beat}
use Rattle.language.specs.Translation.{capital, instruction_size, address, translation}
use Rattle.language.specs.WellFormed.{WellFormed}
use Rattle.language.specs.declared.ending.Ending.TheVariants.{Returned, Exhausted}
use Rattle.language.specs.declared.handler.Handler.{Handler}
use Rattle.language.specs.declared.instruction.Instruction.{Instruction}
use Rattle.language.specs.declared.instruction.Instruction.TheVariants.{Constant, Move, Difference, Request, Call, Goto, Return, Branch}
use Rattle.language.specs.declared.operation.Operation.{Operation}
use Rattle.language.specs.declared.operation.Operation.TheVariants.{Set, Assign, Subtract, Ask}
use Rattle.language.specs.declared.record.Record.{Record}
use Rattle.language.specs.declared.record.Record.TheVariants.{Body}
use Rattle.language.specs.declared.word.Word.{Word}
use Rattle.language.proofs.BeatWords.{stands_open, block_first, block_opens, line_here, words_here, address_after, fetches, marks, single, lands}
use Rattle.language.proofs.Cells.{length-cells, nth_cell, take_cells}
use Rattle.language.proofs.Flow.{flows}

module _ (t : List Record) (ok : WellFormed t) (At : ℕ → Word → Type 0) (reads : (a : ℕ) (w : Word) → slice_get (translation t) a ≡ Some w → At a w) where
  abbrev Beats : Configuration → Standing → ℕ → Run Configuration → Standing → Type 0
  Beats = StepBeat At

  module _ (s : State) (here : Reachable t s) (v : ℤ) (b : Standing) where
    abbrev start : Configuration
    start = matching t v s

    -- one step, after which the next record's words stand
    goes_on : (x : Instruction) (o : Operation) (vs : List ℤ) (b' : Standing) (a : ℕ) → slice_get t s.at ≡ Some (Body x) → closing x ≡ false → slice_get (translation t) (address t s.at) ≡ Some (capital o) →
        Step At start b (running (moved start a vs)) b' → a ≡ address t s.at + instruction_size s.handler x → Beats start b 1 (running (matching t v (onward s vs))) b'
    goes_on x o vs b' a e k c σ m =
        let l = line_here t s here x e s.handler refl in
        let n = address_after t s here x e s.handler refl in
        let q : a ≡ address t (suc s.at) = cc in
        single t At reads start (matching t v (onward s vs)) b b' o c σ (cc) (stands_open t s.routine (suc s.at) s.handler (flows t ok s.at s.routine here.stands.size s.handler (Body x) l k))

    pub constant : {x : ℕ} {i : ℤ} → slice_get t s.at ≡ Some (Body (Constant x i)) → Beats start b 1 (running (matching t v (onward s (set s.variables x i)))) b
    constant {x} {i} e =
        let c = words_here t s here (Constant x i) e s.handler refl in
        goes_on (Constant x i) (Set x i) _ b _ e refl c.0 (set_to (fetches t At reads start _ c.0)) (omega arith)

    pub move : {x y : ℕ} → slice_get t s.at ≡ Some (Body (Move x y)) → Beats start b 1 (running (matching t v (onward s (set s.variables x (value s.variables y))))) b
    move {x} {y} e =
        let c = words_here t s here (Move x y) e s.handler refl in
        goes_on (Move x y) (Assign x y) _ b _ e refl c.0 (assign (fetches t At reads start _ c.0)) (omega arith)

    pub subtracts : {x y z : ℕ} → slice_get t s.at ≡ Some (Body (Difference x y z)) →
        Beats start b 1 (running (matching t v (onward s (set s.variables x (difference (value s.variables y) (value s.variables z)))))) b
    subtracts {x} {y} {z} e =
        let c = words_here t s here (Difference x y z) e s.handler refl in
        goes_on (Difference x y z) (Subtract x y z) _ b _ e refl c.0 (subtract (fetches t At reads start _ c.0)) (omega arith)

    pub request : {x op y : ℕ} {n : ℤ} {b' : Standing} → slice_get t s.at ≡ Some (Body (Request x op y)) → Responds b (pos op) (value s.variables y) (Ok n) b' → Beats start b 1 (running (matching t v (onward s (set s.variables x n)))) b'
    request {x} {op} {y} {n} {b'} e a = by s.handler refl
      where
        by : (h : Option Handler) → s.handler ≡ h → Beats start b 1 (running (matching t v (onward s (set s.variables x n)))) b'
        by None eh =
            let c = words_here t s here (Request x op y) e None eh in
            goes_on (Request x op y) (Ask x op y 16) _ b' _ e refl c.0 (answered (fetches t At reads start _ c.0) a) (omega arith)
        by (Some h) eh =
            let c = words_here t s here (Request x op y) e (Some h) eh in
            goes_on (Request x op y) (Ask x op y h.catch) _ b' _ e refl c.0 (answered (fetches t At reads start _ c.0) a) (omega arith)

    pub goto : {l j : ℕ} {g : Option Handler} → slice_get t s.at ≡ Some (Body (Goto l)) → Heads t s.routine l j g → Beats start b 1 (running (matching t v (into s s.variables j g))) b
    goto {l} {j} {g} e d =
        let c = words_here t s here (Goto l) e s.handler refl in
        let q = block_first t s.routine l j g d in
        single t At reads start (matching t v (into s s.variables j g)) b b _ c.0 (jump (fetches t At reads start _ c.0)) (cc) (block_opens t ok s.routine l j g d)

    pub branch : {x y l m j : ℕ} {g : Option Handler} → slice_get t s.at ≡ Some (Body (Branch x y l m)) → le_z (value s.variables x) (value s.variables y) ≡ true → Heads t s.routine l j g →
        Beats start b 2 (running (matching t v (into s s.variables j g))) b
    branch {x} {y} {l} {m} {j} {g} e q d =
        let c = words_here t s here (Branch x y l m) e s.handler refl in
        beat (marks t At reads start _ c.0) (test (fetches t At reads start _ c.0) q) (lands t At reads ok _ b v (into s s.variables j g) l j g c.1.0 d refl refl)

    pub branch_not : {x y l m j : ℕ} {g : Option Handler} → slice_get t s.at ≡ Some (Body (Branch x y l m)) → le_z (value s.variables x) (value s.variables y) ≡ false → Heads t s.routine m j g →
        Beats start b 2 (running (matching t v (into s s.variables j g))) b
    branch_not {x} {y} {l} {m} {j} {g} e q d =
        let c = words_here t s here (Branch x y l m) e s.handler refl in
        beat (marks t At reads start _ c.0) (test_not (fetches t At reads start _ c.0) q) (lands t At reads ok _ b v (into s s.variables j g) m j g c.1.1.0 d refl refl)

    pub return : {x : ℕ} {f : Frame} {fs : List Frame} → slice_get t s.at ≡ Some (Body (Return x)) → s.frames ≡ f ∷ fs → Beats start b 1 (running (matching t v (returned_to f fs (value s.variables x)))) b
    return {x} {f} {fs} e ef =
        let c = words_here t s here (Return x) e s.handler refl in
        let k : Resumed t (f ∷ fs) = subst (Resumed t) ef here.resumed in
        let u = k.0 in
        let on = flows t ok u.call f.routine u.size f.handler (Body (Call u.result u.routine u.count u.arguments)) u.is refl in
        let there : slice_get (cells t s.frames) (length fs) ≡ Some (cell t f fs) = ap (λ gs. slice_get (cells t gs) (length fs)) ef ∙ nth_cell t f fs in
        let below : take (length fs) (cells t s.frames) ≡ cells t fs = ap (λ gs. take (length fs) (cells t gs)) ef ∙ take_cells t f fs in
        single t At reads start (matching t v (returned_to f fs (value s.variables x))) b b _ c.0 (resume (length fs) (fetches t At reads start _ c.0) (ap newest ef) there) (cc)
        (stands_open t f.routine f.next f.handler (subst (Stands t f.routine f.handler) (sym u.after) on))

    pub finishes : {x : ℕ} → slice_get t s.at ≡ Some (Body (Return x)) → s.frames ≡ [] → Beats start b 1 (ended (Returned (value s.variables x))) b
    finishes {x} e ef = let c = words_here t s here (Return x) e s.handler refl in beat (marks t At reads start _ c.0) (finish (fetches t At reads start _ c.0) (ap newest ef)) over

    pub exhausts : {x g n : ℕ} {ys : List ℕ} → slice_get t s.at ≡ Some (Body (Call x g n ys)) → frame_count ≤ length s.frames → Beats start b 1 (ended Exhausted) b
    exhausts {x} {g} {n} {ys} e l = by s.handler refl
      where
        full : cell_count ≤ length (cells t s.frames)
        full = omega (arith, length-cells t s.frames)

        by : (h : Option Handler) → s.handler ≡ h → Beats start b 1 (ended Exhausted) b
        by None eh = let c = words_here t s here (Call x g n ys) e None eh in beat (marks t At reads start _ c.0) (exhaust (fetches t At reads start _ c.0) full) over
        by (Some h) eh = let c = words_here t s here (Call x g n ys) e (Some h) eh in beat (marks t At reads start _ c.0) (exhaust (fetches t At reads start _ c.0) full) over
