-- The rules of a step, from what the machine's moves leave.
use Rattle.std.proofs.Common.{◌≡◌, ℕ, suc, ◌<◌, ◌≤◌, Bool, true, false, List, map, length, take, set, ℤ, pos, Some, None, Ok, Err, Option, Result, sym, refl, ap, ◌∙◌, subst, arith}
use mathlib.Core.Logic.{∥∥₁_elim}
use native.Mathlib.Bridge.{le_prop}
use lib.Signed.{le_z}
use Rattle.bench.proofs.Rules.{respond_responds}
use Rattle.bench.specs.Numbers.{fault_number}
use Rattle.bench.specs.Respond.{respond}
use Rattle.bench.specs.Responds.{Answer, Responds}
use Rattle.bench.specs.declared.fault.Fault.{Fault}
use Rattle.bench.specs.declared.state.State.{State as Standing}
use Rattle.continuation.specs.Machines.{configuration, tested, Saved}
use Rattle.continuation.specs.declared.machine.Machine.{Machine}
use Rattle.continuation.specs.Views.{cell_of, landing_of}
use Rattle.continuation.specs.declared.cell.Cell.{Cell as Kept}
use Rattle.continuation.specs.declared.cell.Landing.{Landing as Lands}
use Rattle.few.specs.declared.full.Full.{Full}
use Rattle.language.proofs.CodeWords.{word_code}
use Rattle.language.proofs.Inside.{going_counter, resume_cell, throw_cell}
use Rattle.language.proofs.Lists.{clash, nth_below}
use Rattle.language.proofs.Sizes.{held}
use Rattle.language.proofs.WordLimits.{limited}
use Rattle.language.specs.Code.{code}
use Rattle.language.specs.CodeWords.{WordAt, Limited}
use Rattle.language.specs.Configurations.{Cell, Configuration, content, moved, faulted, handed}
use Rattle.language.specs.Continuation.{CodeStep}
use Rattle.language.specs.Following.{Going}
use Rattle.language.specs.Progress.{progressed}
use Rattle.language.specs.Runs.{running, ended, value, difference, with_arguments}
use Rattle.language.specs.Steps.{Fetches, set_to, assign, subtract, answered, fault, save, exhaust, enter, jump, resume, finish, throw, uncaught, test, test_not}
use Rattle.language.specs.Translation.{translation}
use Rattle.language.specs.WellFormed.{WellFormed}
use Rattle.language.specs.declared.ending.Ending.{Ending}
use Rattle.language.specs.declared.ending.Ending.TheVariants.{Returned, Raised, Exhausted}
use Rattle.language.specs.declared.operation.Operation.{Operation}
use Rattle.language.specs.declared.operation.Operation.TheVariants.{Set, Assign, Subtract, Ask, Save, Enter, Jump, Resume, Test, Throw}
use Rattle.language.specs.declared.record.Record.{Record}
use Rattle.language.specs.declared.word.Word.{Word}
use Rattle.std.specs.List.{slice_get}

no_prop : IsProp ⊥
no_prop a b = absurd a

-- a cell that was released is handed a value
pub handed_back : (m : Machine) (i : ℕ) (c : Kept) (x a : ℕ) (v : ℤ) (cs : List Cell) (s' : Configuration) → cs ≡ take i (configuration m).cells →
    s' ≡ record { counter = a; variables = set c.variables.values x v; register = m.register; continuation = c.continuation; handler = c.handler; cells = cs } → s' ≡ handed (configuration m) i (cell_of c) x a v
handed_back m i c x a v cs s' below is =
    is ∙ ap (λ (ds : List Cell). record { counter = a; variables = set c.variables.values x v; register = m.register; continuation = c.continuation; handler = c.handler; cells = ds }) below

module _ (t : List Record) (ok : WellFormed t) (s : Configuration) where
  abbrev At : ℕ → Word → Type 0
  At = WordAt (code t)

  -- the word at the program counter, by what it does
  pub fetched : (w : Word) (o : Operation) → At s.counter w → w.operation ≡ o → Fetches At s o
  fetched w o there is = record { word = w; there = there; does = is }

  -- the program counter is the address of a word
  pub low : (b : Standing) → ∥ Going t (running s) b ∥₁ → s.counter < length (translation t)
  low b g = ∥∥₁_elim g le_prop (λ w. going_counter t ok s b w)

  pub few : (b : Standing) → ∥ Going t (running s) b ∥₁ → s.counter < 976
  few b g = omega (arith, low b g, (held t ok).words)

  -- at most four arguments are passed
  pub few_passed : (w : Word) (n a : ℕ) (ys : List ℕ) → At s.counter w → w.operation ≡ Enter n a ys → n ≤ 4
  few_passed w n a ys there is = (subst Limited is (limited t ok s.counter w (word_code t ok s.counter w there))).0

  -- the cell that a value is handed to is filled
  pub resume_below : (x i : ℕ) → ∥ ((b : Standing) × Going t (running s) b) ∥₁ → Fetches At s (Resume x) → s.continuation ≡ Some i → i < length s.cells
  resume_below x i g f e = ∥∥₁_elim g le_prop (λ w. let d = resume_cell t ok s w.0 x i w.1 f e in nth_below s.cells i d.0 d.1)

  pub throw_below : (x i : ℕ) → ∥ ((b : Standing) × Going t (running s) b) ∥₁ → Fetches At s (Throw x) → s.handler ≡ Some i → i < length s.cells
  throw_below x i g f e = ∥∥₁_elim g le_prop (λ w. let d = throw_cell t ok s w.0 x i w.1 f e in nth_below s.cells i d.0 d.2)

  -- and a raised value lands there
  pub throw_lands : (x i : ℕ) (c : Kept) → ∥ ((b : Standing) × Going t (running s) b) ∥₁ → Fetches At s (Throw x) → s.handler ≡ Some i → slice_get s.cells i ≡ Some (cell_of c) → c.landing ≡ None → ⊥
  throw_lands x i c g f e at none =
      ∥∥₁_elim g no_prop (λ w. let d = throw_cell t ok s w.0 x i w.1 f e in
      let there = d.2 in let lands = d.3 in
      let same : d.0 ≡ cell_of c = cc in
      let gone : landing_of c.landing ≡ None = ap landing_of none in
      let had : landing_of c.landing ≡ Some d.1 = ap (λ (v : Cell). v.landing) (sym same) ∙ lands in
      clash (cc))

  module _ (b : Standing) (s' : Configuration) where
    pub by_set : (x : ℕ) (i v : ℤ) → Fetches At s (Set x i) → v ≡ i → s' ≡ moved s (suc s.counter) (set s.variables x v) → CodeStep t s b (running s') b
    by_set x i v f ev is = subst (λ u. CodeStep t s b (running u) b) (ap (λ w. moved s (suc s.counter) (set s.variables x w)) (sym ev) ∙ sym is) (set_to f)

    pub by_assign : (x y : ℕ) (v : ℤ) → Fetches At s (Assign x y) → v ≡ value s.variables y → s' ≡ moved s (suc s.counter) (set s.variables x v) → CodeStep t s b (running s') b
    by_assign x y v f ev is = subst (λ u. CodeStep t s b (running u) b) (ap (λ w. moved s (suc s.counter) (set s.variables x w)) (sym ev) ∙ sym is) (assign f)

    pub by_subtract : (x y z : ℕ) (v : ℤ) → Fetches At s (Subtract x y z) → v ≡ difference (value s.variables y) (value s.variables z) → s' ≡ moved s (suc s.counter) (set s.variables x v) → CodeStep t s b (running s') b
    by_subtract x y z v f ev is = subst (λ u. CodeStep t s b (running u) b) (ap (λ w. moved s (suc s.counter) (set s.variables x w)) (sym ev) ∙ sym is) (subtract f)

    pub by_save : (x : ℕ) (c : Option ℕ) (r : Result (Unit {0}) Full) (p : Result (Unit {0}) Ending) → Fetches At s (Save x c) →
        ((d : Unit {0}) → r ≡ Ok d → p ≡ Ok d) → ((e : Full) → r ≡ Err e → p ≡ Err Exhausted) → Saved s x c r s' → CodeStep t s b (progressed p s') b
    by_save x c (Ok d) p f made none (room, is) = subst (λ q. CodeStep t s b (progressed q s') b) (sym (made d refl)) (subst (λ u. CodeStep t s b (running u) b) (sym is) (save f room))
    by_save x c (Err e) p f made none (full, is) = subst (λ q. CodeStep t s b (progressed q s') b) (sym (none e refl)) (exhaust f (omega (arith, full)))

    pub by_enter : (n a : ℕ) (ys : List ℕ) → Fetches At s (Enter n a ys) → s' ≡ moved s a (with_arguments (map (value s.variables) (take n ys))) → CodeStep t s b (running s') b
    by_enter n a ys f is = subst (λ u. CodeStep t s b (running u) b) (sym is) (enter f)

    pub by_jump : (a : ℕ) → Fetches At s (Jump a) → s' ≡ moved s a s.variables → CodeStep t s b (running s') b
    by_jump a f is = subst (λ u. CodeStep t s b (running u) b) (sym is) (jump f)

    pub by_test : (x y : ℕ) → Fetches At s (Test x y) → s' ≡ tested s (le_z (value s.variables x) (value s.variables y)) → CodeStep t s b (running s') b
    by_test x y f is = subst (λ u. CodeStep t s b (running u) b) (sym is) (by (le_z (value s.variables x) (value s.variables y)) refl)
      where
        by : (c : Bool) → le_z (value s.variables x) (value s.variables y) ≡ c → CodeStep t s b (running (tested s c)) b
        by true e = test f e
        by false e = test_not f e

    pub by_resume : (x i : ℕ) (c : Kept) (v : ℤ) → Fetches At s (Resume x) → s.continuation ≡ Some i → slice_get s.cells i ≡ Some (cell_of c) → v ≡ value s.variables x → s' ≡ handed s i (cell_of c) c.result c.rest v → CodeStep t s b (running s') b
    by_resume x i c v f k at ev is = subst (λ u. CodeStep t s b (running u) b) (ap (handed s i (cell_of c) c.result c.rest) (sym ev) ∙ sym is) (resume i f k at)

    pub by_throw : (x i : ℕ) (c : Kept) (l : Lands) (v : ℤ) → Fetches At s (Throw x) → s.handler ≡ Some i → slice_get s.cells i ≡ Some (cell_of c) → c.landing ≡ Some l → v ≡ content s x →
        s' ≡ handed s i (cell_of c) l.catch l.address v → CodeStep t s b (running s') b
    by_throw x i c l v f k at land ev is = subst (λ u. CodeStep t s b (running u) b) (ap (handed s i (cell_of c) l.catch l.address) (sym ev) ∙ sym is) (throw i f k at (ap landing_of land))

  pub by_finish : (b : Standing) (s' : Configuration) (x : ℕ) (v : ℤ) (p : Result (Unit {0}) Ending) → Fetches At s (Resume x) → s.continuation ≡ None → v ≡ value s.variables x → p ≡ Err (Returned v) → CodeStep t s b (progressed p s') b
  by_finish b s' x v p f k ev ep = subst (λ q. CodeStep t s b (progressed q s') b) (sym ep) (subst (λ u. CodeStep t s b (ended (Returned u)) b) (sym ev) (finish f k))

  pub by_uncaught : (b : Standing) (s' : Configuration) (x : ℕ) (v : ℤ) (p : Result (Unit {0}) Ending) → Fetches At s (Throw x) → s.handler ≡ None → v ≡ content s x → p ≡ Err (Raised v) → CodeStep t s b (progressed p s') b
  by_uncaught b s' x v p f k ev ep = subst (λ q. CodeStep t s b (progressed q s') b) (sym ep) (subst (λ u. CodeStep t s b (ended (Raised u)) b) (sym ev) (uncaught f k))

  -- the bench's answer, as its contract tells it
  module _ (b b' : Standing) (x op y c : ℕ) (f : Fetches At s (Ask x op y c)) (a : Answer) (o n : ℤ) (asked : o ≡ pos op) (with : n ≡ value s.variables y) (answer : a ≡ (respond b o n).0) (after : b' ≡ (respond b o n).1) where
    responds : Responds b (pos op) (value s.variables y) a b'
    responds =
        subst (λ u. Responds b u (value s.variables y) a b') asked
        (subst (λ u. Responds b o u a b') with
        (subst (λ u. Responds b o n u b') (sym answer)
        (subst (λ u. Responds b o n (respond b o n).0 u) (sym after) (respond_responds b o n))))

    pub by_answer : (v : ℤ) (s' : Configuration) → a ≡ Ok v → s' ≡ moved s (suc (suc s.counter)) (set s.variables x v) → CodeStep t s b (running s') b'
    by_answer v s' is there = subst (λ u. CodeStep t s b (running u) b') (sym there) (answered f (subst (λ r. Responds b (pos op) (value s.variables y) r b') is responds))

    pub by_fault : (g : Fault) (v : ℤ) (s' : Configuration) → a ≡ Err g → v ≡ fault_number g → s' ≡ faulted s c v → CodeStep t s b (running s') b'
    by_fault g v s' is ev there =
        subst (λ u. CodeStep t s b (running u) b') (ap (faulted s c) (sym ev) ∙ sym there) (fault f (subst (λ r. Responds b (pos op) (value s.variables y) r b') is responds))
