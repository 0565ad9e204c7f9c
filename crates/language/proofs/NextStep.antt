-- The rules of a step: where one fits on some bench, one fits on every; never more than one fits, so a
-- beat has one length and one end.
use Rattle.std.proofs.Common.{◌≡◌, ℕ, suc, true, false, cond, ltb, map, length, take, set, ℤ, pos, Some, None, Ok, Err, Option, sym, refl, ap, ◌∙◌, subst}
use lib.Signed.{le_z}
use Rattle.std.specs.List.{slice_get}
use Rattle.std.proofs.lemmas.Bool.{lt-ltb, le-ltb}
use Rattle.bench.specs.Numbers.{fault_number}
use Rattle.bench.specs.Respond.{Outcome, respond}
use Rattle.bench.specs.Responds.{Answer, Responds}
use Rattle.bench.specs.declared.state.State.{State as Standing}
use Rattle.bench.proofs.Rules.{by_rule, respond_responds}
use Rattle.language.specs.Configurations.{cell_count, Landing, Cell, Configuration, content, moved, faulted, saved, handed}
use Rattle.language.specs.Runs.{Run, running, ended, value, difference, with_arguments}
use Rattle.language.specs.Steps.{Fetches, Step, set_to, assign, subtract, answered, fault, save, exhaust, enter, jump, resume, finish, throw, uncaught, test, test_not, Marks, Rest, over, opens, small, StepBeat, beat}
use Rattle.language.specs.declared.ending.Ending.TheVariants.{Returned, Raised, Exhausted}
use Rattle.language.specs.declared.operation.Operation.{Operation}
use Rattle.language.specs.declared.operation.Operation.TheVariants.{Set, Assign, Subtract, Ask, Save, Enter, Jump, Resume, Test, Throw}
use Rattle.language.specs.declared.word.Word.{Word}
use Rattle.language.proofs.Lists.{clash}

-- where each operation leads, as a function; where no rule fits it says something that does not matter
abbrev to_answer : Configuration → ℕ → ℕ → Answer → Run Configuration
to_answer s x c (Ok n) = running (moved s (suc (suc s.counter)) (set s.variables x n))
to_answer s x c (Err f) = running (faulted s c (fault_number f))

abbrev to_rest : Configuration → ℤ → ℕ → Option Cell → Run Configuration
to_rest s v i None = ended Exhausted
to_rest s v i (Some c) = running (handed s i c c.result c.rest v)

abbrev to_continuation : Configuration → ℤ → Option ℕ → Run Configuration
to_continuation s v None = ended (Returned v)
to_continuation s v (Some i) = to_rest s v i (slice_get s.cells i)

abbrev to_landing : Configuration → ℤ → ℕ → Cell → Option Landing → Run Configuration
to_landing s v i c None = ended Exhausted
to_landing s v i c (Some l) = running (handed s i c l.catch l.address v)

abbrev to_cell : Configuration → ℤ → ℕ → Option Cell → Run Configuration
to_cell s v i None = ended Exhausted
to_cell s v i (Some c) = to_landing s v i c c.landing

abbrev to_handler : Configuration → ℤ → Option ℕ → Run Configuration
to_handler s v None = ended (Raised v)
to_handler s v (Some i) = to_cell s v i (slice_get s.cells i)

abbrev leads : Configuration → Standing → Operation → Run Configuration × Standing
leads s b (Set x i) = (running (moved s (suc s.counter) (set s.variables x i)), b)
leads s b (Assign x y) = (running (moved s (suc s.counter) (set s.variables x (value s.variables y))), b)
leads s b (Subtract x y z) = (running (moved s (suc s.counter) (set s.variables x (difference (value s.variables y) (value s.variables z)))), b)
leads s b (Ask x op y c) = (to_answer s x c (respond b (pos op) (value s.variables y)).0, (respond b (pos op) (value s.variables y)).1)
leads s b (Save x c) = (cond (ltb (length s.cells) cell_count) (running (saved s x c)) (ended Exhausted), b)
leads s b (Enter n a ys) = (running (moved s a (with_arguments (map (value s.variables) (take n ys)))), b)
leads s b (Jump a) = (running (moved s a s.variables), b)
leads s b (Resume x) = (to_continuation s (value s.variables x) s.continuation, b)
leads s b (Throw x) = (to_handler s (content s x) s.handler, b)
leads s b (Test x y) = (running (moved s (cond (le_z (value s.variables x) (value s.variables y)) (suc s.counter) (suc (suc s.counter))) s.variables), b)

module _ (At : ℕ → Word → Type 0) where
  -- a step is made at a word
  pub step_at : {s : Configuration} {b b' : Standing} {r : Run Configuration} → Step At s b r b' → (o : Operation) × Fetches At s o
  step_at (set_to f) = (_, f)
  step_at (assign f) = (_, f)
  step_at (subtract f) = (_, f)
  step_at (answered f a) = (_, f)
  step_at (fault f a) = (_, f)
  step_at (save f l) = (_, f)
  step_at (exhaust f l) = (_, f)
  step_at (enter f) = (_, f)
  step_at (jump f) = (_, f)
  step_at (resume i f k c) = (_, f)
  step_at (finish f k) = (_, f)
  step_at (throw i f h c l) = (_, f)
  step_at (uncaught f h) = (_, f)
  step_at (test f q) = (_, f)
  step_at (test_not f q) = (_, f)

module _ (At : ℕ → Word → Type 0) (s : Configuration) where
  -- some step fits, on a bench in this state
  abbrev SomeStep : Standing → Type 0
  SomeStep b = (o : Run Configuration × Standing) × Step At s b o.0 o.1

  some_answer : (b : Standing) (x op y c : ℕ) → Fetches At s (Ask x op y c) → (a : Answer) (b' : Standing) → Responds b (pos op) (value s.variables y) a b' → SomeStep b
  some_answer b x op y c f (Ok n) b' a = (_, answered f a)
  some_answer b x op y c f (Err e) b' a = (_, fault f a)

  -- a step that fits on one bench has its like on any other
  pub on_any_bench : {b b' : Standing} {r : Run Configuration} → Step At s b r b' → (c : Standing) → SomeStep c
  on_any_bench (set_to f) c = (_, set_to f)
  on_any_bench (assign f) c = (_, assign f)
  on_any_bench (subtract f) c = (_, subtract f)
  on_any_bench (answered {x = x} {op = op} {y = y} {c = z} f a) c = some_answer c x op y z f _ _ (respond_responds c (pos op) (value s.variables y))
  on_any_bench (fault {x = x} {op = op} {y = y} {c = z} f a) c = some_answer c x op y z f _ _ (respond_responds c (pos op) (value s.variables y))
  on_any_bench (save f l) c = (_, save f l)
  on_any_bench (exhaust f l) c = (_, exhaust f l)
  on_any_bench (enter f) c = (_, enter f)
  on_any_bench (jump f) c = (_, jump f)
  on_any_bench (resume i f k d) c = (_, resume i f k d)
  on_any_bench (finish f k) c = (_, finish f k)
  on_any_bench (throw i f h d l) c = (_, throw i f h d l)
  on_any_bench (uncaught f h) c = (_, uncaught f h)
  on_any_bench (test f q) c = (_, test f q)
  on_any_bench (test_not f q) c = (_, test_not f q)

module _ (At : ℕ → Word → Type 0) (one : (a : ℕ) (w w' : Word) → At a w → At a w' → w ≡ w') where
  -- one word stands at the program counter
  pub one_operation : {s : Configuration} {o o' : Operation} → Fetches At s o → Fetches At s o' → o ≡ o'
  one_operation {s} f g = sym f.does ∙ ap (λ (w : Word). w.operation) (one s.counter f.word g.word f.there g.there) ∙ g.does

  step_leads : {s : Configuration} {b b' : Standing} {r : Run Configuration} → Step At s b r b' → (o : Operation) → Fetches At s o → leads s b o ≡ (r, b')
  step_leads (set_to f) o g = let e = one_operation f g in cc
  step_leads (assign f) o g = let e = one_operation f g in cc
  step_leads (subtract f) o g = let e = one_operation f g in cc
  step_leads {s} {b} (answered {op = op} {y = y} f a) o g =
      let e = one_operation f g in
      let q = by_rule b (pos op) (value s.variables y) _ _ a in
      let u = ap (λ (p : Outcome). p.0) q in
      let v = ap (λ (p : Outcome). p.1) q in
      cc
  step_leads {s} {b} (fault {op = op} {y = y} f a) o g =
      let e = one_operation f g in
      let q = by_rule b (pos op) (value s.variables y) _ _ a in
      let u = ap (λ (p : Outcome). p.0) q in
      let v = ap (λ (p : Outcome). p.1) q in
      cc
  step_leads {s} (save f l) o g = let e = one_operation f g in let q = lt-ltb (length s.cells) cell_count l in cc
  step_leads {s} (exhaust f l) o g = let e = one_operation f g in let q = le-ltb (length s.cells) cell_count l in cc
  step_leads (enter f) o g = let e = one_operation f g in cc
  step_leads (jump f) o g = let e = one_operation f g in cc
  step_leads (resume i f k c) o g = let e = one_operation f g in cc
  step_leads (finish f k) o g = let e = one_operation f g in cc
  step_leads (throw i f h c l) o g = let e = one_operation f g in cc
  step_leads (uncaught f h) o g = let e = one_operation f g in cc
  step_leads (test f q) o g = let e = one_operation f g in cc
  step_leads (test_not f q) o g = let e = one_operation f g in cc

  pub step_once : {s : Configuration} {b e e' : Standing} {r r' : Run Configuration} → Step At s b r e → Step At s b r' e' → ◌≡◌ {A = Run Configuration × Standing} (r', e') (r, e)
  step_once σ σ' = let d = step_at At σ in sym (step_leads σ' d.0 d.1) ∙ step_leads σ d.0 d.1

  pub not_both : {X : Type 0} {s : Configuration} → Marks At s true → Marks At s false → X
  not_both {s = s} f g =
      let e = one s.counter f.word g.word f.there g.there in
      let z : true ≡ false = sym f.is ∙ ap (λ (w : Word). w.opens) e ∙ g.is in
      clash cc

  -- the rest of a beat after a step, which is the step of that beat
  pub rest_from : {s : Configuration} {b c c' e : Standing} {r r' u : Run Configuration} {n : ℕ} → Step At s b r c → Step At s b r' c' → Rest At r' c' n u e → Rest At r c n u e
  rest_from {e = e} {u = u} {n = n} σ σ' γ = subst (λ (p : Run Configuration × Standing). Rest At p.0 p.1 n u e) (step_once σ σ') γ

  rest_once : {r u u' : Run Configuration} {b e e' : Standing} {n n' : ℕ} → Rest At r b n u e → Rest At r b n' u' e' → (n ≡ n') × (u ≡ u') × (e ≡ e')
  rest_once over over = (refl, refl, refl)
  rest_once (opens m) (opens m') = (refl, refl, refl)
  rest_once (opens m) (small m' σ γ) = not_both m m'
  rest_once (small m σ γ) (opens m') = not_both m' m
  rest_once (small m σ γ) (small m' σ' γ') = let h = rest_once γ (rest_from σ σ' γ') in (ap suc h.0, h.1, h.2)

  pub step_beat_once : {s : Configuration} {b e e' : Standing} {r r' : Run Configuration} {n n' : ℕ} → StepBeat At s b n r e → StepBeat At s b n' r' e' → (n ≡ n') × (r ≡ r') × (e ≡ e')
  step_beat_once (beat m σ γ) (beat m' σ' γ') = let h = rest_once γ (rest_from σ σ' γ') in (ap suc h.0, h.1, h.2)
