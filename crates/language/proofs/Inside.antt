-- For a loop that makes a beat step by step: what it carries along from step to step, what it has at the
-- end, and that each step finds its word and its cell.
use Rattle.std.proofs.Common.{◌≡◌, ℕ, suc, ◌+◌, ◌<◌, ◌≤◌, false, List, length, Some, ap, ◌∙◌, subst, arith}
use Rattle.std.specs.List.{slice_get}
use Rattle.bench.specs.declared.state.State.{State as Standing}
use Rattle.language.specs.Code.{code}
use Rattle.language.specs.CodeWords.{WordAt}
use Rattle.language.specs.Configurations.{Landing, Cell, Configuration}
use Rattle.language.specs.Continuation.{CodeStep, CodeBeat}
use Rattle.language.specs.Following.{Follows, FollowsRun, Going, Inside}
use Rattle.language.specs.Runs.{Run, running}
use Rattle.language.specs.Steps.{Fetches, Step, set_to, assign, subtract, answered, fault, save, exhaust, enter, jump, resume, finish, throw, uncaught, test, test_not, Marks, Rest, opens, small, beat}
use Rattle.language.specs.Translation.{translation}
use Rattle.language.specs.WellFormed.{WellFormed}
use Rattle.language.specs.declared.operation.Operation.{Operation}
use Rattle.language.specs.declared.operation.Operation.TheVariants.{Set, Assign, Subtract, Ask, Save, Enter, Jump, Resume, Test, Throw}
use Rattle.language.specs.declared.record.Record.{Record}
use Rattle.language.specs.declared.word.Word.{Word}
use Rattle.language.proofs.CodeWords.{one_word, word_code}
use Rattle.language.proofs.Following.{follow, some_step}
use Rattle.language.proofs.Lists.{nth_below}
use Rattle.language.proofs.NextStep.{step_at, one_operation, not_both as one_mark, rest_from}
use Rattle.language.proofs.OneCall.{same_some, not_both}

-- the cell that an operation hands a value to is there
abbrev Finds : Configuration → Operation → Type 0
Finds s (Set x i) = Unit {0}
Finds s (Assign x y) = Unit {0}
Finds s (Subtract x y z) = Unit {0}
Finds s (Ask x op y c) = Unit {0}
Finds s (Save x c) = Unit {0}
Finds s (Enter n a ys) = Unit {0}
Finds s (Jump a) = Unit {0}
Finds s (Resume x) = (i : ℕ) → s.continuation ≡ Some i → (c : Cell) × (slice_get s.cells i ≡ Some c)
Finds s (Throw x) = (i : ℕ) → s.handler ≡ Some i → (c : Cell) × (l : Landing) × (slice_get s.cells i ≡ Some c) × (c.landing ≡ Some l)
Finds s (Test x y) = Unit {0}

step_finds : (At : ℕ → Word → Type 0) {s : Configuration} {b b' : Standing} {r : Run Configuration} → Step At s b r b' → (o : Operation) × Fetches At s o × Finds s o
step_finds At (set_to f) = (_, f, tt)
step_finds At (assign f) = (_, f, tt)
step_finds At (subtract f) = (_, f, tt)
step_finds At (answered f a) = (_, f, tt)
step_finds At (fault f a) = (_, f, tt)
step_finds At (save f l) = (_, f, tt)
step_finds At (exhaust f l) = (_, f, tt)
step_finds At (enter f) = (_, f, tt)
step_finds At (jump f) = (_, f, tt)
step_finds At {s} (resume {c = c} j f k d) = (_, f, λ i e. (c, ap (slice_get s.cells) (same_some s.continuation i j e k) ∙ d))
step_finds At (finish f k) = (_, f, λ i e. not_both _ i k e)
step_finds At {s} (throw {c = c} {l = l} j f k d m) = (_, f, λ i e. (c, l, ap (slice_get s.cells) (same_some s.handler i j e k) ∙ d, m))
step_finds At (uncaught f k) = (_, f, λ i e. not_both _ i k e)
step_finds At (test f q) = (_, f, tt)
step_finds At (test_not f q) = (_, f, tt)

module _ (t : List Record) (ok : WellFormed t) where
  abbrev At : ℕ → Word → Type 0
  At = WordAt (code t)

  one : (a : ℕ) (w u : Word) → At a w → At a u → w ≡ u
  one = one_word (code t)

  -- a run that is going has a next step
  pub going_step : (s : Configuration) (b : Standing) → Going t (running s) b → (o : Run Configuration × Standing) × CodeStep t s b o.0 o.1
  going_step s b g = some_step t ok g.follows g.rest b

  -- so it stands at a word of the translation
  pub going_word : (s : Configuration) (b : Standing) → Going t (running s) b → (w : Word) × WordAt (code t) s.counter w
  going_word s b g = let f = step_at At (going_step s b g).1 in (f.1.word, f.1.there)

  pub going_counter : (s : Configuration) (b : Standing) → Going t (running s) b → s.counter < length (translation t)
  going_counter s b g = let w = going_word s b g in nth_below (translation t) s.counter w.0 (word_code t ok s.counter w.0 w.1)

  -- and a value that it hands to a cell finds the cell
  finds : (s : Configuration) (b : Standing) (o : Operation) → Going t (running s) b → Fetches At s o → Finds s o
  finds s b o g f =
      let h = step_finds At (going_step s b g).1 in
      subst (Finds s) (one_operation At one h.1 f) h.2

  pub resume_cell : (s : Configuration) (b : Standing) (x i : ℕ) → Going t (running s) b → Fetches At s (Resume x) → s.continuation ≡ Some i → (c : Cell) × (slice_get s.cells i ≡ Some c)
  resume_cell s b x i g f k = finds s b (Resume x) g f i k

  pub throw_cell : (s : Configuration) (b : Standing) (x i : ℕ) → Going t (running s) b → Fetches At s (Throw x) → s.handler ≡ Some i → (c : Cell) × (l : Landing) × (slice_get s.cells i ≡ Some c) × (c.landing ≡ Some l)
  throw_cell s b x i g f k = finds s b (Throw x) g f i k

  -- the first step of a beat
  pub inside_first : (s : Configuration) (b c : Standing) (r : Run Configuration) → Follows t s → CodeStep t s b r c → Inside t s b 1 r c
  inside_first s b c r f σ = let n = follow t ok s f b in by n.follows n.few n.beats
    where
      by : {k : ℕ} {u : Run Configuration} {d : Standing} → FollowsRun t u → k ≤ 18 → CodeBeat t s b k u d → Inside t s b 1 r c
      by {k} {u} {d} g few (beat {n = m} p σ' γ) =
          let e : suc m ≡ 1 + m = omega arith in
          record {
            going = record { left = m; after = u; bench = d; rest = rest_from At one σ σ' γ; follows = g };
            whole = subst (λ i. CodeBeat t s b i u d) e (beat p σ' γ);
            few = omega arith;
          }

  -- a further step, at a word that does not open a beat; and there are at most 18
  pub inside_more : (s z : Configuration) (b c d : Standing) (k : ℕ) (r : Run Configuration) → Inside t s b k (running z) c → Marks At z false → CodeStep t z c r d → Inside t s b (k + 1) r d
  inside_more s z b c d k r g low σ = by g.going.follows g.whole g.few g.going.rest
    where
      by : {n : ℕ} {u : Run Configuration} {e : Standing} → FollowsRun t u → CodeBeat t s b (k + n) u e → k + n ≤ 18 → Rest At (running z) c n u e → Inside t s b (k + 1) r d
      by f whole few (opens m) = one_mark At one m low
      by {u = u} {e = e} f whole few (small {n = n} m σ' γ) =
          let q : k + suc n ≡ k + 1 + n = omega arith in
          record {
            going = record { left = n; after = u; bench = e; rest = rest_from At one σ σ' γ; follows = f };
            whole = subst (λ i. CodeBeat t s b i u e) q whole;
            few = omega arith;
          }
