-- What one turn of layer 2's loop keeps, and what its ends give.
use Rattle.std.proofs.Common.{◌≡◌, ℕ, suc, ◌+◌, ◌<◌, ◌≤◌, Bool, true, false, cond, ◌⊎◌, List, length, take, Some, None, count_by, sym, refl, ap, ◌∙◌, subst, inl, inr, add-one, arith}
use Rattle.std.specs.List.{slice_get}
use Rattle.std.proofs.lemmas.Option.{slice_get_past}
use Rattle.std.proofs.lemmas.Bool.{cases_lt}
use Rattle.language.specs.declared.cause.BlockCause.{BlockCause}
use Rattle.language.specs.declared.cause.BlockCause.TheVariants.{Headless, Unclosed, Trailing, Crowded}
use Rattle.language.specs.declared.record.Record.{Record}
use Rattle.language.specs.Forms.{closes, is_routine, is_block, is_heading}
use Rattle.language.specs.Causes.{block_number_of, InBlocks, headless, unclosed, open_end, trailing, crowded_routine, crowded_block}
use Rattle.language.specs.Refusals.{First, BlocksClear}
use Rattle.language.proofs.Lists.{clash, nth_below}
use Rattle.language.proofs.Counts.{count_yes, count_no}
use Rattle.table.specs.declared.blocks.Flow.{Flow}
use Rattle.table.specs.declared.blocks.Flow.TheVariants.{Start, Open, Closed}
use Rattle.table.specs.Blocks.{after, flow_of, Bad, Flawed}
use Rattle.table.proofs.Firsts.{clear_more}

-- what comes before place p
abbrev pub Before : List Record → ℕ → Flow → Type 0
Before t p Start = p ≡ 0
Before t p Open = (i : ℕ) × (x : Record) × (p ≡ suc i) × (slice_get t i ≡ Some x) × (closes x ≡ false)
Before t p Closed = (i : ℕ) × (x : Record) × (p ≡ suc i) × (slice_get t i ≡ Some x) × (closes x ≡ true)

-- the first p records have no fault, and what the loop keeps of them
pub record Sofar (t : List Record) (p : ℕ) (f : Flow) (n m : ℕ) : Type 0 where
  pub flow : Before t p f
  pub routines : n ≡ count_by is_routine (take p t)
  pub blocks : m ≡ count_by is_block (take p t)
  pub few : (n ≤ p) × (m ≤ p)
  pub clear : (j : BlockCause) (q : ℕ) → q < p → InBlocks t j q → ⊥

pub start : (t : List Record) → Sofar t 0 Start 0 0
start t = record { flow = refl; routines = refl; blocks = refl; few = (omega arith, omega arith); clear = λ j q l h. absurd (omega arith) }

before_after : (t : List Record) (p : ℕ) (x : Record) → slice_get t p ≡ Some x → Before t (p + 1) (after x)
before_after t p x e = by (closes x) refl
  where
    by : (b : Bool) → closes x ≡ b → Before t (p + 1) (flow_of b)
    by true c = (p, x, add-one p, e, c)
    by false c = (p, x, add-one p, e, c)

count_more : (f : Record → Bool) (t : List Record) (p : ℕ) (x : Record) (n n' : ℕ) → slice_get t p ≡ Some x → n ≡ count_by f (take p t) → n' ≡ cond (f x) (n + 1) n → n ≤ p → (n' ≡ count_by f (take (p + 1) t)) × (n' ≤ p + 1)
count_more f t p x n n' e en e' l = by (f x) refl e'
  where
    by : (b : Bool) → f x ≡ b → n' ≡ cond b (n + 1) n → (n' ≡ count_by f (take (p + 1) t)) × (n' ≤ p + 1)
    by true h e' = let c = count_yes f t p x e h in (omega arith, omega arith)
    by false h e' = let c = count_no f t p x e h in (omega arith, omega arith)

module _ (t : List Record) (p : ℕ) (f : Flow) (n m : ℕ) (far : Sofar t p f n m) (x : Record) (is : slice_get t p ≡ Some x) where
  stands : (k : BlockCause) → Bad f x n m k → InBlocks t k p
  stands k h = by f far.flow k h
    where
      crowded : ((is_routine x ≡ true) × (n ≡ 16)) ⊎ ((is_block x ≡ true) × (m ≡ 64)) → InBlocks t Crowded p
      crowded (inl h) = crowded_routine p is h.0 (sym far.routines ∙ h.1)
      crowded (inr h) = crowded_block p is h.0 (sym far.blocks ∙ h.1)

      at : (k : BlockCause) (q : ℕ) → p ≡ q → (slice_get t q ≡ Some x → InBlocks t k q) → InBlocks t k p
      at k q e make = subst (InBlocks t k) (sym e) (make (subst (λ v. slice_get t v ≡ Some x) e is))

      by : (f : Flow) → Before t p f → (k : BlockCause) → Bad f x n m k → InBlocks t k p
      by Start b Headless h = at Headless 0 b (λ e. headless e h)
      by Open b Headless h = absurd h
      by Closed b Headless h = absurd h
      by Start b Unclosed h = absurd h
      by Open (i, y, e, on, c) Unclosed h = at Unclosed (suc i) e (λ d. unclosed i on c d h)
      by Closed b Unclosed h = absurd h
      by Start b Trailing h = absurd h
      by Open b Trailing h = absurd h
      by Closed (i, y, e, on, c) Trailing h = at Trailing (suc i) e (λ d. trailing i on c d h)
      by Start b Crowded h = crowded h
      by Open b Crowded h = crowded h
      by Closed b Crowded h = crowded h

  -- the same from a place that is p
  module _ (q : ℕ) (at : q ≡ p) where
    again : (y : Record) → slice_get t q ≡ Some y → y ≡ x
    again y e = cc

    first_only : (f : Flow) → Before t p f → q ≡ 0 → is_routine x ≡ false → Bad f x n m Headless
    first_only Start b e h = h
    first_only Open (i, y, e, on, c) z h = absurd (omega arith)
    first_only Closed (i, y, e, on, c) z h = absurd (omega arith)

    open_only : (f : Flow) → Before t p f → (i : ℕ) (y : Record) → q ≡ suc i → slice_get t i ≡ Some y → closes y ≡ false → is_heading x ≡ true → Bad f x n m Unclosed
    open_only Start b i y z e c h = absurd (omega arith)
    open_only Open b i y z e c h = h
    open_only Closed (j, w, u, on, d) i y z e c h = let s : j ≡ i = omega arith in let v : w ≡ y = cc in let o : true ≡ false = cc in clash (cc)

    closed_only : (f : Flow) → Before t p f → (i : ℕ) (y : Record) → q ≡ suc i → slice_get t i ≡ Some y → closes y ≡ true → is_heading x ≡ false → Bad f x n m Trailing
    closed_only Start b i y z e c h = absurd (omega arith)
    closed_only Open (j, w, u, on, d) i y z e c h = let s : j ≡ i = omega arith in let v : w ≡ y = cc in let o : true ≡ false = cc in clash (cc)
    closed_only Closed b i y z e c h = h

  bad_crowded : (f : Flow) → ((is_routine x ≡ true) × (n ≡ 16)) ⊎ ((is_block x ≡ true) × (m ≡ 64)) → Bad f x n m Crowded
  bad_crowded Start h = h
  bad_crowded Open h = h
  bad_crowded Closed h = h

  bad : (k : BlockCause) (q : ℕ) → q ≡ p → InBlocks t k q → Bad f x n m k
  bad k q at (headless {x = y} e h) = first_only 0 at f far.flow refl (ap is_routine (sym (again 0 at y e)) ∙ h)
  bad k q at (unclosed {x = y} {y = z} i e c d h) = open_only (suc i) at f far.flow i y refl e c (ap is_heading (sym (again (suc i) at z d)) ∙ h)
  bad k q at (open_end {x = y} i e c d) = let s : slice_get t (suc i) ≡ slice_get t p = ap (slice_get t) at in clash (cc)
  bad k q at (trailing {x = y} {y = z} i e c d h) = closed_only (suc i) at f far.flow i y refl e c (ap is_heading (sym (again (suc i) at z d)) ∙ h)
  bad k q at (crowded_routine {x = y} i e h full) = bad_crowded f (inl (ap is_routine (sym (again i at y e)) ∙ h, far.routines ∙ ap (λ v. count_by is_routine (take v t)) (sym at) ∙ full))
  bad k q at (crowded_block {x = y} i e h full) = bad_crowded f (inr (ap is_block (sym (again i at y e)) ∙ h, far.blocks ∙ ap (λ v. count_by is_block (take v t)) (sym at) ∙ full))

  pub first : (k : BlockCause) → Flawed f x n m (Some k) → First block_number_of (InBlocks t) k p
  first k said = record { here = stands k said.0; before = far.clear; lower = λ j l h. said.1 j l (bad j p refl h) }

  pub more : (f' : Flow) (n' m' : ℕ) → Flawed f x n m None → f' ≡ after x → (y : Record) → x ≡ y → n' ≡ cond (is_routine y) (n + 1) n → m' ≡ cond (is_block y) (m + 1) m → Sofar t (p + 1) f' n' m'
  more f' n' m' said ef y e en em =
      let a = count_more is_routine t p y n n' (is ∙ ap Some e) far.routines en far.few.0 in
      let b = count_more is_block t p y m m' (is ∙ ap Some e) far.blocks em far.few.1 in
      record {
        flow = subst (Before t (p + 1)) (sym ef) (before_after t p x is);
        routines = a.0;
        blocks = b.0;
        few = (a.1, b.1);
        clear = clear_more (InBlocks t) p far.clear (λ j h. said j (bad j p refl h));
      }

-- after the last record, a block that is open is the only fault
record Past (t : List Record) (k : BlockCause) (q : ℕ) : Type 0 where
  cause : k ≡ Unclosed
  flow : Before t (length t) Open

past : (t : List Record) (k : BlockCause) (q : ℕ) → length t ≤ q → InBlocks t k q → Past t k q
past t k q l (headless {x = y} e h) = absurd (omega (arith, nth_below t 0 y e))
past t k q l (unclosed {x = y} {y = z} i e c d h) = absurd (omega (arith, nth_below t (suc i) z d))
past t k q l (open_end {x = y} i e c d) = record { cause = refl; flow = (i, y, omega (arith, nth_below t i y e), e, c) }
past t k q l (trailing {x = y} {y = z} i e c d h) = absurd (omega (arith, nth_below t (suc i) z d))
past t k q l (crowded_routine {x = y} i e h full) = absurd (omega (arith, nth_below t i y e))
past t k q l (crowded_block {x = y} i e h full) = absurd (omega (arith, nth_below t i y e))

-- what comes before a place is one thing
only_open : (t : List Record) (p : ℕ) (f : Flow) → Before t p f → Before t p Open → f ≡ Open
only_open t p Start e (i, x, u, on, c) = absurd (omega arith)
only_open t p Open b o = refl
only_open t p Closed (j, y, v, at, d) (i, x, u, on, c) = let s : j ≡ i = omega arith in let w : y ≡ x = cc in let z : true ≡ false = cc in clash (cc)

module _ (t : List Record) (f : Flow) (n m : ℕ) (far : Sofar t (length t) f n m) where
  pub done : (f ≡ Open → ⊥) → BlocksClear t
  done shut k q h = by (cases_lt q (length t))
    where
      by : (q < length t) ⊎ (length t ≤ q) → ⊥
      by (inl l) = far.clear k q l h
      by (inr l) = shut (only_open t (length t) f far.flow (past t k q l h).flow)

  pub left_open : f ≡ Open → First block_number_of (InBlocks t) Unclosed (length t)
  left_open e = by (subst (Before t (length t)) e far.flow)
    where
      by : Before t (length t) Open → First block_number_of (InBlocks t) Unclosed (length t)
      by (i, x, u, on, c) = record {
        here = subst (InBlocks t Unclosed) (sym u) (open_end i on c (slice_get_past t (suc i) (omega arith)));
        before = far.clear;
        lower = λ j l h. let z = ap block_number_of (past t j (length t) (omega arith) h).cause in absurd (omega arith);
      }
