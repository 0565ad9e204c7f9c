-- The names of a table are as they should be exactly where no cause of layer 3 stands.
use Rattle.std.proofs.Common.{◌≡◌, ℕ, ◌<◌, ◌≤◌, ◌⊎◌, List, [], ◌∷◌, length, Some, None, Option, sym, refl, inl, inr, arith}
use Rattle.std.specs.List.{slice_get}
use Rattle.std.proofs.lemmas.Bool.{cases_lt, cases_eq, cases_order}
use Rattle.language.specs.declared.cause.NameCause.TheVariants.{RepeatedRoutine, RepeatedBlock, NoMain, NoVariable, NoBlock, NoRoutine, ArgumentCount}
use Rattle.language.specs.declared.handler.Handler.{Handler}
use Rattle.language.specs.declared.record.Record.{Record}
use Rattle.language.specs.declared.record.Record.TheVariants.{Routine, Block}
use Rattle.language.specs.Forms.{variables, labels, Called, called, calls}
use Rattle.language.specs.Lines.{Line, line, lines, heads_routine, heads_block, routine_place, block_place, Enters}
use Rattle.language.specs.WellFormed.{HasBlock, HasRoutine, Callable, Named}
use Rattle.language.specs.Causes.{Any, Absent, Miscounted, repeated_routine, repeated_block, no_main, no_variable, no_block, no_routine, argument_count}
use Rattle.language.specs.Refusals.{NamesClear}
use Rattle.language.proofs.Lists.{clash, place_in, all_since, any_all}
use Rattle.language.proofs.Lines.{line_record, record_line, routine_of, BlockOf, block_of}

module _ (t : List Record) where
  -- a place that is found is that of the heading
  pub enters : (g j : ℕ) → routine_place t g ≡ Some j → (p : ℕ) × (q : ℕ) × Enters t g j p q
  enters g j e =
      let at = place_in (heads_routine g) t j e in
      let r = routine_of g at.0 at.2 in
      let is = r.2 in let there = at.1 in
      (r.0, r.1, record { first = e; there = cc })

  heads_line : (r l j : ℕ) (x : Line) → block_place t r l ≡ Some j → slice_get (lines t) j ≡ Some x → BlockOf r l x → HasBlock t r l
  heads_line r l j x e there b =
      let is = b.is in
      let e' : slice_get (lines t) j ≡ Some (line r b.n b.h (Block l b.k)) = cc in
      record { at = j; handler = b.k; here = record { first = e; there = line_record t 0 0 None j r b.n b.h (Block l b.k) e' } }

  pub has_block : (r l j : ℕ) → block_place t r l ≡ Some j → HasBlock t r l
  has_block r l j e =
      let at = place_in (heads_block r l) (lines t) j e in
      heads_line r l j at.0 e at.1 (block_of r l at.0 at.2)

  -- a label is there or not; so is a routine, with as many parameters or not
  block_or : (r l : ℕ) → (block_place t r l ≡ None) ⊎ HasBlock t r l
  block_or r l = by (block_place t r l) refl
    where
      by : (o : Option ℕ) → block_place t r l ≡ o → (block_place t r l ≡ None) ⊎ HasBlock t r l
      by None e = inl e
      by (Some j) e = inr (has_block r l j e)

  call_or : (c : Called) → (Absent t c ⊎ Miscounted t c) ⊎ Callable t c
  call_or (called g n) = by (routine_place t g) refl
    where
      fits : (j p q : ℕ) → Enters t g j p q → (p ≡ n) ⊎ (p ≡ n → ⊥) → (Absent t (called g n) ⊎ Miscounted t (called g n)) ⊎ HasRoutine t g n
      fits j p q at (inl e) = inr (record { at = j; locals = q; here = rw (sym e) at })
      fits j p q at (inr e) = inl (inr (j, p, q, at, e))

      by : (o : Option ℕ) → routine_place t g ≡ o → (Absent t (called g n) ⊎ Miscounted t (called g n)) ⊎ HasRoutine t g n
      by None e = inl (inl e)
      by (Some j) e = let at = enters g j e in fits j at.0 at.1 at.2 (cases_eq at.0 n)

any_either : {X : Type 0} (P Q : X → Type 0) (xs : List X) → (Any P xs → ⊥) → (Any Q xs → ⊥) → Any (λ x. P x ⊎ Q x) xs → ⊥
any_either P Q [] p q h = h
any_either P Q (x ∷ xs) p q (inl (inl h)) = p (inl h)
any_either P Q (x ∷ xs) p q (inl (inr h)) = q (inl h)
any_either P Q (x ∷ xs) p q (inr h) = any_either P Q xs (λ a. p (inr a)) (λ a. q (inr a)) h

cases_outside : (n v : ℕ) → (n ≤ v) ⊎ (v < n)
cases_outside n v = by (cases_lt v n)
  where
    by : (v < n) ⊎ (n ≤ v) → (n ≤ v) ⊎ (v < n)
    by (inl h) = inr h
    by (inr h) = inl h

module _ (t : List Record) (clear : NamesClear t) where
  routines : (i j g p q p' q' : ℕ) → slice_get t i ≡ Some (Routine g p q) → slice_get t j ≡ Some (Routine g p' q') → i ≡ j
  routines i j g p q p' q' e f = by (cases_order i j)
    where
      by : (i ≡ j) ⊎ ((i < j) ⊎ (j < i)) → i ≡ j
      by (inl h) = h
      by (inr (inl h)) = absurd (clear RepeatedRoutine j (repeated_routine j i f h e))
      by (inr (inr h)) = absurd (clear RepeatedRoutine i (repeated_routine i j e h f))

  blocks : (i j r n n' l : ℕ) (h h' k k' : Option Handler) → slice_get (lines t) i ≡ Some (line r n h (Block l k)) → slice_get (lines t) j ≡ Some (line r n' h' (Block l k')) → i ≡ j
  blocks i j r n n' l h h' k k' e f = by (cases_order i j)
    where
      by : (i ≡ j) ⊎ ((i < j) ⊎ (j < i)) → i ≡ j
      by (inl h) = h
      by (inr (inl h)) = absurd (clear RepeatedBlock j (repeated_block j i f h e))
      by (inr (inr h)) = absurd (clear RepeatedBlock i (repeated_block i j e h f))

  main : (n : ℕ) × HasRoutine t 0 n
  main = by (routine_place t 0) refl
    where
      by : (o : Option ℕ) → routine_place t 0 ≡ o → (n : ℕ) × HasRoutine t 0 n
      by None e = absurd (clear NoMain (length t) (no_main e))
      by (Some j) e = let at = enters t 0 j e in (at.0, record { at = j; locals = at.1; here = at.2 })

  pub named : Named t
  named = record {
    routines = routines;
    blocks = blocks;
    variables = λ i r n h x e. all_since (λ v. n ≤ v) (λ v. v < n) (cases_outside n) (variables x) (λ a. clear NoVariable i (no_variable i e a));
    labels = λ i r n h x e. all_since (λ l. block_place t r l ≡ None) (HasBlock t r) (block_or t r) (labels x) (λ a. clear NoBlock i (no_block i e a));
    calls = λ i r n h x e.
        let at = line_record t 0 0 None i r n h x e in
        all_since (λ c. Absent t c ⊎ Miscounted t c) (Callable t) (call_or t) (calls x)
        (any_either (Absent t) (Miscounted t) (calls x) (λ a. clear NoRoutine i (no_routine i at a)) (λ a. clear ArgumentCount i (argument_count i at a)));
    main = main;
  }

module _ (t : List Record) (ok : Named t) where
  not_absent : (c : Called) → Absent t c → Callable t c → ⊥
  not_absent (called g n) e h = let f = h.here.first in clash (cc)

  not_miscounted : (c : Called) → Miscounted t c → Callable t c → ⊥
  not_miscounted (called g n) (j, p, q, at, apart) h =
      let e = at.first in let e' = h.here.first in
      let ej : j ≡ h.at = cc in
      let f = at.there in let f' = h.here.there in
      let z : p ≡ n = cc in apart z

  pub names_clear : NamesClear t
  names_clear c i (repeated_routine {g} {n} {q} {n'} {q'} p j e l f) = let z = ok.routines p j g n q n' q' e f in omega arith
  names_clear c i (repeated_block {r} {n} {n'} {l} {h} {h'} {k} {k'} p j e s f) = let z = ok.blocks p j r n n' l h h' k k' e f in omega arith
  names_clear c i (no_main e) = let f = ok.main.1.here.first in clash (cc)
  names_clear c i (no_variable {r} {n} {h} {x} p e a) = any_all (λ v. n ≤ v) (λ v. v < n) (λ v l m. absurd (omega arith)) (variables x) a (ok.variables p r n h x e)
  names_clear c i (no_block {r} {n} {h} {x} p e a) = any_all (λ l. block_place t r l ≡ None) (HasBlock t r) (λ l f m. let g = m.here.first in clash (cc)) (labels x) a (ok.labels p r n h x e)
  names_clear c i (no_routine {x} p e a) =
      let l = record_line t 0 0 None p x e in
      any_all (Absent t) (Callable t) not_absent (calls x) a (ok.calls p l.r l.n l.h x l.is)
  names_clear c i (argument_count {x} p e a) =
      let l = record_line t 0 0 None p x e in
      any_all (Miscounted t) (Callable t) not_miscounted (calls x) a (ok.calls p l.r l.n l.h x l.is)
