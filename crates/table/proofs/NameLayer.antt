-- What one turn of layer 3's loop keeps, and what its ends give.
use Rattle.std.proofs.Common.{◌≡◌, ℕ, ◌+◌, ◌<◌, ◌≤◌, ◌⊎◌, List, [], ◌∷◌, length, Some, None, Option, sym, refl, ap, ◌∙◌, subst, inl, inr, arith}
use Rattle.std.specs.List.{slice_get}
use Rattle.std.proofs.lemmas.Bool.{cases_lt}
use Rattle.language.specs.declared.cause.NameCause.{NameCause}
use Rattle.language.specs.declared.cause.NameCause.TheVariants.{RepeatedRoutine, RepeatedBlock, NoMain, NoVariable, NoBlock, NoRoutine, ArgumentCount}
use Rattle.language.specs.declared.handler.Handler.{Handler}
use Rattle.language.specs.declared.record.Record.{Record}
use Rattle.language.specs.declared.record.Record.TheVariants.{Routine, Block, Body}
use Rattle.language.specs.Forms.{variables, labels, Called, calls}
use Rattle.language.specs.Lines.{line, lines, heads_routine, heads_block, routine_place, block_place}
use Rattle.language.specs.Causes.{name_number_of, Any, Absent, Miscounted, InNames, repeated_routine, repeated_block, no_main, no_variable, no_block, no_routine, argument_count}
use Rattle.language.specs.Refusals.{First, NamesClear}
use Rattle.language.proofs.Lists.{clash, nth_below, place_in, place_found}
use Rattle.language.proofs.Lines.{line_record, length-lines, routine_passes, block_of, block_passes}
use Rattle.language.proofs.Names.{enters}
use Rattle.scopes.specs.declared.scope.Scope.{Scope}
use Rattle.table.specs.Entries.{routine_entries, block_entries, routine_at_of, block_at}
use Rattle.table.specs.Names.{Earlier, Unknown, Misfit, Bad, Flawed}
use Rattle.scopes.specs.Scopes.{nowhere, scope_at}
use Rattle.table.proofs.Firsts.{clear_more}
use Rattle.scopes.proofs.Scoped.{Under, under_start, under_next, Lined}
use Rattle.table.proofs.Links.{routine_at_is, block_at_is, unknown_absent, absent_unknown, misfit_miscounted, miscounted_misfit}

any_map : {X : Type 0} (P Q : X → Type 0) → ((x : X) → P x → Q x) → (xs : List X) → Any P xs → Any Q xs
any_map P Q f [] h = absurd h
any_map P Q f (x ∷ xs) (inl h) = inl (f x h)
any_map P Q f (x ∷ xs) (inr h) = inr (any_map P Q f xs h)

-- a heading that is found before a place
earlier_at : (o : Option ℕ) (p : ℕ) → Earlier o p → (j : ℕ) × (o ≡ Some j) × (j < p)
earlier_at None p h = absurd h
earlier_at (Some j) p h = (j, refl, h)

at_earlier : (o : Option ℕ) (j p : ℕ) → o ≡ Some j → j < p → Earlier o p
at_earlier None j p e l = clash (cc)
at_earlier (Some i) j p e l = let z : i ≡ j = cc in omega arith

module _ (t : List Record) where
  -- the causes at a record, by the entries of the table
  abbrev pub BadAt : Scope → ℕ → Record → NameCause → Type 0
  BadAt s p x k = Bad (routine_entries t) (block_entries t) s p x k

  module _ (p : ℕ) (s : Scope) (x : Record) (lined : Lined t p s x) where
    at : slice_get t p ≡ Some x
    at = line_record t 0 0 None p s.routine s.variables s.handler x lined.is

    repeats_routine_lem : (g a b : ℕ) → x ≡ Routine g a b → Earlier (routine_at_of (routine_entries t) g) p → InNames t RepeatedRoutine p
    repeats_routine_lem g a b e h =
        let f = earlier_at (routine_place t g) p (subst (λ o. Earlier o p) (routine_at_is g t) h) in
        let r = enters t g f.0 f.1 in
        repeated_routine p f.0 (at ∙ ap Some e) f.2 r.2.there

    repeats_block_lem : (l : ℕ) (k : Option Handler) → x ≡ Block l k → Earlier (block_at (block_entries t) s.routine l) p → InNames t RepeatedBlock p
    repeats_block_lem l k e h =
        let f = earlier_at (block_place t s.routine l) p (subst (λ o. Earlier o p) (block_at_is s.routine l t) h) in
        let i = place_in (heads_block s.routine l) (lines t) f.0 f.1 in
        let b = block_of s.routine l i.0 i.2 in
        repeated_block p f.0 (lined.is ∙ ap (λ v. Some (line s.routine s.variables s.handler v)) e) f.2 (i.1 ∙ ap Some b.is)

    stands_for : (y : Record) → x ≡ y → (k : NameCause) → BadAt s p y k → InNames t k p
    stands_for (Routine g a b) e RepeatedRoutine h = repeats_routine_lem g a b e h
    stands_for (Block l k) e RepeatedRoutine h = absurd h
    stands_for (Body i) e RepeatedRoutine h = absurd h
    stands_for (Routine g a b) e RepeatedBlock h = absurd h
    stands_for (Block l k) e RepeatedBlock h = repeats_block_lem l k e h
    stands_for (Body i) e RepeatedBlock h = absurd h
    stands_for y e NoMain h = absurd h
    stands_for y e NoVariable h = no_variable p (lined.is ∙ ap (λ v. Some (line s.routine s.variables s.handler v)) e) h
    stands_for y e NoBlock h =
        no_block p (lined.is ∙ ap (λ v. Some (line s.routine s.variables s.handler v)) e)
        (any_map (λ l. block_at (block_entries t) s.routine l ≡ None) (λ l. block_place t s.routine l ≡ None) (λ l n. sym (block_at_is s.routine l t) ∙ n) (labels y) h)
    stands_for y e NoRoutine h = no_routine p (at ∙ ap Some e) (any_map (Unknown (routine_entries t)) (Absent t) (unknown_absent t) (calls y) h)
    stands_for y e ArgumentCount h = argument_count p (at ∙ ap Some e) (any_map (Misfit (routine_entries t)) (Miscounted t) (misfit_miscounted t) (calls y) h)

    pub stands : (k : NameCause) → BadAt s p x k → InNames t k p
    stands = stands_for x refl

    -- the other way, at a place that is p
    bad_routine : (g a b a' b' j q : ℕ) → q ≡ p → slice_get t q ≡ Some (Routine g a b) → j < q → slice_get t j ≡ Some (Routine g a' b') → BadAt s p x RepeatedRoutine
    bad_routine g a b a' b' j q eq e l f =
        let is = at in
        let z : x ≡ Routine g a b = cc in
        let found = place_found (heads_routine g) t j (Routine g a' b') f (routine_passes g a' b') in
        let le = found.2 in
        subst (λ y. BadAt s p y RepeatedRoutine) (sym z) (subst (λ o. Earlier o p) (sym (routine_at_is g t)) (at_earlier (routine_place t g) found.0 p found.1 (omega arith)))

    bad_block : (r n n' l j q : ℕ) (h h' k k' : Option Handler) → q ≡ p → slice_get (lines t) q ≡ Some (line r n h (Block l k)) → j < q → slice_get (lines t) j ≡ Some (line r n' h' (Block l k')) → BadAt s p x RepeatedBlock
    bad_block r n n' l j q h h' k k' eq e s' f =
        let is = lined.is in
        let z : x ≡ Block l k = cc in
        let w : r ≡ s.routine = cc in
        let found = place_found (heads_block r l) (lines t) j (line r n' h' (Block l k')) f (block_passes r n' l h' k') in
        let le = found.2 in
        subst (λ y. BadAt s p y RepeatedBlock) (sym z) (subst (λ v. Earlier (block_at (block_entries t) v l) p) w
        (subst (λ o. Earlier o p) (sym (block_at_is r l t)) (at_earlier (block_place t r l) found.0 p found.1 (omega arith))))

    bad_variable : (r n q : ℕ) (h : Option Handler) (y : Record) → q ≡ p → slice_get (lines t) q ≡ Some (line r n h y) → Any (λ v. n ≤ v) (variables y) → BadAt s p x NoVariable
    bad_variable r n q h y eq e a =
        let is = lined.is in
        let z : y ≡ x = cc in
        let w : n ≡ s.variables = cc in
        subst (λ v. Any (λ u. s.variables ≤ u) (variables v)) z (subst (λ m. Any (λ u. m ≤ u) (variables y)) w a)

    bad_label : (r n q : ℕ) (h : Option Handler) (y : Record) → q ≡ p → slice_get (lines t) q ≡ Some (line r n h y) → Any (λ l. block_place t r l ≡ None) (labels y) → BadAt s p x NoBlock
    bad_label r n q h y eq e a =
        let is = lined.is in
        let z : y ≡ x = cc in
        let w : r ≡ s.routine = cc in
        subst (λ v. Any (λ l. block_at (block_entries t) s.routine l ≡ None) (labels v)) z
        (any_map (λ l. block_place t s.routine l ≡ None) (λ l. block_at (block_entries t) s.routine l ≡ None) (λ l n. block_at_is s.routine l t ∙ n) (labels y)
        (subst (λ g. Any (λ l. block_place t g l ≡ None) (labels y)) w a))

    bad_call : (P Q : Called → Type 0) → ((c : Called) → P c → Q c) → (q : ℕ) (y : Record) → q ≡ p → slice_get t q ≡ Some y → Any P (calls y) → Any Q (calls x)
    bad_call P Q f q y eq e a = let is = at in let z : y ≡ x = cc in subst (λ v. Any Q (calls v)) z (any_map P Q f (calls y) a)

    pub bad : (k : NameCause) (q : ℕ) → q ≡ p → InNames t k q → BadAt s p x k
    bad c q eq (repeated_routine {g} {n} {q = m} {n'} {q' = m'} i j e l f) = bad_routine g n m n' m' j i eq e l f
    bad c q eq (repeated_block {r} {n} {n'} {l} {h} {h'} {k} {k'} i j e s' f) = bad_block r n n' l j i h h' k k' eq e s' f
    bad c q eq (no_main e) = absurd (omega (arith, nth_below t p x at))
    bad c q eq (no_variable {r} {n} {h} {x = y} i e a) = bad_variable r n i h y eq e a
    bad c q eq (no_block {r} {n} {h} {x = y} i e a) = bad_label r n i h y eq e a
    bad c q eq (no_routine {x = y} i e a) = bad_call (Absent t) (Unknown (routine_entries t)) (absent_unknown t) i y eq e a
    bad c q eq (argument_count {x = y} i e a) = bad_call (Miscounted t) (Misfit (routine_entries t)) (miscounted_misfit t) i y eq e a

-- the first p records have no fault, and the scope that they leave is s
pub record Sofar (t : List Record) (p : ℕ) (s : Scope) : Type 0 where
  pub under : Under t p s
  pub clear : (j : NameCause) (q : ℕ) → q < p → InNames t j q → ⊥

pub start : (t : List Record) (s : Scope) → s ≡ nowhere → Sofar t 0 s
start t s e = record { under = under_start t s e; clear = λ j q l h. absurd (omega arith) }

-- what is said of a record, by the entries of the table
abbrev pub Said : List Record → Scope → ℕ → Record → Option NameCause → Type 0
Said t s p x r = Flawed (routine_entries t) (block_entries t) s p x r

module _ (t : List Record) (p : ℕ) (s : Scope) (far : Sofar t p s) (x : Record) (is : slice_get t p ≡ Some x) (s' : Scope) (next : s' ≡ scope_at s x) where
  lined : Lined t p s' x
  lined = (under_next t p s far.under x s' is next).1

  pub first : (k : NameCause) → Said t s' p x (Some k) → First name_number_of (InNames t) k p
  first k said = record { here = stands t p s' x lined k said.0; before = far.clear; lower = λ j l h. said.1 j l (bad t p s' x lined j p refl h) }

  pub more : Said t s' p x None → Sofar t (p + 1) s'
  more said = record {
    under = (under_next t p s far.under x s' is next).0;
    clear = clear_more (InNames t) p far.clear (λ j h. said j (bad t p s' x lined j p refl h));
  }

-- after the last record, the absence of routine 0 is the only fault
record Past (t : List Record) (k : NameCause) : Type 0 where
  cause : k ≡ NoMain
  absent : routine_place t 0 ≡ None

past : (t : List Record) (k : NameCause) (q : ℕ) → length t ≤ q → InNames t k q → Past t k
past t c q l (repeated_routine {g} {n} {q = m} {n'} {q' = m'} i j e s f) = absurd (omega (arith, nth_below t i _ e))
past t c q l (repeated_block i j e s f) = absurd (omega (arith, nth_below (lines t) i _ e, length-lines t 0 0 None))
past t c q l (no_main e) = record { cause = refl; absent = e }
past t c q l (no_variable i e a) = absurd (omega (arith, nth_below (lines t) i _ e, length-lines t 0 0 None))
past t c q l (no_block i e a) = absurd (omega (arith, nth_below (lines t) i _ e, length-lines t 0 0 None))
past t c q l (no_routine i e a) = absurd (omega (arith, nth_below t i _ e))
past t c q l (argument_count i e a) = absurd (omega (arith, nth_below t i _ e))

module _ (t : List Record) (s : Scope) (far : Sofar t (length t) s) where
  pub done : (routine_place t 0 ≡ None → ⊥) → NamesClear t
  done there k q h = by (cases_lt q (length t))
    where
      by : (q < length t) ⊎ (length t ≤ q) → ⊥
      by (inl l) = far.clear k q l h
      by (inr l) = there (past t k q l h).absent

  pub main_missing : routine_place t 0 ≡ None → First name_number_of (InNames t) NoMain (length t)
  main_missing e = record {
    here = no_main e;
    before = far.clear;
    lower = λ j l h. let z = ap name_number_of (past t j (length t) (omega arith) h).cause in absurd (omega arith);
  }
