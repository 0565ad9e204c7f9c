-- The calls of any kind of stand: a call has at most one answer, and leaves one stand, if a beat does.
use Rattle.std.proofs.Common.{◌≡◌, ℕ, suc, ◌≤◌, List, ℤ, pos, Some, None, Option, sym, refl, ap, ◌∙◌, subst, inl, inr, arith}
use Rattle.std.proofs.lemmas.Int.{ints}
use Rattle.bench.specs.Histories.{Deterministic}
use Rattle.bench.specs.Ranges.{Outside}
use Rattle.bench.specs.declared.state.State.{State as Standing}
use Rattle.bench.proofs.Rules.{same_answer, same_after}
use Rattle.language.specs.Calls.{Event, load, start, go, jog, Answer, Stand, most_beats, Goes, over, enough, more, Calls, loads, load_not, starts, start_nothing, start_miscounted, goes, go_nowhere, go_too_far, jogs, progress_number, progress_value, went, replied}
use Rattle.language.specs.Lines.{Enters}
use Rattle.language.specs.Runs.{Run, running}
use Rattle.language.specs.declared.record.Record.{Record}
use Rattle.language.proofs.Lists.{clash}
use Rattle.language.proofs.Refusals.{held_once, refused_once, sound_accepted}

-- two facts of one Option
pub same_some : {X : Type 0} (o : Option X) (x y : X) → o ≡ Some x → o ≡ Some y → x ≡ y
same_some o x y a b = cc

pub not_both : {X Y : Type 0} (o : Option X) (x : X) → o ≡ None → o ≡ Some x → Y
not_both o x a b = clash cc

-- two pairs with equal parts
pub same_outcome : {X Y : Type 0} {x x' : X} {y y' : Y} → (x ≡ x') × (y ≡ y') → ◌≡◌ {A = X × Y} (x, y) (x', y')
same_outcome e = let a = e.0 in let b = e.1 in cc

same_entry : (t : List Record) (g j p q j' p' q' : ℕ) → Enters t g j p q → Enters t g j' p' q' → (j ≡ j') × (p ≡ p')
same_entry t g j p q j' p' q' d e =
    let a = d.first in let b = e.first in let same : j ≡ j' = cc in
    let c = d.there in let f = e.there in
    (same, cc)

in_range : {Y : Type 0} (n : ℕ) → n ≤ most_beats → Outside (suc most_beats) (pos n) → Y
in_range n h (inl o) = absurd (omega (arith, ints, o))
in_range n h (inr o) = absurd (omega (arith, ints, o))

module _ {S : Type 0} (begin : List Record → ℕ → List ℤ → S) (Does : List Record → S → Standing → ℕ → Run S → Standing → Type 0)
    (once : (t : List Record) (s : S) (b : Standing) (k k' : ℕ) (r r' : Run S) (c c' : Standing) → Does t s b k r c → Does t s b k' r' c' → (k ≡ k') × (r ≡ r') × (c ≡ c')) where
  -- what a go comes to: beats, steps, run and bench
  data Came : Type 0 where
    came : ℕ → ℕ → Run S → Standing → Came

  goes_came : (t : List Record) (n m k m' k' : ℕ) (r u u' : Run S) (b c c' : Standing) → Goes begin Does t n r b m k u c → Goes begin Does t n r b m' k' u' c' → came m k u c ≡ came m' k' u' c'
  goes_came t n m k m' k' r u u' b c c' over over = refl
  goes_came t n m k m' k' r u u' b c c' enough enough = refl
  goes_came t n m k m' k' r u u' b c c' (more {n = i} {m = j} {k = o} {l = l} {s = s} {r = v} {b' = d} e rest) (more {m = j'} {k = o'} {l = l'} {r = v'} {b' = d'} e' rest') =
      let same = once t s b o o' v v' d d' e e' in
      let cost : o ≡ o' = same.0 in
      let there = subst (λ q. Goes begin Does t i q d j' l' u' c') (sym same.1) (subst (λ q. Goes begin Does t i v' q j' l' u' c') (sym same.2) rest') in
      let on = goes_came t i j l j' l' v u u' d c c' rest there in
      cc

  abbrev DoesCall : Stand S → Event → Answer → Stand S → Type 0
  DoesCall = Calls begin Does

  abbrev Same : Answer → Answer → Stand S → Stand S → Type 0
  Same a a' y y' = (a ≡ a') × (y ≡ y')

  one_load : (x : Stand S) (bs : List ℕ) (a a' : Answer) (y y' : Stand S) → DoesCall x (load bs) a y → DoesCall x (load bs) a' y' → Same a a' y y'
  one_load x bs a a' y y' (loads t h ok) (loads u k ok') = (refl, ap (λ v. record { table = Some v; run = None; bench = x.bench }) (held_once bs t u h k))
  one_load x bs a a' y y' (loads t h ok) (load_not {l = l} {c = c} {p = p} r) = absurd (sound_accepted bs (record { table = t; same = h.same; formed = ok }) l c p r)
  one_load x bs a a' y y' (load_not {l = l} {c = c} {p = p} r) (loads u k ok) = absurd (sound_accepted bs (record { table = u; same = k.same; formed = ok }) l c p r)
  one_load x bs a a' y y' (load_not {l = l} {c = c} {p = p} r) (load_not {l = l'} {c = c'} {p = p'} q) =
      let same = refused_once bs l c p l' c' p' r q in
      let el : l ≡ l' = same.0 in
      let ec : c ≡ c' = same.1 in
      let ep : p ≡ p' = same.2 in
      (cc, refl)

  -- routine 0 of the table that a stand holds
  entry_of : (x : Stand S) (t u : List Record) (j p q i p' q' : ℕ) → x.table ≡ Some t → x.table ≡ Some u → Enters t 0 j p q → Enters u 0 i p' q' → (j ≡ i) × (p ≡ p') × (t ≡ u)
  entry_of x t u j p q i p' q' l k d e =
      let same = same_some x.table u t k l in
      let f = same_entry t 0 j p q i p' q' d (subst (λ v. Enters v 0 i p' q') same e) in
      (f.0, f.1, sym same)

  one_start : (x : Stand S) (vs : List ℤ) (a a' : Answer) (y y' : Stand S) → DoesCall x (start vs) a y → DoesCall x (start vs) a' y' → Same a a' y y'
  one_start x vs a a' y y' (starts {p = p} {q = q} t j l d n) (starts {p = p'} {q = q'} u i k e m) =
      let f = entry_of x t u j p q i p' q' l k d e in
      (refl, ap (λ o. record { table = x.table; run = Some (running (begin t o vs)); bench = x.bench }) f.0 ∙ ap (λ v. record { table = x.table; run = Some (running (begin v i vs)); bench = x.bench }) f.2)
  one_start x vs a a' y y' (starts t j l d n) (start_nothing k) = not_both x.table t k l
  one_start x vs a a' y y' (starts {p = p} {q = q} t j l d n) (start_miscounted {p = p'} {q = q'} u i k e m) = absurd (m (n ∙ (entry_of x t u j p q i p' q' l k d e).1))
  one_start x vs a a' y y' (start_nothing k) (starts t j l d n) = not_both x.table t k l
  one_start x vs a a' y y' (start_nothing k) (start_nothing l) = (refl, refl)
  one_start x vs a a' y y' (start_nothing k) (start_miscounted u i l e m) = not_both x.table u k l
  one_start x vs a a' y y' (start_miscounted {p = p} {q = q} t j l d m) (starts {p = p'} {q = q'} u i k e n) = absurd (m (n ∙ sym (entry_of x t u j p q i p' q' l k d e).1))
  one_start x vs a a' y y' (start_miscounted t j l d m) (start_nothing k) = not_both x.table t k l
  one_start x vs a a' y y' (start_miscounted t j l d m) (start_miscounted u i k e n) = (refl, refl)

  -- what a go came to decides its answer, and the stand left
  abbrev told : Came → Answer
  told (came m k r b) = went (progress_number r) (progress_value r) m k

  abbrev left : Stand S → Came → Stand S
  left x (came m k r b) = record { table = x.table; run = Some r; bench = b }

  one_go : (x : Stand S) (z : ℤ) (a a' : Answer) (y y' : Stand S) → DoesCall x (go z) a y → DoesCall x (go z) a' y' → Same a a' y y'
  one_go x z a a' y y' (goes {m = m} {k = k} {r' = r} {b' = b} t u n l s h g) (goes {m = m'} {k = k'} {r' = r'} {b' = b'} t' u' _ l' s' h' g') =
      let table : t' ≡ t = same_some x.table t' t l' l in
      let run : u' ≡ u = same_some x.run u' u s' s in
      let there = subst (λ w. Goes begin Does w n u x.bench m' k' r' b') table (subst (λ w. Goes begin Does t' n w x.bench m' k' r' b') run g') in
      let same = goes_came t n m k m' k' u r r' x.bench b b' g there in
      (ap told same, ap (left x) same)
  one_go x z a a' y y' (goes t r n l s h g) (go_nowhere d) = not_both x.run r d s
  one_go x z a a' y y' (goes t r n l s h g) (go_too_far q d o) = in_range n h o
  one_go x z a a' y y' (go_nowhere d) (goes t r n l s h g) = not_both x.run r d s
  one_go x z a a' y y' (go_nowhere d) (go_nowhere e) = (refl, refl)
  one_go x z a a' y y' (go_nowhere d) (go_too_far r e o) = not_both x.run r d e
  one_go x z a a' y y' (go_too_far q d o) (goes t r n l s h g) = in_range n h o
  one_go x z a a' y y' (go_too_far r d o) (go_nowhere e) = not_both x.run r e d
  one_go x z a a' y y' (go_too_far r d o) (go_too_far q e p) = (refl, refl)

  one_jog : (x : Stand S) (op n : ℤ) (a a' : Answer) (y y' : Stand S) → DoesCall x (jog op n) a y → DoesCall x (jog op n) a' y' → Same a a' y y'
  one_jog x op n a a' y y' (jogs {a = r} {b' = b} d) (jogs {a = r'} {b' = b'} e) =
      (ap replied (same_answer x.bench op n r r' b b' d e), ap (λ c. record { table = x.table; run = x.run; bench = c }) (same_after x.bench op n r r' b b' d e))

  pub calls_once : Deterministic DoesCall
  calls_once x (load bs) a a' y y' d e = one_load x bs a a' y y' d e
  calls_once x (start vs) a a' y y' d e = one_start x vs a a' y y' d e
  calls_once x (go z) a a' y y' d e = one_go x z a a' y y' d e
  calls_once x (jog op n) a a' y y' d e = one_jog x op n a a' y y' d e
