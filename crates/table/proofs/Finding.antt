-- What a lookup by key answers.
use Rattle.std.proofs.Common.{◌≡◌, ℕ, ◌<◌, ◌≤◌, Bool, true, false, Decides, MatchOption, ◌⊎◌, List, length, get_or, Some, None, Option, sym, refl, ap, ◌∙◌, inl, inr, arith}
use Rattle.std.specs.List.{slice_get, AllWithin, HoldsAt}
use Rattle.std.proofs.lemmas.Option.{slice_get-get_or, slice_get_cases}
use Rattle.std.proofs.lemmas.Bool.{cases_lt}
use Rattle.language.specs.Lines.{place}
use Rattle.language.proofs.Lists.{clash, nth_below, place_in, place_none, place_first}
use Rattle.table.specs.Entries.{entry_at}
use Rattle.table.specs.Lookup.{Finds, Gets}

-- what a lookup answers is the first place at which a test holds that tells what is sought
pub finds_place : {E : Type 0} (P : E → Type 0) (test : E → Bool) → ((e : E) → test e ≡ true → P e) → ((e : E) → P e → test e ≡ true) → (es : List E) (r : Option ℕ) → Finds P es r → r ≡ place test es
finds_place {E} P test to from es r f = by r f (place test es) refl
  where
    by : (r : Option ℕ) → Finds P es r → (o : Option ℕ) → place test es ≡ o → r ≡ o
    by None f None e = refl
    by None f (Some j) e = let at = place_in test es j e in absurd (f j at.0 at.1 (to at.0 at.2))
    by (Some i) f None e = absurd (place_none test es i f.0.entry e f.0.at (from f.0.entry f.0.has))
    by (Some i) f (Some j) e =
        let at = place_in test es j e in
        let le = place_first test es i j f.0.entry e f.0.at (from f.0.entry f.0.has) in
        ap Some (same (cases_lt j i) le (λ s. f.1.none j at.0 s at.1 (to at.0 at.2)))
      where
        same : {i j : ℕ} → (j < i) ⊎ (i ≤ j) → j ≤ i → (j < i → ⊥) → i ≡ j
        same (inl s) le no_less = absurd (no_less s)
        same (inr s) le no_less = omega arith

-- and the first entry is the one at that place
pub gets_entry : {E : Type 0} (P : E → Type 0) (test : E → Bool) → ((e : E) → test e ≡ true → P e) → ((e : E) → P e → test e ≡ true) → (none : E) (es : List E) (r : Option E) → Gets P es r → r ≡ entry_at none es (place test es)
gets_entry {E} P test to from none es r g = by r g
  where
    by : (r : Option E) → Gets P es r → r ≡ entry_at none es (place test es)
    by None f = ap (entry_at none es) (finds_place P test to from es None f)
    by (Some e) (i, at, f) =
        let n = slice_get-get_or es i none (nth_below es i e at) in
        let is : e ≡ get_or es i none = cc in
        ap Some is ∙ ap (entry_at none es) (finds_place P test to from es (Some i) f)

-- from what the library says of a search by a test that decides what is sought
module _ {E : Type 0} (P : E → Type 0) (test : E → Bool) (decides : (e : E) (b : Bool) → b ≡ test e → Decides b (P e)) (es : List E) where
  no_entry : (k i : ℕ) (e : E) → k < i → slice_get es k ≡ Some e → P e → AllWithin (λ e. test e ≡ false) es 0 i → ⊥
  no_entry k i e l at h none =
      let n = slice_get-get_or es k e (nth_below es k e at) in
      let is : get_or es k e ≡ e = cc in
      let f = none k e (omega arith) l in
      let t = (decides e (test e) refl).1 h in
      let z : true ≡ false = cc in
      clash (cc)

  pub finds_first : (r : Option ℕ) → MatchOption r (AllWithin (λ e. test e ≡ false) es 0 (length es)) (λ i. (i < length es) × HoldsAt (λ e. test e ≡ true) es i × AllWithin (λ e. test e ≡ false) es 0 i) → Finds P es r
  finds_first None none = λ k e at h. no_entry k (length es) e (nth_below es k e at) at h none
  finds_first (Some i) (inside, here, before) = by (slice_get_cases es i).1
    where
      by : ((e : E) × (i < length es) × (slice_get es i ≡ Some e) × (get_or es i e ≡ e)) ⊎ ((length es ≤ i) × (slice_get es i ≡ None)) → Finds P es (Some i)
      by (inl (e, l, at, is)) = (record { entry = e; at = at; has = (decides e (test e) refl).0 (ap test (sym is) ∙ here e) }, record { none = λ k e l a h. no_entry k i e l a h before })
      by (inr (past, none)) = absurd (omega arith)
