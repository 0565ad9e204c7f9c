-- Elements by place, the first that passes a test, and what holds of all or of some.
use Rattle.std.proofs.Common.{◌≡◌, ℕ, zero, suc, ◌<◌, ◌≤◌, Bool, true, false, ◌⊎◌, List, [], ◌∷◌, length, Some, None, Option, refl, inl, inr, arith}
use Rattle.std.specs.List.{slice_get, AllByRecursion}
use Rattle.language.specs.Causes.{Any}
use Rattle.language.specs.Lines.{later, place}

-- nothing follows from what cannot be
pub clash : {X : Type 0} → ◌≡◌ {A = ℕ} 0 1 → X
clash e = absurd (omega arith)

pub nth_below : {X : Type 0} (xs : List X) (i : ℕ) (x : X) → slice_get xs i ≡ Some x → i < length xs
nth_below [] i x e = clash (cc)
nth_below (y ∷ xs) zero x e = omega arith
nth_below (y ∷ xs) (suc i) x e = let h = nth_below xs i x e in omega arith

pub nth_some : {X : Type 0} (xs : List X) (i : ℕ) → i < length xs → (x : X) × (slice_get xs i ≡ Some x)
nth_some [] i l = absurd (omega arith)
nth_some (y ∷ xs) zero l = (y, refl)
nth_some (y ∷ xs) (suc i) l = nth_some xs i (omega arith)

pub nth_none : {X : Type 0} (xs : List X) (i : ℕ) → slice_get xs i ≡ None → length xs ≤ i
nth_none [] i e = omega arith
nth_none (x ∷ xs) zero e = clash (cc)
nth_none (x ∷ xs) (suc i) e = let h = nth_none xs i e in omega arith

module _ {X : Type 0} (p : X → Bool) where
  -- a place that is found is in the list, and passes
  pub place_in : (xs : List X) (j : ℕ) → place p xs ≡ Some j → (x : X) × (slice_get xs j ≡ Some x) × (p x ≡ true)
  place_in [] j e = clash (cc)
  place_in (y ∷ xs) j e = by (λ i. place_in xs i) (p y) (place p xs) j refl refl e
    where
      by : ((i : ℕ) → place p xs ≡ Some i → (x : X) × (slice_get xs i ≡ Some x) × (p x ≡ true)) → (b : Bool) (o : Option ℕ) (i : ℕ) → p y ≡ b → place p xs ≡ o → later b o ≡ Some i → (x : X) × (slice_get (y ∷ xs) i ≡ Some x) × (p x ≡ true)
      by rest true o zero eb eo e = (y, refl, eb)
      by rest true o (suc i) eb eo e = let z : ◌≡◌ {A = ℕ} 0 (suc i) = cc in absurd (omega arith)
      by rest false None i eb eo e = clash (cc)
      by rest false (Some k) zero eb eo e = let z : suc k ≡ 0 = cc in absurd (omega arith)
      by rest false (Some k) (suc i) eb eo e = let z : suc k ≡ suc i = cc in let w : k ≡ i = omega arith in rest i (cc)

  -- where one element passes, a place is found that is no later
  pub place_found : (xs : List X) (i : ℕ) (x : X) → slice_get xs i ≡ Some x → p x ≡ true → (j : ℕ) × (place p xs ≡ Some j) × (j ≤ i)
  place_found [] i x e h = clash (cc)
  place_found (y ∷ xs) i x e h = by (λ i e. place_found xs i x e h) (p y) i refl e
    where
      by : ((i : ℕ) → slice_get xs i ≡ Some x → (j : ℕ) × (place p xs ≡ Some j) × (j ≤ i)) → (b : Bool) (i : ℕ) → p y ≡ b → slice_get (y ∷ xs) i ≡ Some x → (j : ℕ) × (later b (place p xs) ≡ Some j) × (j ≤ i)
      by rest true i eb e = (0, refl, omega arith)
      by rest false zero eb e = let z : y ≡ x = cc in let w : true ≡ false = cc in clash (cc)
      by rest false (suc i) eb e = let o = rest i e in let eo = o.1 in let l = o.2 in (suc o.0, cc, omega arith)

  -- where none is found, no element passes
  pub place_none : (xs : List X) (i : ℕ) (x : X) → place p xs ≡ None → slice_get xs i ≡ Some x → p x ≡ true → ⊥
  place_none xs i x e h t = let o = place_found xs i x h t in let eo = o.1 in clash (cc)

  -- none passes before the one that is found
  pub place_first : (xs : List X) (i j : ℕ) (x : X) → place p xs ≡ Some j → slice_get xs i ≡ Some x → p x ≡ true → j ≤ i
  place_first xs i j x e h t = let o = place_found xs i x h t in let eo = o.1 in let l = o.2 in let z : j ≡ o.0 = cc in omega arith

module _ {X : Type 0} (P Q : X → Type 0) where
  -- what some element has, not all lack
  pub any_all : ((x : X) → P x → Q x → ⊥) → (xs : List X) → Any P xs → AllByRecursion Q xs → ⊥
  any_all f [] h a = h
  any_all f (x ∷ xs) (inl h) a = f x h a.0
  any_all f (x ∷ xs) (inr h) a = any_all f xs h a.1

  -- what no element has, all lack
  pub all_since : ((x : X) → P x ⊎ Q x) → (xs : List X) → (Any P xs → ⊥) → AllByRecursion Q xs
  all_since f [] none = tt
  all_since f (x ∷ xs) none = by (all_since f xs (λ a. none (inr a))) (f x)
    where
      by : AllByRecursion Q xs → P x ⊎ Q x → AllByRecursion Q (x ∷ xs)
      by rest (inl h) = absurd (none (inl h))
      by rest (inr h) = (h, rest)

pub all_nth : {X : Type 0} (P : X → Type 0) (xs : List X) (i : ℕ) (x : X) → AllByRecursion P xs → slice_get xs i ≡ Some x → P x
all_nth P [] i x a e = clash (cc)
all_nth P (y ∷ xs) zero x a e = let z : y ≡ x = cc in rw z at a.0
all_nth P (y ∷ xs) (suc i) x a e = all_nth P xs i x a.1 e
