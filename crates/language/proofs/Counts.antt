-- How many records pass a test, up to a place.
use Rattle.std.proofs.Common.{◌≡◌, ℕ, zero, suc, ◌+◌, ◌≤◌, Bool, true, false, cond, List, length, get_or, take, Some, count_by, refl, ap, ◌∙◌, subst, add-one, arith, take_all}
use Rattle.std.specs.List.{slice_get}
use Rattle.std.proofs.lemmas.Option.{slice_get-get_or}
use Rattle.std.proofs.lemmas.List.Sums.{count_by_more_yes, count_by_more_no, sum_by-take-le}
use Rattle.language.proofs.Lists.{nth_below, nth_some}

module _ {X : Type 0} (f : X → Bool) (xs : List X) where
  read : (i : ℕ) (x : X) → slice_get xs i ≡ Some x → get_or xs i x ≡ x
  read i x e = let h = slice_get-get_or xs i x (nth_below xs i x e) in cc

  pub count_yes : (i : ℕ) (x : X) → slice_get xs i ≡ Some x → f x ≡ true → count_by f (take (i + 1) xs) ≡ count_by f (take i xs) + 1
  count_yes i x e h = count_by_more_yes f xs i x (nth_below xs i x e) (ap f (read i x e) ∙ h)

  pub count_no : (i : ℕ) (x : X) → slice_get xs i ≡ Some x → f x ≡ false → count_by f (take (i + 1) xs) ≡ count_by f (take i xs)
  count_no i x e h = count_by_more_no f xs i x (nth_below xs i x e) (ap f (read i x e) ∙ h)

  pub count_front : (i : ℕ) → count_by f (take i xs) ≤ count_by f xs
  count_front i = sum_by-take-le (λ x. cond (f x) 1 0) xs i

  -- a count that never meets its limit before one more stays within it
  within : (top : ℕ) → ((p : ℕ) (x : X) → slice_get xs p ≡ Some x → f x ≡ true → count_by f (take p xs) ≡ top → ⊥) → (p : ℕ) → p ≤ length xs → count_by f (take p xs) ≤ top
  within top never zero h = omega arith
  within top never (suc p) h = by (within top never p (omega arith)) (nth_some xs p (omega arith))
    where
      step : (x : X) → slice_get xs p ≡ Some x → count_by f (take p xs) ≤ top → (b : Bool) → f x ≡ b → count_by f (take (p + 1) xs) ≤ top
      step x e back true h =
          let full : count_by f (take p xs) ≡ top → ⊥ = never p x e h in
          let c = count_yes p x e h in omega arith
      step x e back false h = let c = count_no p x e h in omega arith

      by : count_by f (take p xs) ≤ top → (x : X) × (slice_get xs p ≡ Some x) → count_by f (take (suc p) xs) ≤ top
      by back at = rw (← add-one p) (step at.0 at.1 back (f at.0) refl)

  pub count_within : (top : ℕ) → ((p : ℕ) (x : X) → slice_get xs p ≡ Some x → f x ≡ true → count_by f (take p xs) ≡ top → ⊥) → count_by f xs ≤ top
  count_within top never = subst (λ ys. count_by f ys ≤ top) (take_all (length xs) xs (omega arith)) (within top never (length xs) (omega arith))

  -- where the count is within a limit, it is not met before one more
  pub count_met : (top : ℕ) → count_by f xs ≤ top → (p : ℕ) (x : X) → slice_get xs p ≡ Some x → f x ≡ true → count_by f (take p xs) ≡ top → ⊥
  count_met top few p x e h full = let c = count_yes p x e h in let l = count_front (p + 1) in omega arith
