-- A test of each argument that is passed tells whether one is beyond a limit.
use Rattle.std.proofs.Common.{ℕ, zero, suc, ◌<◌, Bool, true, false, List, [], ◌∷◌, length, refl, inl, inr, arith, Decides, MatchBool}
use Rattle.std.specs.List.{AllWithin, HoldsAt}
use Rattle.language.proofs.Lists.{clash}
use Rattle.language.specs.Causes.{Any}

module _ {X : Type 0} (P : X → Type 0) where
  any_at : (xs : List X) (k : ℕ) → k < length xs → HoldsAt P xs k → Any P xs
  any_at [] k l h = absurd (omega arith)
  any_at (x ∷ xs) zero l h = inl (h x)
  any_at (x ∷ xs) (suc k) l h = inr (any_at xs k (omega arith) h)

  none_of : (xs : List X) → AllWithin (λ x. P x → ⊥) xs 0 (length xs) → Any P xs → ⊥
  none_of [] none h = h
  none_of (x ∷ xs) none (inl h) = none 0 x (omega arith) (omega arith) h
  none_of (x ∷ xs) none (inr h) = none_of xs (λ k d l m. none (suc k) d (omega arith) (omega arith)) h

  pub any_found : (xs : List X) (b : Bool) → MatchBool b ((k : ℕ) × (k < length xs) × HoldsAt P xs k) (AllWithin (λ x. P x → ⊥) xs 0 (length xs)) → Decides b (Any P xs)
  any_found xs true (k, l, h) = (λ e. any_at xs k l h, λ a. refl)
  any_found xs false none = (λ e. clash (cc), λ a. absurd (none_of xs none a))
