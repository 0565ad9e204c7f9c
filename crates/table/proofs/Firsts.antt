-- What is clear up to a place, and at it, is clear up to the next.
use Rattle.std.proofs.Common.{◌≡◌, ℕ, ◌+◌, ◌<◌, ◌⊎◌, subst, inl, inr, arith}
use Rattle.std.proofs.lemmas.Bool.{cases_order}

pub clear_more : {K : Type 0} (Stands : K → ℕ → Type 0) (p : ℕ) → ((j : K) (q : ℕ) → q < p → Stands j q → ⊥) → ((j : K) → Stands j p → ⊥) → (j : K) (q : ℕ) → q < p + 1 → Stands j q → ⊥
clear_more Stands p below here j q l h = by (cases_order q p)
  where
    by : (q ≡ p) ⊎ ((q < p) ⊎ (p < q)) → ⊥
    by (inl e) = here j (subst (Stands j) e h)
    by (inr (inl s)) = below j q s h
    by (inr (inr s)) = absurd (omega arith)
