-- A number in range stands for something, one out of range does not; and what a number stands for does
-- not depend on how the number was seen to be in range.
use Rattle.std.proofs.Common.{◌≡◌, ℕ, ◌<◌, ◌≤◌, Bool, true, false, ltb, ℤ, pos, negsuc, Some, None, Option, sym, refl, ap, ◌∙◌, inl, inr, arith}
use native.Mathlib.Bridge.{le_prop}
use Rattle.std.proofs.lemmas.Int.{ints}
use Rattle.std.proofs.lemmas.Bool.{ltb-true, ltb-false}
use Rattle.bench.specs.Ranges.{Outside, below, tested, below_at}
use Rattle.bench.specs.declared.below.Below.{Below}

tested_in : (n k : ℕ) (h : k < n) (b : Bool) (e : ltb k n ≡ b) → Some (below n k h) ≡ tested n k b e
tested_in n k h true e = ap (λ w. Some (below n k w)) (le_prop h (ltb-true k n e))
tested_in n k h false e = absurd (omega (arith, ltb-false k n e))

pub below_in : (n k : ℕ) (h : k < n) → Some (below n k h) ≡ below_at n (pos k)
below_in n k h = tested_in n k h (ltb k n) refl

-- the same for a number that is known to be k
pub below_is : (n k : ℕ) (h : k < n) (y : ℤ) → y ≡ pos k → Some (below n k h) ≡ below_at n y
below_is n k h y e = below_in n k h ∙ ap (below_at n) (sym e)

tested_out : (n k : ℕ) → n ≤ k → (b : Bool) (e : ltb k n ≡ b) → tested n k b e ≡ None
tested_out n k h true e = absurd (omega (arith, ltb-true k n e))
tested_out n k h false e = refl

pub below_out : (n : ℕ) (y : ℤ) → Outside n y → below_at n y ≡ None
below_out n (pos k) (inl h) = absurd (omega (arith, ints, h))
below_out n (pos k) (inr h) = tested_out n k (omega (arith, ints, h)) (ltb k n) refl
below_out n (negsuc k) h = refl

-- y is a number below n, or lies outside
pub data Ranging (n : ℕ) : ℤ → Option (Below n) → Type 0 where
  inside : (x : Below n) → Ranging n (pos x.value) (Some x)
  outside : {y : ℤ} → Outside n y → Ranging n y None

ranging_if : (n k : ℕ) (b : Bool) (e : ltb k n ≡ b) → Ranging n (pos k) (tested n k b e)
ranging_if n k true e = inside (below n k (ltb-true k n e))
ranging_if n k false e = let h : n ≤ k = ltb-false k n e in outside (inr (omega (arith, ints)))

pub ranging : (n : ℕ) (y : ℤ) → Ranging n y (below_at n y)
ranging n (pos k) = ranging_if n k (ltb k n) refl
ranging n (negsuc k) = outside (inl (omega (arith, ints)))

-- what stands for something, stands for a number
ranging_some : (n : ℕ) (y : ℤ) (o : Option (Below n)) (x : Below n) → Ranging n y o → o ≡ Some x → y ≡ pos x.value
ranging_some n y o x (inside z) e = let same : z ≡ x = cc in ap (λ (b : Below n). pos b.value) same
ranging_some n y o x (outside h) e = let z : ◌≡◌ {A = ℕ} 0 1 = cc in absurd (omega arith)

pub below_some : (n : ℕ) (y : ℤ) (x : Below n) → below_at n y ≡ Some x → y ≡ pos x.value
below_some n y x e = ranging_some n y (below_at n y) x (ranging n y) e

ranging_none : (n : ℕ) (y : ℤ) (o : Option (Below n)) → Ranging n y o → o ≡ None → Outside n y
ranging_none n y o (inside x) e = let z : ◌≡◌ {A = ℕ} 0 1 = cc in absurd (omega arith)
ranging_none n y o (outside h) e = h

pub below_none : (n : ℕ) (y : ℤ) → below_at n y ≡ None → Outside n y
below_none n y e = ranging_none n y (below_at n y) (ranging n y) e
