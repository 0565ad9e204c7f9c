-- What a lookup answers.
use Rattle.std.specs.Prelude.{◌≡◌, ℕ, ◌<◌, List, Some, None, Option}
use Rattle.std.specs.List.{slice_get}

-- no entry below n has what is sought
pub record NoneBelow {E : Type 0} (P : E → Type 0) (es : List E) (n : ℕ) : Type 0 where
  pub none : (k : ℕ) (e : E) → k < n → slice_get es k ≡ Some e → P e → ⊥

-- the entry at i has it
pub record Hit {E : Type 0} (P : E → Type 0) (es : List E) (i : ℕ) : Type 0 where
  pub entry : E
  pub at : slice_get es i ≡ Some entry
  pub has : P entry

-- the first place at which an entry has it, or that no entry does
abbrev pub Finds : {E : Type 0} → (E → Type 0) → List E → Option ℕ → Type 0
Finds {E} P es None = (k : ℕ) (e : E) → slice_get es k ≡ Some e → P e → ⊥
Finds P es (Some i) = Hit P es i × NoneBelow P es i

-- the first entry that has it, or that none does
abbrev pub Gets : {E : Type 0} → (E → Type 0) → List E → Option E → Type 0
Gets P es None = Finds P es None
Gets P es (Some e) = (i : ℕ) × (slice_get es i ≡ Some e) × Finds P es (Some i)
