-- What is claimed of the definitions. Each claim is named by the contract of a function.
use Rattle.std.specs.Prelude.{◌≡◌, ℕ, ◌≤◌, List}
use Rattle.language.specs.Refusals.{Refused}

-- of what fits, the bytes fix which one it is
abbrev pub FixedBy : {X : Type 0} → (X → List ℕ) → (X → Type 0) → Type 0
FixedBy {X} bytes_of Fits = (x y : X) → Fits x → Fits y → bytes_of x ≡ bytes_of y → x ≡ y

-- no refusal fits the bytes
abbrev pub Accepted : List ℕ → Type 0
Accepted bs = (l c p : ℕ) → Refused bs l c p → ⊥

-- any two refusals that fit are the same layer, cause and place
abbrev pub AtMostOne : (ℕ → ℕ → ℕ → Type 0) → Type 0
AtMostOne Fits = (l c p l' c' p' : ℕ) → Fits l c p → Fits l' c' p' → (l ≡ l') × (c ≡ c') × (p ≡ p')

-- no place is above n
abbrev pub Near : ℕ → (ℕ → ℕ → ℕ → Type 0) → Type 0
Near n Fits = (l c p : ℕ) → Fits l c p → p ≤ n
