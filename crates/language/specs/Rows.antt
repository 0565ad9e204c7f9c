-- The rows of some bytes, eight to a row, and what is asked of a row by itself: a letter that is
-- known, fields within their ranges, and 0 in every byte that no field takes.
use Rattle.std.specs.Prelude.{◌≡◌, ℕ, ◌+◌, ◌/◌, ◌%◌, ◌<◌, ◌≤◌, ◌⊎◌, List, [], ◌∷◌, length, slice_index}
use Rattle.std.specs.Simd.{first_chunks}
use Rattle.language.specs.Bytes.{Spare}

abbrev pub rows : List ℕ → List (List ℕ)
rows bs = first_chunks 8 (length bs / 8) bs

-- 1 to 256 rows, and nothing beside them
abbrev pub Whole : List ℕ → Type 0
Whole bs = (0 < length bs) × (length bs ≤ 2048) × (length bs % 8 ≡ 0)

abbrev pub byte : List ℕ → ℕ → ℕ
byte row k = slice_index row k

-- R, B, C, M, S, A, F, G, T, I, X
abbrev pub Known : List ℕ → Type 0
Known row = (byte row 0 ≡ 82) ⊎ (byte row 0 ≡ 66) ⊎ (byte row 0 ≡ 67) ⊎ (byte row 0 ≡ 77) ⊎ (byte row 0 ≡ 83) ⊎ (byte row 0 ≡ 65)
    ⊎ (byte row 0 ≡ 70) ⊎ (byte row 0 ≡ 71) ⊎ (byte row 0 ≡ 84) ⊎ (byte row 0 ≡ 73) ⊎ (byte row 0 ≡ 88)

-- of R the parameters and all variables, of B the flag, of A the operation, of F the argument count
pub record Within (row : List ℕ) : Type 0 where
  pub routine : byte row 0 ≡ 82 → (byte row 2 ≤ 4) × (byte row 2 + byte row 3 ≤ 16)
  pub block : byte row 0 ≡ 66 → byte row 2 ≤ 1
  pub request : byte row 0 ≡ 65 → byte row 2 ≤ 5
  pub call : byte row 0 ≡ 70 → byte row 3 ≤ 4

-- the bytes from a place on are 0
abbrev pub Zero5 : List ℕ → Type 0
Zero5 row = (byte row 5 ≡ 0) × (byte row 6 ≡ 0) × (byte row 7 ≡ 0)

abbrev pub Zero4 : List ℕ → Type 0
Zero4 row = (byte row 4 ≡ 0) × Zero5 row

abbrev pub Zero3 : List ℕ → Type 0
Zero3 row = (byte row 3 ≡ 0) × Zero4 row

abbrev pub Zero2 : List ℕ → Type 0
Zero2 row = (byte row 2 ≡ 0) × Zero3 row

-- the places of a call's arguments
abbrev pub argument_bytes : List ℕ → List ℕ
argument_bytes row = byte row 4 ∷ byte row 5 ∷ byte row 6 ∷ byte row 7 ∷ []

-- of B without a handler, the handler's bytes too; of F, the places of arguments that are not passed
pub record Clean (row : List ℕ) : Type 0 where
  pub routine : byte row 0 ≡ 82 → Zero4 row
  pub block : byte row 0 ≡ 66 → Zero5 row × (byte row 2 ≡ 0 → Zero3 row)
  pub constant : byte row 0 ≡ 67 → (byte row 2 ≡ 0) × (byte row 3 ≡ 0)
  pub move : byte row 0 ≡ 77 → Zero3 row
  pub difference : byte row 0 ≡ 83 → Zero4 row
  pub request : byte row 0 ≡ 65 → Zero4 row
  pub call : byte row 0 ≡ 70 → Spare (byte row 3) (argument_bytes row)
  pub goto : byte row 0 ≡ 71 → Zero2 row
  pub return : byte row 0 ≡ 84 → Zero2 row
  pub branch : byte row 0 ≡ 73 → Zero5 row
  pub raise : byte row 0 ≡ 88 → Zero2 row
