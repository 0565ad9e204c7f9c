-- The bytes of a table as a word: two hexadecimal digits a byte, or a dash where there is no byte.
use Rattle.std.specs.Prelude.{ℕ, ◌+◌, ◌*◌, ◌<◌, cond, List, [], ◌∷◌, codes, nat_lt, slice_index}
use Rattle.std.specs.Char.{digit_value}
use Rattle.script.specs.Words.{Word}

-- pairs of digits, each below 16
abbrev pub Pairs : Word → Type 0
Pairs [] = Unit {0}
Pairs (a ∷ []) = ⊥
Pairs (a ∷ b ∷ w) = (digit_value a < 16) × (digit_value b < 16) × Pairs w

pub data Hex : Word → Type 0 where
  none : Hex (codes "-")
  digits : {w : Word} → Pairs w → Hex w

-- the same, of a word that says nothing else
abbrev pub HexIs : Word → Unit {0} → Type 0
HexIs w u = Hex w

-- what a digit is worth
abbrev pub nibble : ℕ → ℕ
nibble c = cond (nat_lt (digit_value c) 16) (digit_value c) 0

-- what a pair of digits is worth
abbrev pub pair_value : List ℕ → ℕ
pair_value p = nibble (slice_index p 0) * 16 + nibble (slice_index p 1)

-- the bytes that such a word stands for
abbrev pub hex_bytes : Word → List ℕ
hex_bytes [] = []
hex_bytes (a ∷ []) = []
hex_bytes (a ∷ b ∷ w) = (nibble a * 16 + nibble b) ∷ hex_bytes w

-- the bytes of the table in the words of a line: in its second word, if there is one
abbrev pub table_bytes : List Word → List ℕ
table_bytes [] = []
table_bytes (k ∷ []) = []
table_bytes (k ∷ w ∷ ws) = hex_bytes w
