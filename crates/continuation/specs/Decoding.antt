-- What is made of the eight bytes of a word.
use Rattle.std.specs.Prelude.{◌≡◌, ℕ, ◌⊎◌, List, ◌∷◌, Some, None, Option, ◌≢◌}
use Rattle.table.specs.Rows.{eight}
use Rattle.language.specs.Code.{letter, fields, word_bytes}
use Rattle.language.specs.CodeWords.{Encodable, EncodableWord}
use Rattle.language.specs.Rows.{byte, Zero2, Zero3, Zero4, Zero5}
use Rattle.language.specs.declared.operation.Operation.{Operation}
use Rattle.language.specs.declared.word.Word.{Word}

-- the bytes are those of the word; or they are those of no word
abbrev pub Decodes : List ℕ → Option Word → Type 0
Decodes row (Some w) = EncodableWord w × (word_bytes w ≡ row)
Decodes row None = (w : Word) → EncodableWord w → word_bytes w ≢ row

-- C, M, S, A, L without and with a catch variable, F, J, T, I, H
abbrev pub Form : List ℕ → Type 0
Form row = ((byte row 0 ≡ 67) × (byte row 2 ≡ 0) × (byte row 3 ≡ 0))
    ⊎ ((byte row 0 ≡ 77) × Zero3 row)
    ⊎ ((byte row 0 ≡ 83) × Zero4 row)
    ⊎ ((byte row 0 ≡ 65) × Zero5 row)
    ⊎ ((byte row 0 ≡ 76) × Zero2 row)
    ⊎ ((byte row 0 ≡ 76) × (byte row 2 ≡ 1) × Zero4 row)
    ⊎ (byte row 0 ≡ 70)
    ⊎ ((byte row 0 ≡ 74) × Zero3 row)
    ⊎ ((byte row 0 ≡ 84) × Zero2 row)
    ⊎ ((byte row 0 ≡ 73) × Zero3 row)
    ⊎ ((byte row 0 ≡ 72) × Zero2 row)

-- the bytes, one by one, are the letter and the fields of the operation; or they are of no form
abbrev pub Reads : List ℕ → Option Operation → Type 0
Reads row (Some o) = Encodable o × (letter o ∷ fields o ≡ eight row)
Reads row None = Form row → ⊥
