-- What is made of the eight bytes of a record.
use Rattle.std.specs.Prelude.{◌≡◌, ℕ, List, [], ◌∷◌, Ok, Err, Result}
use Rattle.language.specs.declared.cause.RecordCause.{RecordCause}
use Rattle.language.specs.declared.cause.RecordCause.TheVariants.{Length, Letter, Range, Padding}
use Rattle.language.specs.declared.record.Record.{Record}
use Rattle.language.specs.Bytes.{encode, InRange}
use Rattle.language.specs.Rows.{byte, Known, Within, Clean}

-- the lowest of the three causes of a row
abbrev pub Missed : List ℕ → RecordCause → Type 0
Missed row Length = ⊥
Missed row Letter = Known row → ⊥
Missed row Range = Known row × (Within row → ⊥)
Missed row Padding = Known row × Within row × (Clean row → ⊥)

-- the row stands for the record
pub record StandsFor (row : List ℕ) (x : Record) : Type 0 where
  pub same : encode x ≡ row
  pub ranged : InRange x

abbrev pub Decodes : List ℕ → Result Record RecordCause → Type 0
Decodes row (Ok x) = StandsFor row x
Decodes row (Err k) = Missed row k

-- the same, of the bytes one by one
abbrev pub eight : List ℕ → List ℕ
eight row = byte row 0 ∷ byte row 1 ∷ byte row 2 ∷ byte row 3 ∷ byte row 4 ∷ byte row 5 ∷ byte row 6 ∷ byte row 7 ∷ []

abbrev pub Reads : List ℕ → Result Record RecordCause → Type 0
Reads row (Ok x) = StandsFor (eight row) x
Reads row (Err k) = Missed row k
