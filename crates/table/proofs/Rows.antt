-- What the bytes of a row, read one by one, say of the row.
use Rattle.std.proofs.Common.{◌≡◌, ℕ, List, [], ◌∷◌, length, Ok, Err, Result, sym, refl, ap, ◌∙◌, subst, arith}
use Rattle.language.specs.declared.cause.RecordCause.{RecordCause}
use Rattle.language.specs.declared.cause.RecordCause.TheVariants.{Length, Letter, Range, Padding}
use Rattle.language.specs.declared.record.Record.{Record}
use Rattle.language.specs.Bytes.{encode, InRange}
use Rattle.language.specs.Rows.{Known, Within, Clean}
use Rattle.language.proofs.Bytes.{encode_fixes, row_sound}
use Rattle.table.specs.Rows.{Missed, Decodes, eight, Reads}

pub eight_listed : (row : List ℕ) → length row ≡ 8 → eight row ≡ row
eight_listed [] e = absurd (omega arith)
eight_listed (a ∷ []) e = absurd (omega arith)
eight_listed (a ∷ b ∷ []) e = absurd (omega arith)
eight_listed (a ∷ b ∷ c ∷ []) e = absurd (omega arith)
eight_listed (a ∷ b ∷ c ∷ d ∷ []) e = absurd (omega arith)
eight_listed (a ∷ b ∷ c ∷ d ∷ f ∷ []) e = absurd (omega arith)
eight_listed (a ∷ b ∷ c ∷ d ∷ f ∷ g ∷ []) e = absurd (omega arith)
eight_listed (a ∷ b ∷ c ∷ d ∷ f ∷ g ∷ h ∷ []) e = absurd (omega arith)
eight_listed (a ∷ b ∷ c ∷ d ∷ f ∷ g ∷ h ∷ i ∷ []) e = refl
eight_listed (a ∷ b ∷ c ∷ d ∷ f ∷ g ∷ h ∷ i ∷ j ∷ xs) e = absurd (omega arith)

pub decodes : (row : List ℕ) (r : Result Record RecordCause) → length row ≡ 8 → Reads row r → Decodes row r
decodes row (Ok x) n h = record { same = h.same ∙ eight_listed row n; ranged = h.ranged }
decodes row (Err k) n h = h

-- a row that a record in range has misses nothing
not_missed : (row : List ℕ) (k : RecordCause) → Known row × Within row × Clean row → Missed row k → ⊥
not_missed row Length ok h = h
not_missed row Letter ok h = h ok.0
not_missed row Range ok h = h.1 ok.1
not_missed row Padding ok h = h.2 ok.2

pub inverse : (row : List ℕ) (r : Result Record RecordCause) → Decodes row r → (x : Record) → InRange x → encode x ≡ row → r ≡ Ok x
inverse row (Ok y) h x f e = ap Ok (encode_fixes y x h.ranged f (h.same ∙ sym e))
inverse row (Err k) h x f e = absurd (not_missed row k (subst (λ (v : List ℕ). Known v × Within v × Clean v) e (row_sound x f)) h)
