-- What the translation answers, and what it leaves in the buffer.
use Rattle.std.specs.Prelude.{◌≡◌, ℕ, ◌<◌, ◌≤◌, List, length, ℤ, Ok, Err, Result}
use Rattle.language.specs.declared.record.Record.{Record}
use Rattle.language.specs.Code.{code}
use Rattle.language.specs.Refusals.{Refused}
use Rattle.table.specs.Checked.{Accepts}
use Rattle.table.specs.Faults.{fault_layer, fault_cause, fault_place}
use Rattle.translation.specs.declared.fault.ShortBuffer.{ShortBuffer}
use Rattle.translation.specs.declared.fault.TranslationFault.{TranslationFault}
use Rattle.translation.specs.declared.fault.TranslationFault.TheVariants.{Table, Short}
use Rattle.translation.specs.Buffers.{over}
use Rattle.translation.specs.Numbers.{number}

-- the n bytes of t's code stand at the front of the buffer, and each byte after them is as it was
pub record Written (t : List Record) (out out' : List ℕ) (n : ℕ) : Type 0 where
  pub room : length (code t) ≤ length out
  pub after : out' ≡ over (code t) out
  pub count : n ≡ length (code t)

-- the buffer has no room for t's code, and each byte is as it was
pub record Unwritten (t : List Record) (out out' : List ℕ) : Type 0 where
  pub short : length out < length (code t)
  pub same : out' ≡ out

-- of a table
abbrev pub Translates : List Record → List ℕ → List ℕ → Result ℕ ShortBuffer → Type 0
Translates t out out' (Ok n) = Written t out out' n
Translates t out out' (Err s) = Unwritten t out out'

-- of bytes: those of a well-formed table are translated, if there is room; others are refused as by the check, and
-- nothing is written
abbrev pub Answers : List ℕ → List ℕ → List ℕ → Result ℕ TranslationFault → Type 0
Answers bs out out' (Ok n) = (t : List Record) × Accepts bs t × Written t out out' n
Answers bs out out' (Err (Table f)) = Refused bs (fault_layer f) (fault_cause f) (fault_place f) × (out' ≡ out)
Answers bs out out' (Err Short) = (t : List Record) × Accepts bs t × Unwritten t out out'

-- the number is that of an answer that fits
pub record Told (bs out out' : List ℕ) (i : ℤ) : Type 0 where
  pub answer : Result ℕ TranslationFault
  pub fits : Answers bs out out' answer
  pub is : i ≡ number answer

-- whatever is told of some bytes and a buffer is the same number, and leaves the same buffer
abbrev pub OneAnswer : List ℕ → List ℕ → Type 0
OneAnswer bs out = (out₁ out₂ : List ℕ) (i j : ℤ) → Told bs out out₁ i → Told bs out out₂ j → (i ≡ j) × (out₁ ≡ out₂)
