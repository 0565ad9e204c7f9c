-- What is claimed of the translation. Each claim is named by the contract of a function.
use Rattle.std.specs.Prelude.{◌≡◌, ℕ, suc, ◌+◌, ◌*◌, ◌≤◌, true, false, List, [], ◌∷◌, length, pos, Some, None, Option}
use Rattle.std.specs.List.{slice_get}
use Rattle.language.specs.declared.handler.Handler.{Handler}
use Rattle.language.specs.declared.instruction.Instruction.{Instruction}
use Rattle.language.specs.declared.instruction.Instruction.TheVariants.{Request, Call, Return}
use Rattle.language.specs.declared.operation.Operation.TheVariants.{Set, Ask, Save, Enter, Resume, Throw}
use Rattle.language.specs.declared.record.Record.{Record}
use Rattle.language.specs.declared.record.Record.TheVariants.{Routine, Body}
use Rattle.language.specs.declared.word.Word.{Word}
use Rattle.language.specs.Rows.{byte}
use Rattle.language.specs.Lines.{line, lines, Enters, Heads}
use Rattle.language.specs.Translation.{capital, small, address, block_address_of, routine_address_of, words, translation}
use Rattle.language.specs.Code.{word_bytes, code}

-- the words ws stand at the addresses from a on
abbrev pub Stand : (ℕ → Option Word) → ℕ → List Word → Type 0
Stand at a [] = Unit {0}
Stand at a (w ∷ ws) = (at a ≡ Some w) × Stand at (suc a) ws

-- each record's words stand at its address
abbrev pub Placed : List Record → Type 0
Placed t = (i r n : ℕ) (h : Option Handler) (x : Record) → slice_get (lines t) i ≡ Some (line r n h x) → Stand (slice_get (translation t)) (address t i) (words t r h x)

-- at the address a word stands that opens a beat
pub record Opens (t : List Record) (a : ℕ) : Type 0 where
  pub word : Word
  pub there : slice_get (translation t) a ≡ Some word
  pub opens : word.opens ≡ true

-- a beat is opened at the first word of each instruction, and nowhere else
pub record Opened (t : List Record) : Type 0 where
  pub each : (i : ℕ) (y : Instruction) → slice_get t i ≡ Some (Body y) → Opens t (address t i)
  pub only : (a : ℕ) → Opens t a → (i : ℕ) × (y : Instruction) × (slice_get t i ≡ Some (Body y)) × (address t i ≡ a)

-- a block begins with a beat at its address; a routine's entry at the routine's address, past a word for each local
pub record Begun (t : List Record) : Type 0 where
  pub block : (r l j : ℕ) (h : Option Handler) → Heads t r l j h → Opens t (block_address_of t r l)
  pub entry : (g j p q : ℕ) → Enters t g j p q → Opens t (routine_address_of t g + q)

-- the letter of a word is a capital, Z or before it, exactly where the word opens a beat
pub record Lettered (w : Word) : Type 0 where
  pub capital : w.opens ≡ true → byte (word_bytes w) 0 ≤ 90
  pub small : w.opens ≡ false → 97 ≤ byte (word_bytes w) 0

-- how far the translation goes: three words a record at most, and thirteen more a routine
pub record Held (t : List Record) : Type 0 where
  pub words : length (translation t) ≤ 976
  pub bytes : length (code t) ≡ 8 * length (translation t)

-- a routine that calls another, which picks; in words as they stand at the addresses 0 to 7
abbrev pub picking : List Record
picking = Routine 0 1 1 ∷ Body (Call 1 1 1 (0 ∷ 0 ∷ 0 ∷ 0 ∷ [])) ∷ Body (Return 1) ∷ Routine 1 1 1 ∷ Body (Request 1 2 0) ∷ Body (Return 1) ∷ []

abbrev pub picking_words : List Word
picking_words =
    small (Set 1 (pos 0))
    ∷ capital (Save 1 None)
    ∷ small (Enter 1 4 (0 ∷ 0 ∷ 0 ∷ 0 ∷ []))
    ∷ capital (Resume 1)
    ∷ small (Set 1 (pos 0))
    ∷ capital (Ask 1 2 0 16)
    ∷ small (Throw 16)
    ∷ capital (Resume 1)
    ∷ []
