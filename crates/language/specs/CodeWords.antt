-- Which word stands at an address of some bytes, eight bytes a word; and what is claimed of the bytes of
-- a translation.
use Rattle.std.specs.Prelude.{◌≡◌, ℕ, ◌*◌, ◌<◌, ◌≤◌, List, length, take, drop, Some, None, FitsSigned}
use Rattle.std.specs.Int.{w32}
use Rattle.std.specs.List.{slice_get, AllByRecursion}
use Rattle.language.specs.Code.{word_bytes, code}
use Rattle.language.specs.Configurations.{spare}
use Rattle.language.specs.Runs.{variable_count}
use Rattle.language.specs.Translation.{translation}
use Rattle.language.specs.declared.operation.Operation.{Operation}
use Rattle.language.specs.declared.operation.Operation.TheVariants.{Set, Assign, Subtract, Ask, Save, Enter, Jump, Resume, Test, Throw}
use Rattle.language.specs.declared.record.Record.{Record}
use Rattle.language.specs.declared.word.Word.{Word}

-- the fields are in range: a number of 32 bits, addresses of 16, four places for arguments
abbrev pub Encodable : Operation → Type 0
Encodable (Set x value) = FitsSigned w32 value
Encodable (Assign x y) = Unit {0}
Encodable (Subtract x y z) = Unit {0}
Encodable (Ask x operation y catch) = Unit {0}
Encodable (Save x catch) = Unit {0}
Encodable (Enter count address arguments) = (address < 65536) × (length arguments ≡ 4)
Encodable (Jump address) = address < 65536
Encodable (Resume x) = Unit {0}
Encodable (Test x y) = Unit {0}
Encodable (Throw x) = Unit {0}

abbrev pub EncodableWord : Word → Type 0
EncodableWord w = Encodable w.operation

-- the variables that a word of a translation names are below 16; only a fault on its way, caught or
-- thrown, may be in register 16. Operations of the bench are 0 to 5, and arguments at most four
abbrev pub Limited : Operation → Type 0
Limited (Set x value) = x < variable_count
Limited (Assign x y) = (x < variable_count) × (y < variable_count)
Limited (Subtract x y z) = (x < variable_count) × (y < variable_count) × (z < variable_count)
Limited (Ask x operation y catch) = (x < variable_count) × (operation ≤ 5) × (y < variable_count) × (catch ≤ spare)
Limited (Save x None) = x < variable_count
Limited (Save x (Some catch)) = (x < variable_count) × (catch < variable_count)
Limited (Enter count address arguments) = (count ≤ 4) × AllByRecursion (λ x. x < variable_count) (take count arguments)
Limited (Jump address) = Unit {0}
Limited (Resume x) = x < variable_count
Limited (Test x y) = (x < variable_count) × (y < variable_count)
Limited (Throw x) = x ≤ spare

-- the eight bytes at address a are those of w
pub record WordAt (bs : List ℕ) (a : ℕ) (w : Word) : Type 0 where
  pub ranged : EncodableWord w
  pub here : take 8 (drop (8 * a) bs) ≡ word_bytes w

-- the words in the bytes of a translation are those of the translation, at the same addresses
pub record ReadBack (t : List Record) (a : ℕ) (w : Word) : Type 0 where
  pub read : WordAt (code t) a w → slice_get (translation t) a ≡ Some w
  pub back : slice_get (translation t) a ≡ Some w → WordAt (code t) a w
