-- A record as eight bytes: a letter and seven more. What no field takes is 0. A number is four
-- bytes, the least first.
use Rattle.std.specs.Prelude.{◌≡◌, ℕ, ◌+◌, ◌/◌, ◌%◌, ◌≤◌, List, [], ◌∷◌, length, ℤ, Some, None, FitsSigned, slice_index}
use Rattle.std.specs.Int.{w32}
use Rattle.std.proofs.Common.{of_z}
use Rattle.std.specs.List.{flat_map}
use Rattle.language.specs.declared.instruction.Instruction.{Instruction}
use Rattle.language.specs.declared.instruction.Instruction.TheVariants.{Constant, Move, Difference, Request, Call, Goto, Return, Branch, Raise}
use Rattle.language.specs.declared.record.Record.{Record}
use Rattle.language.specs.declared.record.Record.TheVariants.{Routine, Block, Body}

-- the four bytes of a number that is given without its sign, by its 32 bits
abbrev pub four_bytes : ℕ → List ℕ
four_bytes n = n % 256 ∷ n / 256 % 256 ∷ n / 65536 % 256 ∷ n / 16777216 % 256 ∷ []

abbrev pub number_bytes : ℤ → List ℕ
number_bytes i = four_bytes (of_z w32 i)

-- letters: R 82, B 66; C 67, M 77, S 83, A 65, F 70, G 71, T 84, I 73, X 88
abbrev pub instruction_bytes : Instruction → List ℕ
instruction_bytes (Constant x value) = 67 ∷ x ∷ 0 ∷ 0 ∷ number_bytes value
instruction_bytes (Move x y) = 77 ∷ x ∷ y ∷ 0 ∷ 0 ∷ 0 ∷ 0 ∷ 0 ∷ []
instruction_bytes (Difference x y z) = 83 ∷ x ∷ y ∷ z ∷ 0 ∷ 0 ∷ 0 ∷ 0 ∷ []
instruction_bytes (Request x operation y) = 65 ∷ x ∷ operation ∷ y ∷ 0 ∷ 0 ∷ 0 ∷ 0 ∷ []
instruction_bytes (Call x routine count arguments) = 70 ∷ x ∷ routine ∷ count ∷ arguments
instruction_bytes (Goto label) = 71 ∷ label ∷ 0 ∷ 0 ∷ 0 ∷ 0 ∷ 0 ∷ 0 ∷ []
instruction_bytes (Return x) = 84 ∷ x ∷ 0 ∷ 0 ∷ 0 ∷ 0 ∷ 0 ∷ 0 ∷ []
instruction_bytes (Branch x y then otherwise) = 73 ∷ x ∷ y ∷ then ∷ otherwise ∷ 0 ∷ 0 ∷ 0 ∷ []
instruction_bytes (Raise x) = 88 ∷ x ∷ 0 ∷ 0 ∷ 0 ∷ 0 ∷ 0 ∷ 0 ∷ []

-- a block's third byte is the handler flag: 1 with a handler, whose label and catch variable follow
abbrev pub encode : Record → List ℕ
encode (Routine identifier parameters locals) = 82 ∷ identifier ∷ parameters ∷ locals ∷ 0 ∷ 0 ∷ 0 ∷ 0 ∷ []
encode (Block label None) = 66 ∷ label ∷ 0 ∷ 0 ∷ 0 ∷ 0 ∷ 0 ∷ 0 ∷ []
encode (Block label (Some h)) = 66 ∷ label ∷ 1 ∷ h.label ∷ h.catch ∷ 0 ∷ 0 ∷ 0 ∷ []
encode (Body i) = instruction_bytes i

-- the bytes of a table: those of its records, one after another
unfoldable pub bytes : List Record → List ℕ
bytes t = flat_map encode t

-- of four places, those from n on hold 0
abbrev pub Spare : ℕ → List ℕ → Type 0
Spare n xs = (n ≤ 0 → slice_index xs 0 ≡ 0) × (n ≤ 1 → slice_index xs 1 ≡ 0) × (n ≤ 2 → slice_index xs 2 ≡ 0) × (n ≤ 3 → slice_index xs 3 ≡ 0)

-- the fields are in their ranges: at most four parameters and sixteen variables, operations 0 to 5,
-- at most four arguments, and 0 in the places of those that are not passed
abbrev pub Ranged : Instruction → Type 0
Ranged (Constant x value) = FitsSigned w32 value
Ranged (Move x y) = Unit {0}
Ranged (Difference x y z) = Unit {0}
Ranged (Request x operation y) = operation ≤ 5
Ranged (Call x routine count arguments) = (count ≤ 4) × (length arguments ≡ 4) × Spare count arguments
Ranged (Goto label) = Unit {0}
Ranged (Return x) = Unit {0}
Ranged (Branch x y then otherwise) = Unit {0}
Ranged (Raise x) = Unit {0}

abbrev pub InRange : Record → Type 0
InRange (Routine identifier parameters locals) = (parameters ≤ 4) × (parameters + locals ≤ 16)
InRange (Block label handler) = Unit {0}
InRange (Body i) = Ranged i
