-- A word as eight bytes: a letter and seven more. A small letter is its capital's number and 32. What
-- no field takes is 0. An address is two bytes, a number four, the least first.
use Rattle.std.specs.Prelude.{ℕ, ◌+◌, ◌/◌, ◌%◌, cond, List, [], ◌∷◌, Some, None}
use Rattle.std.specs.List.{flat_map}
use Rattle.language.specs.declared.operation.Operation.{Operation}
use Rattle.language.specs.declared.operation.Operation.TheVariants.{Set, Assign, Subtract, Ask, Save, Enter, Jump, Resume, Test, Throw}
use Rattle.language.specs.declared.record.Record.{Record}
use Rattle.language.specs.declared.word.Word.{Word}
use Rattle.language.specs.Bytes.{number_bytes}
use Rattle.language.specs.Translation.{translation}

-- C 67, M 77, S 83, A 65, L 76, F 70, J 74, T 84, I 73, H 72
abbrev pub letter : Operation → ℕ
letter (Set x value) = 67
letter (Assign x y) = 77
letter (Subtract x y z) = 83
letter (Ask x operation y catch) = 65
letter (Save x catch) = 76
letter (Enter count address arguments) = 70
letter (Jump address) = 74
letter (Resume x) = 84
letter (Test x y) = 73
letter (Throw x) = 72

-- of L the flag tells whether there is a catch variable
abbrev pub fields : Operation → List ℕ
fields (Set x value) = x ∷ 0 ∷ 0 ∷ number_bytes value
fields (Assign x y) = x ∷ y ∷ 0 ∷ 0 ∷ 0 ∷ 0 ∷ 0 ∷ []
fields (Subtract x y z) = x ∷ y ∷ z ∷ 0 ∷ 0 ∷ 0 ∷ 0 ∷ []
fields (Ask x operation y catch) = x ∷ operation ∷ y ∷ catch ∷ 0 ∷ 0 ∷ 0 ∷ []
fields (Save x None) = x ∷ 0 ∷ 0 ∷ 0 ∷ 0 ∷ 0 ∷ 0 ∷ []
fields (Save x (Some catch)) = x ∷ 1 ∷ catch ∷ 0 ∷ 0 ∷ 0 ∷ 0 ∷ []
fields (Enter count address arguments) = count ∷ address % 256 ∷ address / 256 ∷ arguments
fields (Jump address) = address % 256 ∷ address / 256 ∷ 0 ∷ 0 ∷ 0 ∷ 0 ∷ 0 ∷ []
fields (Resume x) = x ∷ 0 ∷ 0 ∷ 0 ∷ 0 ∷ 0 ∷ 0 ∷ []
fields (Test x y) = x ∷ y ∷ 0 ∷ 0 ∷ 0 ∷ 0 ∷ 0 ∷ []
fields (Throw x) = x ∷ 0 ∷ 0 ∷ 0 ∷ 0 ∷ 0 ∷ 0 ∷ []

abbrev pub word_bytes : Word → List ℕ
word_bytes w = cond w.opens (letter w.operation) (letter w.operation + 32) ∷ fields w.operation

-- the continuation form of a table, in bytes
unfoldable pub code : List Record → List ℕ
code t = flat_map word_bytes (translation t)
