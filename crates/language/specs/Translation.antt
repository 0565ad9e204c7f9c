-- The continuation form of a table, record by record. How many words a record becomes does not depend
-- on where anything stands, so the address of a record's first word is a sum of sizes.
use Rattle.std.specs.Prelude.{ℕ, zero, suc, ◌+◌, true, false, List, [], ◌∷◌, take, pos, Some, None, Option}
use Rattle.std.specs.List.{flat_map}
use Rattle.language.specs.declared.handler.Handler.{Handler}
use Rattle.language.specs.declared.instruction.Instruction.{Instruction}
use Rattle.language.specs.declared.instruction.Instruction.TheVariants.{Constant, Move, Difference, Request, Call, Goto, Return, Branch, Raise}
use Rattle.language.specs.declared.operation.Operation.{Operation}
use Rattle.language.specs.declared.operation.Operation.TheVariants.{Set, Assign, Subtract, Ask, Save, Enter, Jump, Resume, Test, Throw}
use Rattle.language.specs.declared.record.Record.{Record}
use Rattle.language.specs.declared.record.Record.TheVariants.{Routine, Block, Body}
use Rattle.language.specs.declared.word.Word.{Word}
use Rattle.language.specs.Lines.{Line, line, lines, routine_place, block_place}

-- a word that opens a beat, and one that goes on with it
abbrev pub capital : Operation → Word
capital o = record { opens = true; operation = o }

abbrev pub small : Operation → Word
small o = record { opens = false; operation = o }

-- one word more where there is a handler to jump to
abbrev pub jumps : Option Handler → ℕ
jumps None = 0
jumps (Some h) = 1

-- how many words an instruction becomes, in a block with this handler
abbrev pub instruction_size : Option Handler → Instruction → ℕ
instruction_size h (Constant x value) = 1
instruction_size h (Move x y) = 1
instruction_size h (Difference x y z) = 1
instruction_size h (Request x operation y) = 2
instruction_size h (Call x routine count arguments) = 2 + jumps h
instruction_size h (Goto label) = 1
instruction_size h (Return x) = 1
instruction_size h (Branch x y then otherwise) = 3
instruction_size h (Raise x) = 1 + jumps h

-- and any record: a routine's heading one for each local, a block's none
abbrev pub size : Option Handler → Record → ℕ
size h (Routine identifier parameters locals) = locals
size h (Block label handler) = 0
size h (Body i) = instruction_size h i

abbrev pub total : List Line → ℕ
total [] = 0
total (line r n h x ∷ ls) = size h x + total ls

-- the address of record i: that of its first word, or of the next one that there is
abbrev pub address : List Record → ℕ → ℕ
address t i = total (take i (lines t))

-- the address of a record that was looked for; none has 0, which no well-formed table needs
abbrev pub found_address : List Record → Option ℕ → ℕ
found_address t None = 0
found_address t (Some i) = address t i

abbrev pub block_address_of : List Record → ℕ → ℕ → ℕ
block_address_of t r l = found_address t (block_place t r l)

abbrev pub routine_address_of : List Record → ℕ → ℕ
routine_address_of t g = found_address t (routine_place t g)

-- q words that clear the variables from p on, in rising order
abbrev pub clears : ℕ → ℕ → List Word
clears p zero = []
clears p (suc q) = small (Set p (pos 0)) ∷ clears (suc p) q

-- the words of an instruction of routine r, in a block with this handler
abbrev pub instruction_words : List Record → ℕ → Option Handler → Instruction → List Word
instruction_words t r h (Constant x value) = capital (Set x value) ∷ []
instruction_words t r h (Move x y) = capital (Assign x y) ∷ []
instruction_words t r h (Difference x y z) = capital (Subtract x y z) ∷ []
-- a fault goes to the block's handler, and without one by register 16 to the handler in force
instruction_words t r None (Request x operation y) = capital (Ask x operation y 16) ∷ small (Throw 16) ∷ []
instruction_words t r (Some h) (Request x operation y) = capital (Ask x operation y h.catch) ∷ small (Jump (block_address_of t r h.label)) ∷ []
-- what is raised in the called routine comes back to the block's handler; after these words the rest follows, under that handler
instruction_words t r None (Call x routine count arguments) = capital (Save x None) ∷ small (Enter count (routine_address_of t routine) arguments) ∷ []
instruction_words t r (Some h) (Call x routine count arguments) = capital (Save x (Some h.catch)) ∷ small (Enter count (routine_address_of t routine) arguments) ∷ small (Jump (block_address_of t r h.label)) ∷ []
instruction_words t r h (Goto label) = capital (Jump (block_address_of t r label)) ∷ []
instruction_words t r h (Return x) = capital (Resume x) ∷ []
instruction_words t r h (Branch x y then otherwise) = capital (Test x y) ∷ small (Jump (block_address_of t r then)) ∷ small (Jump (block_address_of t r otherwise)) ∷ []
-- a raise under a handler is a jump, with the variables as they are
instruction_words t r None (Raise x) = capital (Throw x) ∷ []
instruction_words t r (Some h) (Raise x) = capital (Assign h.catch x) ∷ small (Jump (block_address_of t r h.label)) ∷ []

-- the words of a record of routine r, under this handler
abbrev pub words : List Record → ℕ → Option Handler → Record → List Word
words t r h (Routine identifier parameters locals) = clears parameters locals
words t r h (Block label handler) = []
words t r h (Body i) = instruction_words t r h i

abbrev pub line_words : List Record → Line → List Word
line_words t (line r n h x) = words t r h x

-- the words of a table, at the addresses 0, 1, 2 and so on
unfoldable pub translation : List Record → List Word
translation t = flat_map (line_words t) (lines t)
