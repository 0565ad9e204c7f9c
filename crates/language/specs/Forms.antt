-- What a record is to the blocks around it, and which names stand in it.
use Rattle.std.specs.Prelude.{ℕ, Bool, true, false, List, [], ◌∷◌, take, Some, None}
use Rattle.language.specs.declared.instruction.Instruction.{Instruction}
use Rattle.language.specs.declared.instruction.Instruction.TheVariants.{Constant, Move, Difference, Request, Call, Goto, Return, Branch, Raise}
use Rattle.language.specs.declared.record.Record.{Record}
use Rattle.language.specs.declared.record.Record.TheVariants.{Routine, Block, Body}

-- the instruction closes its block
abbrev pub closing : Instruction → Bool
closing (Constant x value) = false
closing (Move x y) = false
closing (Difference x y z) = false
closing (Request x operation y) = false
closing (Call x routine count arguments) = false
closing (Goto label) = true
closing (Return x) = true
closing (Branch x y then otherwise) = true
closing (Raise x) = true

-- the record closes a block; a heading opens one
abbrev pub closes : Record → Bool
closes (Routine identifier parameters locals) = false
closes (Block label handler) = false
closes (Body i) = closing i

-- the record is the heading of a routine, of a block, of either
abbrev pub is_routine : Record → Bool
is_routine (Routine identifier parameters locals) = true
is_routine (Block label handler) = false
is_routine (Body i) = false

abbrev pub is_block : Record → Bool
is_block (Routine identifier parameters locals) = false
is_block (Block label handler) = true
is_block (Body i) = false

abbrev pub is_heading : Record → Bool
is_heading (Routine identifier parameters locals) = true
is_heading (Block label handler) = true
is_heading (Body i) = false

-- the variables that an instruction names; of a call's arguments, those that are passed
abbrev pub named_variables : Instruction → List ℕ
named_variables (Constant x value) = x ∷ []
named_variables (Move x y) = x ∷ y ∷ []
named_variables (Difference x y z) = x ∷ y ∷ z ∷ []
named_variables (Request x operation y) = x ∷ y ∷ []
named_variables (Call x routine count arguments) = x ∷ take count arguments
named_variables (Goto label) = []
named_variables (Return x) = x ∷ []
named_variables (Branch x y then otherwise) = x ∷ y ∷ []
named_variables (Raise x) = x ∷ []

-- the labels that an instruction may go to
abbrev pub named_labels : Instruction → List ℕ
named_labels (Constant x value) = []
named_labels (Move x y) = []
named_labels (Difference x y z) = []
named_labels (Request x operation y) = []
named_labels (Call x routine count arguments) = []
named_labels (Goto label) = label ∷ []
named_labels (Return x) = []
named_labels (Branch x y then otherwise) = then ∷ otherwise ∷ []
named_labels (Raise x) = []

-- the same of any record: a block's handler names its catch variable and its label
abbrev pub variables : Record → List ℕ
variables (Routine identifier parameters locals) = []
variables (Block label None) = []
variables (Block label (Some h)) = h.catch ∷ []
variables (Body i) = named_variables i

abbrev pub labels : Record → List ℕ
labels (Routine identifier parameters locals) = []
labels (Block label None) = []
labels (Block label (Some h)) = h.label ∷ []
labels (Body i) = named_labels i

-- a call: of which routine, with how many arguments
pub data Called : Type 0 where
  called : ℕ → ℕ → Called

abbrev pub named_calls : Instruction → List Called
named_calls (Constant x value) = []
named_calls (Move x y) = []
named_calls (Difference x y z) = []
named_calls (Request x operation y) = []
named_calls (Call x routine count arguments) = called routine count ∷ []
named_calls (Goto label) = []
named_calls (Return x) = []
named_calls (Branch x y then otherwise) = []
named_calls (Raise x) = []

abbrev pub calls : Record → List Called
calls (Routine identifier parameters locals) = []
calls (Block label handler) = []
calls (Body i) = named_calls i
