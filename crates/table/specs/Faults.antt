-- The numbers by which a fault is known outside: its layer, its cause and its place.
use Rattle.std.specs.Prelude.{ℕ, List, ◌++◌, codes, decimal}
use Rattle.language.specs.Causes.{record_number_of, block_number_of, name_number_of}
use Rattle.table.specs.declared.fault.TableFault.{TableFault}
use Rattle.table.specs.declared.fault.TableFault.TheVariants.{Records, Blocks, Names}

abbrev pub fault_layer : TableFault → ℕ
fault_layer (Records f) = 1
fault_layer (Blocks f) = 2
fault_layer (Names f) = 3

abbrev pub fault_cause : TableFault → ℕ
fault_cause (Records f) = record_number_of f.cause
fault_cause (Blocks f) = block_number_of f.cause
fault_cause (Names f) = name_number_of f.cause

abbrev pub fault_place : TableFault → ℕ
fault_place (Records f) = f.place
fault_place (Blocks f) = f.place
fault_place (Names f) = f.place

-- three numbers as they are written, and those of a fault
abbrev pub numbers_text : ℕ → ℕ → ℕ → List ℕ
numbers_text l c p = decimal l ++ (codes " " ++ (decimal c ++ (codes " " ++ decimal p)))

abbrev pub fault_text : TableFault → List ℕ
fault_text f = numbers_text (fault_layer f) (fault_cause f) (fault_place f)
