-- The numbers by which an answer of the translation is known outside.
use Rattle.std.specs.Prelude.{ℕ, List, ◌+◌, ◌*◌, ℤ, pos, neg_ℤ, Ok, Err, Result}
use Rattle.table.specs.Faults.{fault_layer, fault_cause, fault_place, numbers_text}
use Rattle.translation.specs.declared.fault.TranslationFault.{TranslationFault}
use Rattle.translation.specs.declared.fault.TranslationFault.TheVariants.{Table, Short}

abbrev pub refusal_layer : TranslationFault → ℕ
refusal_layer (Table f) = fault_layer f
refusal_layer Short = 4

abbrev pub refusal_cause : TranslationFault → ℕ
refusal_cause (Table f) = fault_cause f
refusal_cause Short = 16

abbrev pub refusal_place : TranslationFault → ℕ
refusal_place (Table f) = fault_place f
refusal_place Short = 0

-- the three as they are written
abbrev pub refusal_text : TranslationFault → List ℕ
refusal_text f = numbers_text (refusal_layer f) (refusal_cause f) (refusal_place f)

-- the one number that a caller gets: how many bytes were written, or below 0 the cause in thousands and the place
abbrev pub number : Result ℕ TranslationFault → ℤ
number (Ok n) = pos n
number (Err f) = neg_ℤ (pos (refusal_cause f * 1000 + refusal_place f))
