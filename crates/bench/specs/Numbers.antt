-- The number that each fault and each refusal is known by outside.
use Rattle.std.specs.Prelude.{ℤ, pos}
use Rattle.bench.specs.declared.fault.Fault.{Fault}
use Rattle.bench.specs.declared.fault.Fault.TheVariants.{NoOperation, NoSite, NoAngle, NoFeeder, NozzleFull, FeederEmpty, NozzleEmpty, SiteTaken}
use Rattle.bench.specs.declared.refusal.SetUpRefusal.{SetUpRefusal}
use Rattle.bench.specs.declared.refusal.SetUpRefusal.TheVariants.{CountOutOfRange}
use Rattle.bench.specs.declared.refusal.ShiftRefusal.{ShiftRefusal}
use Rattle.bench.specs.declared.refusal.ShiftRefusal.TheVariants.{ShiftOutOfRange}

abbrev pub fault_number : Fault → ℤ
fault_number NoOperation = pos 40
fault_number NoSite = pos 41
fault_number NoAngle = pos 42
fault_number NoFeeder = pos 43
fault_number NozzleFull = pos 44
fault_number FeederEmpty = pos 45
fault_number NozzleEmpty = pos 46
fault_number SiteTaken = pos 47

abbrev pub set_up_number : SetUpRefusal → ℤ
set_up_number CountOutOfRange = pos 48

abbrev pub shift_number : ShiftRefusal → ℤ
shift_number ShiftOutOfRange = pos 49
