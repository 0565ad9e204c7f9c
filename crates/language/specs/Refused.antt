-- The numbers by which the refusals of a stand are known outside.
use Rattle.std.specs.Prelude.{ℤ, pos}
use Rattle.language.specs.declared.refusal.GoRefusal.{GoRefusal}
use Rattle.language.specs.declared.refusal.GoRefusal.TheVariants.{NoRun, BeatCount}
use Rattle.language.specs.declared.refusal.StartRefusal.{StartRefusal}
use Rattle.language.specs.declared.refusal.StartRefusal.TheVariants.{NoTable, ArgumentCount}

abbrev pub start_number : StartRefusal → ℤ
start_number NoTable = pos 20
start_number ArgumentCount = pos 21

abbrev pub go_number : GoRefusal → ℤ
go_number NoRun = pos 22
go_number BeatCount = pos 23
