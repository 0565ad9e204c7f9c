-- What is said where a script cannot be read.
use Rattle.std.specs.Prelude.{ℕ, List, codes}
use Rattle.script.specs.declared.expected.Expected.{Expected}
use Rattle.script.specs.declared.expected.Expected.TheVariants.{Keyword, Kind, Number, Counts, Table, End, Bench, Event}

abbrev pub message : Expected → List ℕ
message Keyword = codes "expected bench, turn, load, jog or state"
message Kind = codes "expected a bench kind, site or log"
message Number = codes "expected a number of 32 bits"
message Counts = codes "expected eight counts, numbers of 32 bits"
message Table = codes "expected a table, pairs of hexadecimal digits or -"
message End = codes "expected the end of the line"
message Bench = codes "expected a bench line"
message Event = codes "expected a load, jog, state or bench line"
