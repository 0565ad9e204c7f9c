-- The routine that a run starts with.
use Rattle.std.specs.Prelude.{ℕ, List}
use Rattle.language.specs.Lines.{Enters}
use Rattle.language.specs.declared.record.Record.{Record}
use Rattle.table.specs.declared.entry_point.Main.{Main}

-- routine 0 has its heading and its parameters as m tells
pub record StartsWith (t : List Record) (m : Main) : Type 0 where
  pub locals : ℕ
  pub here : Enters t 0 m.place m.parameters locals
