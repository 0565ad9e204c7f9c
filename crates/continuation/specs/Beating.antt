-- A beat that is under way.
use Rattle.std.specs.Prelude.{ℕ, List}
use Rattle.bench.specs.declared.state.State.{State as Standing}
use Rattle.language.specs.Configurations.{Configuration}
use Rattle.language.specs.Following.{Inside}
use Rattle.language.specs.Runs.{Run}
use Rattle.language.specs.declared.record.Record.{Record}

-- k steps of some beat of t are made, and led to r, on a bench in state c
pub record Midway (t : List Record) (k : ℕ) (r : Run Configuration) (c : Standing) : Type 0 where
  pub opened : Configuration
  pub bench : Standing
  pub inside : Inside t opened bench k r c
