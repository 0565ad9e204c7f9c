-- What a go does to a run: a chain of beats, of some steps.
use Rattle.std.specs.Prelude.{ℕ, List}
use Rattle.bench.specs.declared.state.State.{State as Standing}
use Rattle.direct.specs.declared.gone.Gone.{Gone}
use Rattle.language.specs.Direct.{DirectGoes}
use Rattle.language.specs.Progress.{progressed}
use Rattle.language.specs.Runs.{State, running}
use Rattle.language.specs.declared.record.Record.{Record}

-- at most n beats from state s and bench b came to this, and leave the state s', if the run has not
-- ended, and the bench b'
pub record Went (t : List Record) (n : ℕ) (s : State) (b : Standing) (g : Gone) (s' : State) (b' : Standing) : Type 0 where
  pub steps : ℕ
  pub goes : DirectGoes t n (running s) b g.beats steps (progressed g.progress s') b'
