-- What a run in continuation form keeps, between two beats and inside a beat: it follows a run from the
-- table.
use Rattle.std.specs.Prelude.{◌≡◌, ℕ, ◌+◌, ◌≤◌, List, ℤ}
use Rattle.bench.specs.declared.state.State.{State as Standing}
use Rattle.language.specs.Code.{code}
use Rattle.language.specs.CodeWords.{WordAt}
use Rattle.language.specs.Configurations.{Configuration}
use Rattle.language.specs.Matching.{matching}
use Rattle.language.specs.Reachable.{Reachable}
use Rattle.language.specs.Runs.{State, Run, running, ended}
use Rattle.language.specs.Steps.{Rest, StepBeat}
use Rattle.language.specs.declared.record.Record.{Record}

-- the configuration matches a state that a run from the table can reach
pub record Follows (t : List Record) (s : Configuration) : Type 0 where
  pub state : State
  pub register : ℤ
  pub reachable : Reachable t state
  pub matches : matching t register state ≡ s

abbrev pub FollowsRun : List Record → Run Configuration → Type 0
FollowsRun t (running s) = Follows t s
FollowsRun t (ended e) = Unit {0}

-- some steps are left of a beat, perhaps none, after which the run follows
pub record Going (t : List Record) (r : Run Configuration) (b : Standing) : Type 0 where
  pub left : ℕ
  pub after : Run Configuration
  pub bench : Standing
  pub rest : Rest (WordAt (code t)) r b left after bench
  pub follows : FollowsRun t after

-- k steps of the beat that begins in s, on a bench in state b, are made and led to r, on a bench in
-- state c; with those that are left they are the whole beat, of at most 18 steps
pub record Inside (t : List Record) (s : Configuration) (b : Standing) (k : ℕ) (r : Run Configuration) (c : Standing) : Type 0 where
  pub going : Going t r c
  pub whole : StepBeat (WordAt (code t)) s b (k + going.left) going.after going.bench
  pub few : k + going.left ≤ 18
