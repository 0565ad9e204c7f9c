-- What a run on a well-formed table keeps: it stands at an instruction of its routine, under the handler
-- of its block; each frame that stands goes on after a call of its own routine.
use Rattle.std.specs.Prelude.{◌≡◌, ℕ, suc, ◌≤◌, List, [], ◌∷◌, length, Some, Option}
use Rattle.std.specs.List.{slice_get}
use Rattle.language.specs.Lines.{line, lines}
use Rattle.language.specs.Runs.{frame_count, Frame, State, Run, running, ended}
use Rattle.language.specs.declared.handler.Handler.{Handler}
use Rattle.language.specs.declared.instruction.Instruction.{Instruction}
use Rattle.language.specs.declared.instruction.Instruction.TheVariants.{Call}
use Rattle.language.specs.declared.record.Record.{Record}
use Rattle.language.specs.declared.record.Record.TheVariants.{Body}

module _ (t : List Record) where
  -- record i is an instruction of routine r, in a block with the handler h
  pub record Stands (r : ℕ) (h : Option Handler) (i : ℕ) : Type 0 where
    pub size : ℕ
    pub instruction : Instruction
    pub is : slice_get (lines t) i ≡ Some (line r size h (Body instruction))

  -- record i comes after a call in routine r, in a block with the handler h
  pub record Resumes (r : ℕ) (h : Option Handler) (i : ℕ) : Type 0 where
    pub call : ℕ
    pub size : ℕ
    pub result : ℕ
    pub routine : ℕ
    pub count : ℕ
    pub arguments : List ℕ
    pub after : i ≡ suc call
    pub is : slice_get (lines t) call ≡ Some (line r size h (Body (Call result routine count arguments)))

  abbrev pub Resumed : List Frame → Type 0
  Resumed [] = Unit {0}
  Resumed (f ∷ fs) = Resumes f.routine f.handler f.next × Resumed fs

  pub record Reachable (s : State) : Type 0 where
    pub stands : Stands s.routine s.handler s.at
    pub resumed : Resumed s.frames
    pub few : length s.frames ≤ frame_count

  abbrev pub ReachableRun : Run State → Type 0
  ReachableRun (running s) = Reachable s
  ReachableRun (ended e) = Unit {0}
