-- The steps that belong to a beat are fixed by the state and the instruction.
use Rattle.std.proofs.Common.{◌≡◌, ℕ, ◌+◌, cond, ltb, List, length, ℤ, pos, Some, None, Ok, Err, Option, sym, ap, ◌∙◌}
use Rattle.std.specs.List.{slice_get}
use Rattle.std.proofs.lemmas.Bool.{lt-ltb, le-ltb}
use Rattle.bench.specs.Respond.{Outcome, respond}
use Rattle.bench.specs.Responds.{Answer}
use Rattle.bench.specs.declared.state.State.{State as Standing}
use Rattle.bench.proofs.Rules.{by_rule}
use Rattle.language.specs.Beats.{Raises, own, frames, nobody, Beat, constant, move, subtract, request, fault, call, exhaust, goto, return, finish, branch, branch_not, raise, raise_steps, fault_steps, steps}
use Rattle.language.specs.Lines.{routine_place}
use Rattle.language.specs.Runs.{frame_count, State, Run, value, Catcher, catcher}
use Rattle.language.specs.declared.handler.Handler.{Handler}
use Rattle.language.specs.declared.instruction.Instruction.{Instruction}
use Rattle.language.specs.declared.instruction.Instruction.TheVariants.{Constant, Move, Difference, Request, Call, Goto, Return, Branch, Raise}
use Rattle.language.specs.declared.record.Record.{Record}
use Rattle.language.specs.declared.record.Record.TheVariants.{Routine, Block, Body}
use Rattle.language.proofs.NextBeat.{beat_at}

module _ (t : List Record) where
  abbrev raise_cost : Option Handler → Option Catcher → ℕ
  raise_cost (Some h) c = 2
  raise_cost None (Some c) = 2
  raise_cost None None = 1

  abbrev fault_cost : Option Handler → Option Catcher → ℕ
  fault_cost (Some h) c = 2
  fault_cost None (Some c) = 3
  fault_cost None None = 2

  abbrev answer_cost : State → Answer → ℕ
  answer_cost s (Ok n) = 1
  answer_cost s (Err f) = fault_cost s.handler (catcher s.frames)

  abbrev locals_at : Option Record → ℕ
  locals_at None = 0
  locals_at (Some (Routine g p q)) = q
  locals_at (Some (Block l h)) = 0
  locals_at (Some (Body i)) = 0

  abbrev call_cost : Option ℕ → ℕ
  call_cost None = 0
  call_cost (Some j) = 2 + locals_at (slice_get t j)

  abbrev cost : State → Standing → Instruction → ℕ
  cost s b (Constant x i) = 1
  cost s b (Move x y) = 1
  cost s b (Difference x y z) = 1
  cost s b (Request x op y) = answer_cost s (respond b (pos op) (value s.variables y)).0
  cost s b (Call x g n ys) = cond (ltb (length s.frames) frame_count) (call_cost (routine_place t g)) 1
  cost s b (Goto l) = 1
  cost s b (Return x) = 1
  cost s b (Branch x y l m) = 2
  cost s b (Raise x) = raise_cost s.handler (catcher s.frames)

  module _ (s : State) where
    raise_is : {v : ℤ} {r : Run State} (q : Raises t s v r) → raise_steps t q ≡ raise_cost s.handler (catcher s.frames)
    raise_is (own j eh b) = cc
    raise_is (frames j eh c b) = cc
    raise_is (nobody eh c) = cc

    fault_is : {v : ℤ} {r : Run State} (q : Raises t s v r) → fault_steps t q ≡ fault_cost s.handler (catcher s.frames)
    fault_is (own j eh b) = cc
    fault_is (frames j eh c b) = cc
    fault_is (nobody eh c) = cc

    steps_are : {b b' : Standing} {r : Run State} (β : Beat t s b r b') (x : Instruction) → slice_get t s.at ≡ Some (Body x) → steps t β ≡ cost s b x
    steps_are (constant e) x d = cc
    steps_are (move e) x d = cc
    steps_are (subtract e) x d = cc
    steps_are {b = b} (request {op = op} {y = y} e a) x d = let u = ap (λ (p : Outcome). p.0) (by_rule b (pos op) (value s.variables y) _ _ a) in cc
    steps_are {b = b} (fault {op = op} {y = y} e a q) x d = let u = ap (λ (p : Outcome). p.0) (by_rule b (pos op) (value s.variables y) _ _ a) in let w = fault_is q in cc
    steps_are (call j e l b) x d = let q = lt-ltb (length s.frames) frame_count l in let f = b.first in let h = b.there in cc
    steps_are (exhaust e l) x d = let q = le-ltb (length s.frames) frame_count l in cc
    steps_are (goto j e b) x d = cc
    steps_are (return e f) x d = cc
    steps_are (finish e f) x d = cc
    steps_are (branch j e c b) x d = cc
    steps_are (branch_not j e c b) x d = cc
    steps_are (raise e q) x d = let w = raise_is q in cc

    pub steps_once : {b e e' : Standing} {r r' : Run State} (β : Beat t s b r e) (β' : Beat t s b r' e') → steps t β ≡ steps t β'
    steps_once β β' = let d = beat_at t s β in steps_are β d.0 d.1 ∙ sym (steps_are β' d.0 d.1)
