-- The rules of a beat: what a run in state s, on a bench in state b, does next. One constructor is one
-- rule. Where no instruction stands, no rule fits.
use Rattle.std.specs.Prelude.{◌≡◌, ℕ, ◌+◌, ◌<◌, ◌≤◌, true, false, List, [], ◌∷◌, map, length, take, ℤ, pos, Some, None, Ok, Err, Option, int_le, slice_set}
use Rattle.std.specs.List.{slice_get}
use Rattle.bench.specs.Numbers.{fault_number}
use Rattle.bench.specs.Responds.{Responds}
use Rattle.bench.specs.declared.fault.Fault.{Fault}
use Rattle.bench.specs.declared.state.State.{State as Standing}
use Rattle.language.specs.Lines.{Heads, Enters}
use Rattle.language.specs.Runs.{frame_count, Frame, State, Run, running, ended, value, difference, onward, into, called_into, returned_to, Catcher, catcher, caught}
use Rattle.language.specs.declared.ending.Ending.TheVariants.{Returned, Raised, Exhausted}
use Rattle.language.specs.declared.handler.Handler.{Handler}
use Rattle.language.specs.declared.instruction.Instruction.TheVariants.{Constant, Move, Difference, Request, Call, Goto, Return, Branch, Raise}
use Rattle.language.specs.declared.record.Record.{Record}
use Rattle.language.specs.declared.record.Record.TheVariants.{Body}

module _ (t : List Record) where
  -- a value v is raised
  pub data Raises (s : State) (v : ℤ) : Run State → Type 0 where
    -- the block has a handler: it takes v, and goes on with the variables as they are
    own : {h : Handler} {g : Option Handler} (j : ℕ) → s.handler ≡ Some h → Heads t s.routine h.label j g →
        Raises s v (running (into s (slice_set s.variables h.catch v) j g))
    -- it has none: the newest frame whose block has one takes v, with the variables that it saved; it and
    -- the frames above it are given up
    frames : {c : Catcher} {g : Option Handler} (j : ℕ) → s.handler ≡ None → catcher s.frames ≡ Some c → Heads t c.frame.routine c.handler.label j g →
        Raises s v (running (caught c v j g))
    -- there is no handler: the run ends
    nobody : s.handler ≡ None → catcher s.frames ≡ None → Raises s v (ended (Raised v))

  pub data Beat (s : State) (b : Standing) : Run State → Standing → Type 0 where
    constant : {x : ℕ} {i : ℤ} → slice_get t s.at ≡ Some (Body (Constant x i)) → Beat s b (running (onward s (slice_set s.variables x i))) b
    move : {x y : ℕ} → slice_get t s.at ≡ Some (Body (Move x y)) → Beat s b (running (onward s (slice_set s.variables x (value s.variables y)))) b
    subtract : {x y z : ℕ} → slice_get t s.at ≡ Some (Body (Difference x y z)) →
        Beat s b (running (onward s (slice_set s.variables x (difference (value s.variables y) (value s.variables z))))) b
    -- the bench is asked, and answers a number
    request : {x op y : ℕ} {n : ℤ} {b' : Standing} → slice_get t s.at ≡ Some (Body (Request x op y)) → Responds b (pos op) (value s.variables y) (Ok n) b' →
        Beat s b (running (onward s (slice_set s.variables x n))) b'
    -- the bench is asked, and the fault's number is raised
    fault : {x op y : ℕ} {f : Fault} {b' : Standing} {r : Run State} → slice_get t s.at ≡ Some (Body (Request x op y)) → Responds b (pos op) (value s.variables y) (Err f) b' →
        Raises s (fault_number f) r → Beat s b r b'
    -- a call saves a frame and enters the routine, which has no handler at first
    call : {x g n p q : ℕ} {ys : List ℕ} (j : ℕ) → slice_get t s.at ≡ Some (Body (Call x g n ys)) → length s.frames < frame_count → Enters t g j p q →
        Beat s b (running (called_into s x g j (map (value s.variables) (take n ys)))) b
    -- where no frame is free, it ends the run
    exhaust : {x g n : ℕ} {ys : List ℕ} → slice_get t s.at ≡ Some (Body (Call x g n ys)) → frame_count ≤ length s.frames → Beat s b (ended Exhausted) b
    goto : {l : ℕ} {g : Option Handler} (j : ℕ) → slice_get t s.at ≡ Some (Body (Goto l)) → Heads t s.routine l j g → Beat s b (running (into s s.variables j g)) b
    -- a return takes the newest frame
    return : {x : ℕ} {f : Frame} {fs : List Frame} → slice_get t s.at ≡ Some (Body (Return x)) → s.frames ≡ f ∷ fs → Beat s b (running (returned_to f fs (value s.variables x))) b
    -- where there is none, it ends the run
    finish : {x : ℕ} → slice_get t s.at ≡ Some (Body (Return x)) → s.frames ≡ [] → Beat s b (ended (Returned (value s.variables x))) b
    -- a branch compares signed numbers
    branch : {x y l m : ℕ} {g : Option Handler} (j : ℕ) → slice_get t s.at ≡ Some (Body (Branch x y l m)) → int_le (value s.variables x) (value s.variables y) ≡ true →
        Heads t s.routine l j g → Beat s b (running (into s s.variables j g)) b
    branch_not : {x y l m : ℕ} {g : Option Handler} (j : ℕ) → slice_get t s.at ≡ Some (Body (Branch x y l m)) → int_le (value s.variables x) (value s.variables y) ≡ false →
        Heads t s.routine m j g → Beat s b (running (into s s.variables j g)) b
    raise : {x : ℕ} {r : Run State} → slice_get t s.at ≡ Some (Body (Raise x)) → Raises s (value s.variables x) r → Beat s b r b

  -- how many steps of the second kind of stand belong to a raise, and to a faulted request
  abbrev pub raise_steps : {s : State} {v : ℤ} {r : Run State} → Raises s v r → ℕ
  raise_steps (own j h b) = 2
  raise_steps (frames j h c b) = 2
  raise_steps (nobody h c) = 1

  abbrev pub fault_steps : {s : State} {v : ℤ} {r : Run State} → Raises s v r → ℕ
  fault_steps (own j h b) = 2
  fault_steps (frames j h c b) = 3
  fault_steps (nobody h c) = 2

  -- and to a beat; a call clears the locals of the routine that it enters, one a step
  abbrev pub steps : {s : State} {b b' : Standing} {r : Run State} → Beat s b r b' → ℕ
  steps (constant e) = 1
  steps (move e) = 1
  steps (subtract e) = 1
  steps (request e a) = 1
  steps (fault e a r) = fault_steps r
  steps (call {q = q} j e l n) = 2 + q
  steps (exhaust e l) = 1
  steps (goto j e h) = 1
  steps (return e f) = 1
  steps (finish e f) = 1
  steps (branch j e c h) = 2
  steps (branch_not j e c h) = 2
  steps (raise e r) = raise_steps r
