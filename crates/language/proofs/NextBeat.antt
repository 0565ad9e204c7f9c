-- The rules of a beat: of a state that a run can reach one fits, and never more than one; and what a
-- beat leaves can be reached.
use Rattle.std.proofs.Common.{◌≡◌, ℕ, ◌+◌, ◌<◌, ◌≤◌, Bool, true, false, cond, ltb, ◌⊎◌, List, [], ◌∷◌, map, length, take, set, ℤ, pos, Some, None, Ok, Err, Option, sym, refl, ap, ◌∙◌, subst, inl, inr, arith}
use lib.Signed.{le_z}
use Rattle.std.specs.List.{slice_get}
use Rattle.std.proofs.lemmas.Bool.{lt-ltb, le-ltb, cases_lt}
use Rattle.bench.specs.Numbers.{fault_number}
use Rattle.bench.specs.Respond.{Outcome, respond}
use Rattle.bench.specs.Responds.{Answer, Responds}
use Rattle.bench.specs.declared.state.State.{State as Standing}
use Rattle.bench.proofs.Rules.{by_rule, respond_responds}
use Rattle.language.specs.BeatLaws.{OneBeat, StaysReachable, FewSteps}
use Rattle.language.specs.Beats.{Raises, own, frames, nobody, Beat, constant, move, subtract, request, fault, call, exhaust, goto, return, finish, branch, branch_not, raise, raise_steps, fault_steps}
use Rattle.language.specs.Forms.{closing}
use Rattle.language.specs.Lines.{line, lines, routine_place, block_place, Heads}
use Rattle.language.specs.Reachable.{Stands, Resumed, Reachable, ReachableRun}
use Rattle.language.specs.Runs.{frame_count, Frame, State, Run, running, ended, value, difference, onward, into, called_into, returned_to, Catcher, catcher, caught}
use Rattle.language.specs.WellFormed.{WellFormed, HasBlock, HasRoutine}
use Rattle.language.specs.declared.ending.Ending.TheVariants.{Returned, Raised, Exhausted}
use Rattle.language.specs.declared.handler.Handler.{Handler}
use Rattle.language.specs.declared.instruction.Instruction.{Instruction}
use Rattle.language.specs.declared.instruction.Instruction.TheVariants.{Constant, Move, Difference, Request, Call, Goto, Return, Branch, Raise}
use Rattle.language.specs.declared.record.Record.{Record}
use Rattle.language.specs.declared.record.Record.TheVariants.{Routine, Block, Body}
use Rattle.language.proofs.Flow.{flows, handled, block_stands, routine_stands}
use Rattle.language.proofs.Frames.{catches}
use Rattle.language.proofs.Lines.{line_record}
use Rattle.language.proofs.Lists.{all_nth}

module _ (t : List Record) where
  -- where each record leads, as a function; where no rule fits it says something that does not matter
  abbrev handler_at : Option Record → Option Handler
  handler_at None = None
  handler_at (Some (Routine g p q)) = None
  handler_at (Some (Block l h)) = h
  handler_at (Some (Body i)) = None

  abbrev to_block : State → List ℤ → Option ℕ → Run State
  to_block s vs None = ended Exhausted
  to_block s vs (Some j) = running (into s vs j (handler_at (slice_get t j)))

  abbrev to_catcher : Catcher → ℤ → Option ℕ → Run State
  to_catcher c v None = ended Exhausted
  to_catcher c v (Some j) = running (caught c v j (handler_at (slice_get t j)))

  abbrev to_handler : State → ℤ → Option Handler → Option Catcher → Run State
  to_handler s v (Some h) c = to_block s (set s.variables h.catch v) (block_place t s.routine h.label)
  to_handler s v None (Some c) = to_catcher c v (block_place t c.frame.routine c.handler.label)
  to_handler s v None None = ended (Raised v)

  abbrev to_answer : State → ℕ → Answer → Run State
  to_answer s x (Ok n) = running (onward s (set s.variables x n))
  to_answer s x (Err f) = to_handler s (fault_number f) s.handler (catcher s.frames)

  abbrev to_routine : State → ℕ → ℕ → List ℤ → Option ℕ → Run State
  to_routine s x g vs None = ended Exhausted
  to_routine s x g vs (Some j) = running (called_into s x g j vs)

  abbrev to_frame : ℤ → List Frame → Run State
  to_frame v [] = ended (Returned v)
  to_frame v (f ∷ fs) = running (returned_to f fs v)

  abbrev leads : State → Standing → Instruction → Run State × Standing
  leads s b (Constant x i) = (running (onward s (set s.variables x i)), b)
  leads s b (Move x y) = (running (onward s (set s.variables x (value s.variables y))), b)
  leads s b (Difference x y z) = (running (onward s (set s.variables x (difference (value s.variables y) (value s.variables z)))), b)
  leads s b (Request x op y) = (to_answer s x (respond b (pos op) (value s.variables y)).0, (respond b (pos op) (value s.variables y)).1)
  leads s b (Call x g n ys) = (cond (ltb (length s.frames) frame_count) (to_routine s x g (map (value s.variables) (take n ys)) (routine_place t g)) (ended Exhausted), b)
  leads s b (Goto l) = (to_block s s.variables (block_place t s.routine l), b)
  leads s b (Return x) = (to_frame (value s.variables x) s.frames, b)
  leads s b (Branch x y l m) = (to_block s s.variables (block_place t s.routine (cond (le_z (value s.variables x) (value s.variables y)) l m)), b)
  leads s b (Raise x) = (to_handler s (value s.variables x) s.handler (catcher s.frames), b)

  module _ (s : State) where
    raises_leads : {v : ℤ} {r : Run State} → Raises t s v r → to_handler s v s.handler (catcher s.frames) ≡ r
    raises_leads (own j eh b) = let f = b.first in let h = b.there in cc
    raises_leads (frames j eh c b) = let f = b.first in let h = b.there in cc
    raises_leads (nobody eh c) = cc

    beat_leads : {b b' : Standing} {r : Run State} → Beat t s b r b' → (x : Instruction) → slice_get t s.at ≡ Some (Body x) → leads s b x ≡ (r, b')
    beat_leads (constant e) x d = cc
    beat_leads (move e) x d = cc
    beat_leads (subtract e) x d = cc
    beat_leads {b = b} (request {op = op} {y = y} e a) x d =
        let o = by_rule b (pos op) (value s.variables y) _ _ a in
        let u = ap (λ (p : Outcome). p.0) o in
        let v = ap (λ (p : Outcome). p.1) o in
        cc
    beat_leads {b = b} (fault {op = op} {y = y} e a q) x d =
        let o = by_rule b (pos op) (value s.variables y) _ _ a in
        let u = ap (λ (p : Outcome). p.0) o in
        let v = ap (λ (p : Outcome). p.1) o in
        let w = raises_leads q in
        cc
    beat_leads (call j e l b) x d = let q = lt-ltb (length s.frames) frame_count l in let f = b.first in cc
    beat_leads (exhaust e l) x d = let q = le-ltb (length s.frames) frame_count l in cc
    beat_leads (goto j e b) x d = let f = b.first in let h = b.there in cc
    beat_leads (return e f) x d = cc
    beat_leads (finish e f) x d = cc
    beat_leads (branch j e c b) x d = let f = b.first in let h = b.there in cc
    beat_leads (branch_not j e c b) x d = let f = b.first in let h = b.there in cc
    beat_leads (raise e q) x d = let w = raises_leads q in cc

    -- a beat is made at an instruction
    pub beat_at : {b b' : Standing} {r : Run State} → Beat t s b r b' → (x : Instruction) × (slice_get t s.at ≡ Some (Body x))
    beat_at (constant e) = (_, e)
    beat_at (move e) = (_, e)
    beat_at (subtract e) = (_, e)
    beat_at (request e a) = (_, e)
    beat_at (fault e a q) = (_, e)
    beat_at (call j e l b) = (_, e)
    beat_at (exhaust e l) = (_, e)
    beat_at (goto j e b) = (_, e)
    beat_at (return e f) = (_, e)
    beat_at (finish e f) = (_, e)
    beat_at (branch j e c b) = (_, e)
    beat_at (branch_not j e c b) = (_, e)
    beat_at (raise e q) = (_, e)

    pub beat_once : {b e e' : Standing} {r r' : Run State} → Beat t s b r e → Beat t s b r' e' → ◌≡◌ {A = Run State × Standing} (r', e') (r, e)
    beat_once β β' = let d = beat_at β in sym (beat_leads β' d.0 d.1) ∙ beat_leads β d.0 d.1

  abbrev SomeBeat : State → Standing → Type 0
  SomeBeat s b = (o : Run State × Standing) × Beat t s b o.0 o.1

  module _ (ok : WellFormed t) (s : State) (here : Reachable t s) where
    some_raise : (v : ℤ) → (r : Run State) × Raises t s v r
    some_raise v = by s.handler refl (catcher s.frames) refl
      where
        by : (h : Option Handler) → s.handler ≡ h → (c : Option Catcher) → catcher s.frames ≡ c → (r : Run State) × Raises t s v r
        by (Some h) eh c ec =
            let at = subst (λ k. slice_get (lines t) s.at ≡ Some (line s.routine here.stands.size k (Body here.stands.instruction))) eh here.stands.is in
            let f = handled t ok s.at s.routine here.stands.size h (Body here.stands.instruction) at in
            (_, own f.at eh f.here)
        by None eh (Some c) ec =
            let d = (catches t s.frames c here.resumed ec).resumes in
            let f = handled t ok d.call c.frame.routine d.size c.handler (Body (Call d.result d.routine d.count d.arguments)) d.is in
            (_, frames f.at eh ec f.here)
        by None eh None ec = (_, nobody eh ec)

    some_request : (b : Standing) (x op y : ℕ) → slice_get t s.at ≡ Some (Body (Request x op y)) → (a : Answer) (b' : Standing) → Responds b (pos op) (value s.variables y) a b' → SomeBeat s b
    some_request b x op y e (Ok n) b' h = (_, request e h)
    some_request b x op y e (Err f) b' h = let d = some_raise (fault_number f) in ((d.0, b'), fault e h d.1)

    some_return : (b : Standing) (x : ℕ) → slice_get t s.at ≡ Some (Body (Return x)) → (fs : List Frame) → s.frames ≡ fs → SomeBeat s b
    some_return b x e [] q = (_, finish e q)
    some_return b x e (f ∷ fs) q = (_, return e q)

    some_branch : (b : Standing) (x y l m : ℕ) → slice_get t s.at ≡ Some (Body (Branch x y l m)) → HasBlock t s.routine l → HasBlock t s.routine m → (c : Bool) → le_z (value s.variables x) (value s.variables y) ≡ c → SomeBeat s b
    some_branch b x y l m e f g true q = (_, branch f.at e q f.here)
    some_branch b x y l m e f g false q = (_, branch_not g.at e q g.here)

    some_call : (b : Standing) (x g n : ℕ) (ys : List ℕ) → slice_get t s.at ≡ Some (Body (Call x g n ys)) → HasRoutine t g n → (length s.frames < frame_count) ⊎ (frame_count ≤ length s.frames) → SomeBeat s b
    some_call b x g n ys e f (inl l) = (_, call f.at e l f.here)
    some_call b x g n ys e f (inr l) = (_, exhaust e l)

    some_at : (b : Standing) (n : ℕ) (x : Instruction) → slice_get (lines t) s.at ≡ Some (line s.routine n s.handler (Body x)) → slice_get t s.at ≡ Some (Body x) → SomeBeat s b
    some_at b n (Constant x i) l e = (_, constant e)
    some_at b n (Move x y) l e = (_, move e)
    some_at b n (Difference x y z) l e = (_, subtract e)
    some_at b n (Request x op y) l e = some_request b x op y e (respond b (pos op) (value s.variables y)).0 (respond b (pos op) (value s.variables y)).1 (respond_responds b (pos op) (value s.variables y))
    some_at b n (Call x g c ys) l e = some_call b x g c ys e (ok.named.calls s.at s.routine n s.handler (Body (Call x g c ys)) l).0 (cases_lt (length s.frames) frame_count)
    some_at b n (Goto m) l e = let f = (ok.named.labels s.at s.routine n s.handler (Body (Goto m)) l).0 in (_, goto f.at e f.here)
    some_at b n (Return x) l e = some_return b x e s.frames refl
    some_at b n (Branch x y m k) l e = let f = ok.named.labels s.at s.routine n s.handler (Body (Branch x y m k)) l in some_branch b x y m k e f.0 f.1.0 (le_z (value s.variables x) (value s.variables y)) refl
    some_at b n (Raise x) l e = let d = some_raise (value s.variables x) in ((d.0, b), raise e d.1)

    pub some_beat : (b : Standing) → SomeBeat s b
    some_beat b =
        let w = here.stands in
        some_at b w.size w.instruction w.is (line_record t 0 0 None s.at s.routine w.size s.handler (Body w.instruction) w.is)

    -- what a beat leaves
    raises_on : {v : ℤ} {r : Run State} → Raises t s v r → ReachableRun t r
    raises_on (own {h = h} {g = g} j eh b) = record { stands = block_stands t ok s.routine h.label j g b; resumed = here.resumed; few = here.few }
    raises_on (frames {c = c} {g = g} j eh ec b) =
        let d = catches t s.frames c here.resumed ec in
        record { stands = block_stands t ok c.frame.routine c.handler.label j g b; resumed = d.below; few = omega (arith, d.fewer, here.few) }
    raises_on (nobody eh ec) = tt

    line_here : (x : Instruction) → slice_get t s.at ≡ Some (Body x) → slice_get (lines t) s.at ≡ Some (line s.routine here.stands.size s.handler (Body x))
    line_here x e =
        let w = here.stands.is in
        let d = line_record t 0 0 None s.at s.routine here.stands.size s.handler (Body here.stands.instruction) w in
        let q : here.stands.instruction ≡ x = cc in
        cc

    goes_on : (vs : List ℤ) (x : Instruction) → slice_get t s.at ≡ Some (Body x) → closing x ≡ false → Reachable t (onward s vs)
    goes_on vs x e c = record { stands = flows t ok s.at s.routine here.stands.size s.handler (Body x) (line_here x e) c; resumed = here.resumed; few = here.few }

    goes_into : (vs : List ℤ) {l j : ℕ} {g : Option Handler} → Heads t s.routine l j g → Reachable t (into s vs j g)
    goes_into vs {l} {j} {g} b = record { stands = block_stands t ok s.routine l j g b; resumed = here.resumed; few = here.few }

    goes_back : (v : ℤ) (f : Frame) (fs : List Frame) → s.frames ≡ f ∷ fs → Reachable t (returned_to f fs v)
    goes_back v f fs e =
        let k : Resumed t (f ∷ fs) = subst (Resumed t) e here.resumed in
        let d = k.0 in
        let on = flows t ok d.call f.routine d.size f.handler (Body (Call d.result d.routine d.count d.arguments)) d.is refl in
        record { stands = subst (Stands t f.routine f.handler) (sym d.after) on; resumed = k.1; few = omega (arith, here.few, ap length e) }

    pub beat_on : {b b' : Standing} {r : Run State} → Beat t s b r b' → ReachableRun t r
    beat_on (constant e) = goes_on _ _ e refl
    beat_on (move e) = goes_on _ _ e refl
    beat_on (subtract e) = goes_on _ _ e refl
    beat_on (request e a) = goes_on _ _ e refl
    beat_on (fault e a q) = raises_on q
    beat_on (call {x = x} {g = g} {n = n} {p = p} {q = q} {ys = ys} j e l b) =
        record { stands = routine_stands t ok g j p q b; resumed = (record { call = s.at; size = here.stands.size; result = x; routine = g; count = n; arguments = ys; after = refl; is = line_here (Call x g n ys) e }, here.resumed); few = l }
    beat_on (exhaust e l) = tt
    beat_on (goto j e b) = goes_into _ b
    beat_on (return {f = f} {fs = fs} e q) = goes_back _ f fs q
    beat_on (finish e f) = tt
    beat_on (branch j e c b) = goes_into _ b
    beat_on (branch_not j e c b) = goes_into _ b
    beat_on (raise e q) = raises_on q

pub one_beat : OneBeat
one_beat t ok s h b = let o = some_beat t ok s h b in (o.0, o.1, λ p β. beat_once t s o.1 β)

pub stays_reachable : StaysReachable
stays_reachable t ok s h b b' r β = beat_on t ok s h β

module _ (t : List Record) where
  raise_few : {s : State} {v : ℤ} {r : Run State} (q : Raises t s v r) → (1 ≤ raise_steps t q) × (raise_steps t q ≤ 18)
  raise_few (own j h b) = (omega arith, omega arith)
  raise_few (frames j h c b) = (omega arith, omega arith)
  raise_few (nobody h c) = (omega arith, omega arith)

  fault_few : {s : State} {v : ℤ} {r : Run State} (q : Raises t s v r) → (1 ≤ fault_steps t q) × (fault_steps t q ≤ 18)
  fault_few (own j h b) = (omega arith, omega arith)
  fault_few (frames j h c b) = (omega arith, omega arith)
  fault_few (nobody h c) = (omega arith, omega arith)

pub few_steps : FewSteps
few_steps t ok s b b' r (constant e) = (omega arith, omega arith)
few_steps t ok s b b' r (move e) = (omega arith, omega arith)
few_steps t ok s b b' r (subtract e) = (omega arith, omega arith)
few_steps t ok s b b' r (request e a) = (omega arith, omega arith)
few_steps t ok s b b' r (fault e a q) = fault_few t q
few_steps t ok s b b' r (call {g = g} {p = p} {q = q} j e l d) =
    let w = all_nth _ t j (Routine g p q) ok.legible.ranged d.there in
    let few : p + q ≤ 16 = w.1 in
    (omega arith, omega arith)
few_steps t ok s b b' r (exhaust e l) = (omega arith, omega arith)
few_steps t ok s b b' r (goto j e h) = (omega arith, omega arith)
few_steps t ok s b b' r (return e f) = (omega arith, omega arith)
few_steps t ok s b b' r (finish e f) = (omega arith, omega arith)
few_steps t ok s b b' r (branch j e c h) = (omega arith, omega arith)
few_steps t ok s b b' r (branch_not j e c h) = (omega arith, omega arith)
few_steps t ok s b b' r (raise e q) = raise_few t q
