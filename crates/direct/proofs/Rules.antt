-- The rules of a beat, from what the machine's moves leave.
use Rattle.std.proofs.Common.{◌≡◌, ℕ, suc, ◌<◌, true, false, List, [], ◌∷◌, map, length, take, set, ℤ, pos, Some, None, Ok, Err, Option, Result, sym, refl, ap, ◌∙◌, subst, arith}
use lib.Signed.{le_z}
use Rattle.bench.proofs.Rules.{respond_responds}
use Rattle.bench.specs.Numbers.{fault_number}
use Rattle.bench.specs.Respond.{respond}
use Rattle.bench.specs.Responds.{Answer, Responds}
use Rattle.bench.specs.declared.fault.Fault.{Fault}
use Rattle.bench.specs.declared.state.State.{State as Standing}
use Rattle.direct.specs.Links.{Leads}
use Rattle.direct.specs.Machines.{entered, Called, Resumed}
use Rattle.direct.specs.Programs.{LinkAt}
use Rattle.direct.specs.declared.link.Link.{Link}
use Rattle.direct.specs.declared.link.Target.{Target}
use Rattle.language.proofs.Flow.{handled}
use Rattle.language.proofs.Frames.{catches}
use Rattle.language.proofs.Lines.{line_record}
use Rattle.language.proofs.Lists.{nth_below}
use Rattle.language.specs.Beats.{Raises, own, frames, nobody, Beat, raise, constant, move, subtract, request, fault, call, exhaust, goto, return, finish, branch, branch_not}
use Rattle.language.specs.Lines.{line, lines, Heads}
use Rattle.language.specs.Reachable.{Resumes, Reachable}
use Rattle.few.specs.declared.full.Full.{Full}
use Rattle.language.specs.Runs.{Frame as Saved, State, Run, running, ended, value, difference, onward, into, called_into, returned_to, Catcher, catcher}
use Rattle.language.specs.WellFormed.{WellFormed}
use Rattle.language.specs.Progress.{progressed}
use Rattle.language.specs.declared.ending.Ending.{Ending}
use Rattle.language.specs.declared.ending.Ending.TheVariants.{Returned, Raised, Exhausted}
use Rattle.language.specs.declared.handler.Handler.{Handler}
use Rattle.language.specs.declared.instruction.Instruction.{Instruction}
use Rattle.language.specs.declared.instruction.Instruction.TheVariants.{Constant, Move, Difference, Request, Call, Goto, Return, Branch, Raise}
use Rattle.language.specs.declared.record.Record.{Record}
use Rattle.language.specs.declared.record.Record.TheVariants.{Body}
use Rattle.std.specs.List.{slice_get}

-- the state in a block that a target leads to
target_into : (t : List Record) (s : State) (vs : List ℤ) (l j : ℕ) (h : Option Handler) (k : Target) → Heads t s.routine l j h → Leads t s.routine l k →
    into s vs j h ≡ record { routine = s.routine; handler = k.handler; at = k.at; variables = vs; frames = s.frames }
target_into t s vs l j h k d leads i =
    record { routine = s.routine; handler = sym (leads.under j h d) i; at = sym (leads.at j h d) i; variables = vs; frames = s.frames }

module _ (t : List Record) (ok : WellFormed t) (s : State) (here : Reachable t s) where
  -- the line that the run stands at
  pub line_at : (x : Instruction) → slice_get t s.at ≡ Some (Body x) → slice_get (lines t) s.at ≡ Some (line s.routine here.stands.size s.handler (Body x))
  line_at x e =
      let w = here.stands.is in
      let d = line_record t 0 0 None s.at s.routine here.stands.size s.handler (Body here.stands.instruction) w in
      let q : here.stands.instruction ≡ x = cc in
      cc

  pub instruction_at : slice_get t s.at ≡ Some (Body here.stands.instruction)
  instruction_at = line_record t 0 0 None s.at s.routine here.stands.size s.handler (Body here.stands.instruction) here.stands.is

  pub at_below : s.at < length t
  at_below = nth_below t s.at (Body here.stands.instruction) instruction_at

  module _ (b : Standing) where
    pub by_goto : (l : ℕ) (k : Link) (s' : State) → slice_get t s.at ≡ Some (Body (Goto l)) → LinkAt t s.at k → s' ≡ entered s k.goes.at k.goes.handler → Beat t s b (running s') b
    by_goto l k s' e links is =
        let at = line_at (Goto l) e in
        let f = (ok.named.labels s.at s.routine here.stands.size s.handler (Body (Goto l)) at).0 in
        let leads = links.names s.routine here.stands.size s.handler (Body (Goto l)) at in
        subst (λ s'. Beat t s b (running s') b) (target_into t s s.variables l f.at f.handler k.goes f.here leads ∙ sym is) (goto f.at e f.here)

    pub by_branch : (x y l m : ℕ) (k : Link) (s' : State) → slice_get t s.at ≡ Some (Body (Branch x y l m)) → LinkAt t s.at k → le_z (value s.variables x) (value s.variables y) ≡ true →
        s' ≡ entered s k.goes.at k.goes.handler → Beat t s b (running s') b
    by_branch x y l m k s' e links c is =
        let at = line_at (Branch x y l m) e in
        let f = (ok.named.labels s.at s.routine here.stands.size s.handler (Body (Branch x y l m)) at).0 in
        let leads = (links.names s.routine here.stands.size s.handler (Body (Branch x y l m)) at).0 in
        subst (λ s'. Beat t s b (running s') b) (target_into t s s.variables l f.at f.handler k.goes f.here leads ∙ sym is) (branch f.at e c f.here)

    pub by_branch_not : (x y l m : ℕ) (k : Link) (s' : State) → slice_get t s.at ≡ Some (Body (Branch x y l m)) → LinkAt t s.at k → le_z (value s.variables x) (value s.variables y) ≡ false →
        s' ≡ entered s k.otherwise.at k.otherwise.handler → Beat t s b (running s') b
    by_branch_not x y l m k s' e links c is =
        let at = line_at (Branch x y l m) e in
        let f = (ok.named.labels s.at s.routine here.stands.size s.handler (Body (Branch x y l m)) at).1.0 in
        let leads = (links.names s.routine here.stands.size s.handler (Body (Branch x y l m)) at).1 in
        subst (λ s'. Beat t s b (running s') b) (target_into t s s.variables m f.at f.handler k.otherwise f.here leads ∙ sym is) (branch_not f.at e c f.here)

    by_call : (x g n : ℕ) (ys : List ℕ) (k : Link) (s' : State) → slice_get t s.at ≡ Some (Body (Call x g n ys)) → LinkAt t s.at k → Called s x g k.goes.at (take n ys) (Ok tt) s' → Beat t s b (running s') b
    by_call x g n ys k s' e links (room, is) =
        let at = line_at (Call x g n ys) e in
        let f = (ok.named.calls s.at s.routine here.stands.size s.handler (Body (Call x g n ys)) at).0 in
        let enters = links.names s.routine here.stands.size s.handler (Body (Call x g n ys)) at in
        let vs = map (value s.variables) (take n ys) in
        let there : called_into s x g f.at vs ≡ s' = ap (λ i. record { routine = g; handler = None; at = i; variables = (called_into s x g f.at vs).variables; frames = (called_into s x g f.at vs).frames }) (sym (enters.at f.at n f.locals f.here)) ∙ sym is in
        subst (λ v. Beat t s b (running v) b) there (call f.at e room f.here)

    by_exhaust : (x g n i : ℕ) (ys zs : List ℕ) (full : Full) (s' : State) → slice_get t s.at ≡ Some (Body (Call x g n ys)) → Called s x g i zs (Err full) s' → Beat t s b (ended Exhausted) b
    by_exhaust x g n i ys zs full s' e (all, is) = exhaust e (omega (arith, all))

    -- a call that is made, or that finds no frame free
    pub by_called : (x g n : ℕ) (ys : List ℕ) (k : Link) (r : Result (Unit {0}) Full) (p : Result (Unit {0}) Ending) (s' : State) → slice_get t s.at ≡ Some (Body (Call x g n ys)) → LinkAt t s.at k →
        ((d : Unit {0}) → r ≡ Ok d → p ≡ Ok d) → ((f : Full) → r ≡ Err f → p ≡ Err Exhausted) → Called s x g k.goes.at (take n ys) r s' → Beat t s b (progressed p s') b
    by_called x g n ys k (Ok d) p s' e links made none c = subst (λ q. Beat t s b (progressed q s') b) (sym (made d refl)) (by_call x g n ys k s' e links c)
    by_called x g n ys k (Err f) p s' e links made none c = subst (λ q. Beat t s b (progressed q s') b) (sym (none f refl)) (by_exhaust x g n k.goes.at ys (take n ys) f s' e c)

  -- the handler of the block takes what is raised
  pub by_own : (v : ℤ) (h : Handler) (k : Link) (vs : List ℤ) (s' : State) → s.handler ≡ Some h → LinkAt t s.at k → vs ≡ set s.variables h.catch v →
      s' ≡ record { routine = s.routine; handler = k.handler.handler; at = k.handler.at; variables = vs; frames = s.frames } → Raises t s v (running s')
  by_own v h k vs s' eh links ev is =
      let x = here.stands.instruction in
      let n = here.stands.size in
      let at : slice_get (lines t) s.at ≡ Some (line s.routine n (Some h) (Body x)) = let w = here.stands.is in cc in
      let f = handled t ok s.at s.routine n h (Body x) at in
      let leads = links.handler s.routine n (Some h) (Body x) at in
      let there = target_into t s (set s.variables h.catch v) h.label f.at f.handler k.handler f.here leads in
      let same = ap (λ (ws : List ℤ). record { routine = s.routine; handler = k.handler.handler; at = k.handler.at; variables = ws; frames = s.frames }) (sym ev) in
      subst (λ w. Raises t s v (running w)) (there ∙ same ∙ sym is) (own f.at eh f.here)

  -- the call that a frame with a handler goes on after
  pub resumes_at : (c : Catcher) → catcher s.frames ≡ Some c → Resumes t c.frame.routine (Some c.handler) c.frame.next
  resumes_at c ec = (catches t s.frames c here.resumed ec).resumes

  pub resumes_below : (c : Catcher) (ec : catcher s.frames ≡ Some c) → ((resumes_at c ec).call < length t) × (c.frame.next ≡ suc (resumes_at c ec).call)
  resumes_below c ec =
      let d = resumes_at c ec in
      (nth_below t d.call _ (line_record t 0 0 None d.call c.frame.routine d.size (Some c.handler) (Body (Call d.result d.routine d.count d.arguments)) d.is), d.after)

  -- the handler of a frame's block takes it
  pub by_frame : (v : ℤ) (c : Catcher) (i : ℕ) (k : Link) (vs : List ℤ) (s' : State) → s.handler ≡ None → catcher s.frames ≡ Some c → c.frame.next ≡ suc i → LinkAt t i k → vs ≡ set c.frame.variables c.handler.catch v →
      s' ≡ record { routine = c.frame.routine; handler = k.handler.handler; at = k.handler.at; variables = vs; frames = c.below } → Raises t s v (running s')
  by_frame v c i k vs s' eh ec next links ev is =
      let d = resumes_at c ec in
      let x = Body (Call d.result d.routine d.count d.arguments) in
      let same : d.call ≡ i = omega (arith, d.after) in
      let f = handled t ok d.call c.frame.routine d.size c.handler x d.is in
      let at = subst (λ j. slice_get (lines t) j ≡ Some (line c.frame.routine d.size (Some c.handler) x)) same d.is in
      let leads = links.handler c.frame.routine d.size (Some c.handler) x at in
      let back : State = record { routine = c.frame.routine; handler = None; at = 0; variables = []; frames = c.below } in
      let there = target_into t back (set c.frame.variables c.handler.catch v) c.handler.label f.at f.handler k.handler f.here leads in
      let vars = ap (λ (ws : List ℤ). record { routine = c.frame.routine; handler = k.handler.handler; at = k.handler.at; variables = ws; frames = c.below }) (sym ev) in
      subst (λ w. Raises t s v (running w)) (there ∙ vars ∙ sym is) (frames f.at eh ec f.here)

-- nobody takes it
pub by_nobody : (t : List Record) (s s' : State) (v w : ℤ) (p : Result (Unit {0}) Ending) → s.handler ≡ None → catcher s.frames ≡ None → p ≡ Err (Raised w) → w ≡ v → Raises t s v (progressed p s')
by_nobody t s s' v w p eh ec ep e = subst (λ q. Raises t s v (progressed q s')) (sym ep) (subst (λ u. Raises t s v (ended (Raised u))) (sym e) (nobody eh ec))

-- a raise, whatever comes of it
pub by_raise : (t : List Record) (s s' : State) (b : Standing) (p q : Result (Unit {0}) Ending) → q ≡ p → (x : ℕ) (v : ℤ) → v ≡ value s.variables x → slice_get t s.at ≡ Some (Body (Raise x)) → Raises t s v (progressed q s') → Beat t s b (progressed p s') b
by_raise t s s' b p q same x v ev e r = subst (λ r. Beat t s b (progressed r s') b) same (raise e (subst (λ w. Raises t s w (progressed q s')) ev r))

-- a variable is set, and the run goes on
module _ (t : List Record) (s s' : State) (b : Standing) (x : ℕ) (v : ℤ) (is : s' ≡ onward s (set s.variables x v)) where
  pub by_constant : (i : ℤ) → v ≡ i → slice_get t s.at ≡ Some (Body (Constant x i)) → Beat t s b (running s') b
  by_constant i ev e = subst (λ u. Beat t s b (running u) b) (ap (λ w. onward s (set s.variables x w)) (sym ev) ∙ sym is) (constant e)

  pub by_move : (y : ℕ) → v ≡ value s.variables y → slice_get t s.at ≡ Some (Body (Move x y)) → Beat t s b (running s') b
  by_move y ev e = subst (λ u. Beat t s b (running u) b) (ap (λ w. onward s (set s.variables x w)) (sym ev) ∙ sym is) (move e)

  pub by_subtract : (y z : ℕ) → v ≡ difference (value s.variables y) (value s.variables z) → slice_get t s.at ≡ Some (Body (Difference x y z)) → Beat t s b (running s') b
  by_subtract y z ev e = subst (λ u. Beat t s b (running u) b) (ap (λ w. onward s (set s.variables x w)) (sym ev) ∙ sym is) (subtract e)

-- a return, whatever the table
module _ (t : List Record) (s s' : State) (b : Standing) (x : ℕ) (v : ℤ) (ev : v ≡ value s.variables x) (e : slice_get t s.at ≡ Some (Body (Return x))) where
  pub by_return : (f : Saved) (fs : List Saved) → s.frames ≡ f ∷ fs → s' ≡ returned_to f fs v → Beat t s b (running s') b
  by_return f fs at is = subst (λ u. Beat t s b (running u) b) (ap (returned_to f fs) (sym ev) ∙ sym is) (return e at)

  pub by_finish : (p : Result (Unit {0}) Ending) → s.frames ≡ [] → p ≡ Err (Returned v) → Beat t s b (progressed p s') b
  by_finish p none ep = subst (λ q. Beat t s b (progressed q s') b) (sym ep) (subst (λ u. Beat t s b (ended (Returned u)) b) (sym ev) (finish e none))

  -- a return, whatever comes of it
  pub by_resumed : (r : Option (Unit {0})) (p : Result (Unit {0}) Ending) → ((d : Unit {0}) → r ≡ Some d → p ≡ Ok d) → (r ≡ None → p ≡ Err (Returned v)) → Resumed s v r s' → Beat t s b (progressed p s') b
  by_resumed (Some d) p some none (f, fs, at, is) = subst (λ q. Beat t s b (progressed q s') b) (sym (some d refl)) (by_return f fs at is)
  by_resumed None p some none (at, is) = by_finish p at (none refl)

-- the bench's answer, as its contract tells it
module _ (t : List Record) (s : State) (b b' : Standing) (x op y : ℕ) (e : slice_get t s.at ≡ Some (Body (Request x op y))) (a : Answer) (o n : ℤ)
    (asked : o ≡ pos op) (with : n ≡ value s.variables y) (answer : a ≡ (respond b o n).0) (after : b' ≡ (respond b o n).1) where
  responds : Responds b (pos op) (value s.variables y) a b'
  responds =
      subst (λ u. Responds b u (value s.variables y) a b') asked
      (subst (λ u. Responds b o u a b') with
      (subst (λ u. Responds b o n u b') (sym answer)
      (subst (λ u. Responds b o n (respond b o n).0 u) (sym after) (respond_responds b o n))))

  pub by_answer : (v : ℤ) (s' : State) → a ≡ Ok v → s' ≡ onward s (set s.variables x v) → Beat t s b (running s') b'
  by_answer v s' is there = subst (λ u. Beat t s b (running u) b') (sym there) (request e (subst (λ c. Responds b (pos op) (value s.variables y) c b') is responds))

  pub by_fault : (f : Fault) (v : ℤ) (r : Run State) → a ≡ Err f → v ≡ fault_number f → Raises t s v r → Beat t s b r b'
  by_fault f v r is same raised = fault e (subst (λ c. Responds b (pos op) (value s.variables y) c b') is responds) (subst (λ w. Raises t s w r) same raised)
