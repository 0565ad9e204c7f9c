-- The words of a beat: where they stand, where they jump to, and what the clearing words do.
use Rattle.std.proofs.Common.{◌≡◌, ℕ, zero, suc, ◌+◌, ◌-◌, ◌≤◌, true, List, length, get_or, set, replicate, ℤ, pos, Some, None, Option, sym, refl, ap, ◌∙◌, subst, arith}
use Rattle.std.specs.List.{slice_get}
use Rattle.std.proofs.lemmas.List.{set-get_or, get_or-append_right}
use Rattle.bench.specs.declared.state.State.{State as Standing}
use Rattle.language.specs.Configurations.{Configuration, moved}
use Rattle.language.specs.Lines.{line, lines, Heads}
use Rattle.language.specs.Matching.{matching}
use Rattle.language.specs.Reachable.{Stands, Reachable}
use Rattle.language.specs.Runs.{variable_count, State, Run, running, value, with_arguments}
use Rattle.language.specs.Steps.{Fetches, Step, set_to, jump, Marks, Rest, opens, small, StepBeat, beat}
use Rattle.language.specs.Translated.{Stand, Opens}
use Rattle.language.specs.Translation.{capital, small as low, instruction_size, address, found_address, block_address_of, clears, instruction_words, translation}
use Rattle.language.specs.WellFormed.{WellFormed}
use Rattle.language.specs.declared.handler.Handler.{Handler}
use Rattle.language.specs.declared.instruction.Instruction.{Instruction}
use Rattle.language.specs.declared.operation.Operation.{Operation}
use Rattle.language.specs.declared.operation.Operation.TheVariants.{Set, Jump}
use Rattle.language.specs.declared.record.Record.{Record}
use Rattle.language.specs.declared.record.Record.TheVariants.{Block, Body}
use Rattle.language.specs.declared.word.Word.{Word}
use Rattle.language.proofs.Flow.{block_stands}
use Rattle.language.proofs.Lines.{line_record, record_line}
use Rattle.language.proofs.Words.{placed, address_next, each_opens}

zeros : (m i : ℕ) → get_or (replicate m (pos 0)) i (pos 0) ≡ pos 0
zeros zero i = refl
zeros (suc m) zero = refl
zeros (suc m) (suc i) = zeros m i

-- a variable that is no argument is 0
pub cleared : (vs : List ℤ) (i : ℕ) → length vs ≤ i → value (with_arguments vs) i ≡ pos 0
cleared vs i l = get_or-append_right vs (replicate (variable_count - length vs) (pos 0)) (length vs) i (pos 0) refl l ∙ zeros (variable_count - length vs) (i - length vs)

module _ (t : List Record) where
  -- where an instruction stands, a beat is opened
  pub stands_open : (r i : ℕ) (h : Option Handler) → Stands t r h i → Opens t (address t i)
  stands_open r i h s = each_opens t i s.instruction (line_record t 0 0 None i r s.size h (Body s.instruction) s.is)

  -- a block's address is that of its first instruction
  pub block_first : (r l j : ℕ) (g : Option Handler) → Heads t r l j g → block_address_of t r l ≡ address t (suc j)
  block_first r l j g b =
      let e = record_line t 0 0 None j (Block l g) b.there in
      let n = address_next t j e.r e.n e.h (Block l g) e.is in
      ap (found_address t) b.first ∙ omega arith

  pub block_opens : WellFormed t → (r l j : ℕ) (g : Option Handler) → Heads t r l j g → Opens t (address t (suc j))
  block_opens ok r l j g b = stands_open r (suc j) g (block_stands t ok r l j g b)

module _ (t : List Record) (s : State) (here : Reachable t s) where
  -- the line at which the state stands
  pub line_here : (x : Instruction) → slice_get t s.at ≡ Some (Body x) → (h : Option Handler) → s.handler ≡ h → slice_get (lines t) s.at ≡ Some (line s.routine here.stands.size h (Body x))
  line_here x e h eh =
      let w = here.stands.is in
      let d = line_record t 0 0 None s.at s.routine here.stands.size s.handler (Body here.stands.instruction) w in
      let q : here.stands.instruction ≡ x = cc in
      cc

  pub words_here : (x : Instruction) → slice_get t s.at ≡ Some (Body x) → (h : Option Handler) → s.handler ≡ h → Stand (slice_get (translation t)) (address t s.at) (instruction_words t s.routine h x)
  words_here x e h eh = placed t s.at s.routine here.stands.size h (Body x) (line_here x e h eh)

  pub address_after : (x : Instruction) → slice_get t s.at ≡ Some (Body x) → (h : Option Handler) → s.handler ≡ h → address t (suc s.at) ≡ address t s.at + instruction_size h x
  address_after x e h eh = address_next t s.at s.routine here.stands.size h (Body x) (line_here x e h eh)

module _ (t : List Record) (At : ℕ → Word → Type 0) (reads : (a : ℕ) (w : Word) → slice_get (translation t) a ≡ Some w → At a w) where
  -- the word at the program counter, as the rules ask for it
  pub fetches : (s : Configuration) (w : Word) → slice_get (translation t) s.counter ≡ Some w → Fetches At s w.operation
  fetches s w e = record { word = w; there = reads s.counter w e; does = refl }

  pub marks : (s : Configuration) (w : Word) → slice_get (translation t) s.counter ≡ Some w → Marks At s w.opens
  marks s w e = record { word = w; there = reads s.counter w e; is = refl }

  pub marks_open : (s : Configuration) → Opens t s.counter → Marks At s true
  marks_open s o = record { word = o.word; there = reads s.counter o.word o.there; is = o.opens }

  -- a configuration that equals one at which a beat opens is where the beat before ends
  pub arrives : (b : Standing) (s s' : Configuration) → s ≡ s' → Opens t s'.counter → Rest At (running s) b 0 (running s') b
  arrives b s s' e o = subst (λ z. Rest At (running z) b 0 (running s') b) (sym e) (opens (marks_open s' o))

  -- a beat of one step
  pub single : (s s' : Configuration) (b b' : Standing) (o : Operation) {z : Configuration} → slice_get (translation t) s.counter ≡ Some (capital o) → Step At s b (running z) b' → z ≡ s' → Opens t s'.counter → StepBeat At s b 1 (running s') b'
  single s s' b b' o {z} c σ e p = beat (marks s (capital o) c) σ (arrives b' z s' e p)

  -- a jump ends a beat
  pub jumps : (s s' : Configuration) (b : Standing) (a : ℕ) → slice_get (translation t) s.counter ≡ Some (low (Jump a)) → moved s a s.variables ≡ s' → Opens t s'.counter → Rest At (running s) b 1 (running s') b
  jumps s s' b a c e p = small (marks s (low (Jump a)) c) (jump (fetches s (low (Jump a)) c)) (arrives b (moved s a s.variables) s' e p)

  -- the words that clear variables which are 0 anyhow
  pub clearing : (s : Configuration) (b : Standing) (a p q : ℕ) (r : Run Configuration) → Stand (slice_get (translation t)) a (clears p q) → ((i : ℕ) → p ≤ i → value s.variables i ≡ pos 0) →
      Rest At (running (moved s (a + q) s.variables)) b 0 r b → Rest At (running (moved s a s.variables)) b q r b
  clearing s b a p zero r c z γ = let n : a + 0 ≡ a = omega arith in rw n at γ
  clearing s b a p (suc q) r c z γ =
      let n : a + suc q ≡ suc a + q = omega arith in
      let u : set s.variables p (pos 0) ≡ s.variables = rw (← z p (omega arith)) (set-get_or s.variables p (pos 0)) in
      let m = clearing s b (suc a) (suc p) q r c.1 (λ i l. z i (omega arith)) (rw n at γ) in
      let here = moved s a s.variables in
      small (marks here (low (Set p (pos 0))) c.0) (set_to (fetches here (low (Set p (pos 0))) c.0)) (rw u m)

  -- a jump to a block ends a beat where the block's first instruction stands
  pub lands : WellFormed t → (z : Configuration) (b : Standing) (v : ℤ) (s' : State) (l j : ℕ) (g : Option Handler) → slice_get (translation t) z.counter ≡ Some (low (Jump (block_address_of t s'.routine l))) → Heads t s'.routine l j g → s'.at ≡ suc j →
      moved z (address t (suc j)) z.variables ≡ matching t v s' → Rest At (running z) b 1 (running (matching t v s')) b
  lands ok z b v s' l j g c d ea e =
      let q = block_first t s'.routine l j g d in
      let o = block_opens t ok s'.routine l j g d in
      jumps z (matching t v s') b (block_address_of t s'.routine l) c (cc) (subst (λ i. Opens t (address t i)) (sym ea) o)
