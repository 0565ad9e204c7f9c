-- The rules of a step: what a run in configuration s, on a bench in state b, does next. One constructor
-- is one rule. At a w says that the word w stands at address a; where no word stands, no rule fits.
use Rattle.std.specs.Prelude.{◌≡◌, ℕ, suc, ◌<◌, ◌≤◌, Bool, true, false, List, map, length, take, ℤ, pos, Some, None, Ok, Err, Option, int_le, slice_set}
use Rattle.std.specs.List.{slice_get}
use Rattle.bench.specs.Numbers.{fault_number}
use Rattle.bench.specs.Responds.{Responds}
use Rattle.bench.specs.declared.fault.Fault.{Fault}
use Rattle.bench.specs.declared.state.State.{State as Standing}
use Rattle.language.specs.Configurations.{cell_count, Landing, Cell, Configuration, content, moved, faulted, saved, handed}
use Rattle.language.specs.Runs.{Run, running, ended, value, difference, with_arguments}
use Rattle.language.specs.declared.ending.Ending.{Ending}
use Rattle.language.specs.declared.ending.Ending.TheVariants.{Returned, Raised, Exhausted}
use Rattle.language.specs.declared.operation.Operation.{Operation}
use Rattle.language.specs.declared.operation.Operation.TheVariants.{Set, Assign, Subtract, Ask, Save, Enter, Jump, Resume, Test, Throw}
use Rattle.language.specs.declared.word.Word.{Word}

module _ (At : ℕ → Word → Type 0) where
  -- the word at the program counter does o, whether it opens a beat or not
  pub record Fetches (s : Configuration) (o : Operation) : Type 0 where
    pub word : Word
    pub there : At s.counter word
    pub does : word.operation ≡ o

  pub data Step (s : Configuration) (b : Standing) : Run Configuration → Standing → Type 0 where
    set_to : {x : ℕ} {i : ℤ} → Fetches s (Set x i) → Step s b (running (moved s (suc s.counter) (slice_set s.variables x i))) b
    assign : {x y : ℕ} → Fetches s (Assign x y) → Step s b (running (moved s (suc s.counter) (slice_set s.variables x (value s.variables y)))) b
    subtract : {x y z : ℕ} → Fetches s (Subtract x y z) →
        Step s b (running (moved s (suc s.counter) (slice_set s.variables x (difference (value s.variables y) (value s.variables z))))) b
    -- the bench is asked and answers a number: the next word is passed over
    answered : {x op y c : ℕ} {n : ℤ} {b' : Standing} → Fetches s (Ask x op y c) → Responds b (pos op) (value s.variables y) (Ok n) b' →
        Step s b (running (moved s (suc (suc s.counter)) (slice_set s.variables x n))) b'
    -- the bench is asked and faults: the fault's number is caught, and the next word runs
    fault : {x op y c : ℕ} {f : Fault} {b' : Standing} → Fetches s (Ask x op y c) → Responds b (pos op) (value s.variables y) (Err f) b' →
        Step s b (running (faulted s c (fault_number f))) b'
    -- the next cell is filled, and becomes the continuation; with a catch variable the handler too
    save : {x : ℕ} {c : Option ℕ} → Fetches s (Save x c) → length s.cells < cell_count → Step s b (running (saved s x c)) b
    -- where no cell is free, the run ends
    exhaust : {x : ℕ} {c : Option ℕ} → Fetches s (Save x c) → cell_count ≤ length s.cells → Step s b (ended Exhausted) b
    -- a routine is entered with its arguments, and the other variables are cleared
    enter : {n a : ℕ} {ys : List ℕ} → Fetches s (Enter n a ys) → Step s b (running (moved s a (with_arguments (map (value s.variables) (take n ys))))) b
    jump : {a : ℕ} → Fetches s (Jump a) → Step s b (running (moved s a s.variables)) b
    -- a result is handed to the continuation: its rest goes on
    resume : {x : ℕ} {c : Cell} (i : ℕ) → Fetches s (Resume x) → s.continuation ≡ Some i → slice_get s.cells i ≡ Some c →
        Step s b (running (handed s i c c.result c.rest (value s.variables x))) b
    -- to the outermost continuation: the run ends
    finish : {x : ℕ} → Fetches s (Resume x) → s.continuation ≡ None → Step s b (ended (Returned (value s.variables x))) b
    -- a raised value is handed to the handler: it lands there
    throw : {x : ℕ} {c : Cell} {l : Landing} (i : ℕ) → Fetches s (Throw x) → s.handler ≡ Some i → slice_get s.cells i ≡ Some c → c.landing ≡ Some l →
        Step s b (running (handed s i c l.catch l.address (content s x))) b
    -- to the outermost handler: the run ends
    uncaught : {x : ℕ} → Fetches s (Throw x) → s.handler ≡ None → Step s b (ended (Raised (content s x))) b
    -- signed numbers are compared: the next word, or the one after it
    test : {x y : ℕ} → Fetches s (Test x y) → int_le (value s.variables x) (value s.variables y) ≡ true → Step s b (running (moved s (suc s.counter) s.variables)) b
    test_not : {x y : ℕ} → Fetches s (Test x y) → int_le (value s.variables x) (value s.variables y) ≡ false → Step s b (running (moved s (suc (suc s.counter)) s.variables)) b

  -- n steps, one after another
  pub data Chain : ℕ → Run Configuration → Standing → Run Configuration → Standing → Type 0 where
    still : {r : Run Configuration} {b : Standing} → Chain 0 r b r b
    then : {n : ℕ} {s : Configuration} {r r' : Run Configuration} {b b' b'' : Standing} → Step s b r b' → Chain n r b' r' b'' → Chain (suc n) (running s) b r' b''

  -- the word at the program counter opens a beat, or goes on with one
  pub record Marks (s : Configuration) (opens : Bool) : Type 0 where
    pub word : Word
    pub there : At s.counter word
    pub is : word.opens ≡ opens

  -- the n steps that a beat still makes: up to a word that opens a beat, or to an ending
  pub data Rest : Run Configuration → Standing → ℕ → Run Configuration → Standing → Type 0 where
    over : {e : Ending} {b : Standing} → Rest (ended e) b 0 (ended e) b
    opens : {s : Configuration} {b : Standing} → Marks s true → Rest (running s) b 0 (running s) b
    small : {n : ℕ} {s : Configuration} {r r' : Run Configuration} {b b' b'' : Standing} → Marks s false → Step s b r b' → Rest r b' n r' b'' → Rest (running s) b (suc n) r' b''

  -- a beat of n steps: one at a word that opens it, then the rest
  pub data StepBeat (s : Configuration) (b : Standing) : ℕ → Run Configuration → Standing → Type 0 where
    beat : {n : ℕ} {r r' : Run Configuration} {b' b'' : Standing} → Marks s true → Step s b r b' → Rest r b' n r' b'' → StepBeat s b (suc n) r' b''
