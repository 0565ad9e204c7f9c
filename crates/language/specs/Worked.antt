-- Worked runs: small tables whose runs turn on one rule each, with what both stands have to answer.
use Rattle.std.specs.Prelude.{◌≡◌, ℕ, ◌≤◌, List, [], ◌∷◌, replicate, ℤ, pos, negsuc, Some, None, Ok}
use Rattle.std.proofs.Common.{arith}
use Rattle.bench.specs.Bounds.{feeder_count}
use Rattle.bench.specs.Histories.{History}
use Rattle.bench.specs.Laws.{WorkedReading}
use Rattle.bench.specs.Ranges.{Feeder, below}
use Rattle.bench.specs.SetUps.{SetsUp}
use Rattle.bench.specs.States.{picked}
use Rattle.bench.specs.declared.state.State.{State as Standing}
use Rattle.language.specs.Bytes.{bytes}
use Rattle.language.specs.Calls.{Event, load, start, go, Answer, done, went, most_beats, Stand, fresh_stand, progress_number, progress_value}
use Rattle.language.specs.Continuation.{ContinuationCalls}
use Rattle.language.specs.Direct.{DirectCalls}
use Rattle.language.specs.Runs.{Run, ended, difference}
use Rattle.language.specs.Translated.{picking}
use Rattle.language.specs.declared.ending.Ending.{Ending}
use Rattle.language.specs.declared.ending.Ending.TheVariants.{Returned, Raised, Exhausted}
use Rattle.language.specs.declared.instruction.Instruction.TheVariants.{Constant, Call, Goto, Return, Raise}
use Rattle.language.specs.declared.record.Record.{Record}
use Rattle.language.specs.declared.record.Record.TheVariants.{Routine, Block, Body}

-- a fresh stand on a bench in state b loads the bytes of t, starts it with vs, and goes at most n beats;
-- the load and the start are done, the run ends with e after so many beats and steps, and leaves the
-- bench in state b'
abbrev pub Works : {S : Type 0} → (Stand S → Event → Answer → Stand S → Type 0) → List Record → List ℤ → ℕ → Standing → Ending → ℕ → ℕ → Standing → Type 0
Works {S} Does t vs n b e beats steps b' =
    let over : Run S = ended e in
    History Does (fresh_stand b) (load (bytes t) ∷ start vs ∷ go (pos n) ∷ []) (done ∷ done ∷ went (progress_number over) (progress_value over) beats steps ∷ []) (record { table = Some t; run = Some over; bench = b' })

-- so does a stand of either kind, by its rules, with any go that is long enough
abbrev pub Worked : List Record → List ℤ → Standing → Ending → ℕ → ℕ → Standing → Type 0
Worked t vs b e beats steps b' = (n : ℕ) → beats ≤ n → n ≤ most_beats → Works DirectCalls t vs n b e beats steps b' × Works ContinuationCalls t vs n b e beats steps b'

abbrev pub feeder_3 : Feeder
feeder_3 = below feeder_count 3 (omega arith)

-- R 0 0 1; T 0
abbrev pub returning : List Record
returning = Routine 0 0 1 ∷ Body (Return 0) ∷ []

-- R 0 0 1; G 1; B 1 1 2 0; F 0 1 0; X 0; B 2; T 0; R 1 0 1; C 0 =5; T 0: after the call the block's
-- handler still stands
abbrev pub raising_after_call : List Record
raising_after_call =
    Routine 0 0 1
    ∷ Body (Goto 1)
    ∷ Block 1 (Some (record { label = 2; catch = 0 }))
    ∷ Body (Call 0 1 0 (0 ∷ 0 ∷ 0 ∷ 0 ∷ []))
    ∷ Body (Raise 0)
    ∷ Block 2 None
    ∷ Body (Return 0)
    ∷ Routine 1 0 1
    ∷ Body (Constant 0 (pos 5))
    ∷ Body (Return 0)
    ∷ []

-- R 0 0 2; C 0 =0; G 1; B 1 1 2 1; C 0 =1; X 0; B 2; T 0: the handler sees the variables as they are
abbrev pub raising_after_change : List Record
raising_after_change =
    Routine 0 0 2
    ∷ Body (Constant 0 (pos 0))
    ∷ Body (Goto 1)
    ∷ Block 1 (Some (record { label = 2; catch = 1 }))
    ∷ Body (Constant 0 (pos 1))
    ∷ Body (Raise 0)
    ∷ Block 2 None
    ∷ Body (Return 0)
    ∷ []

-- R 0 0 1; F 0 0 0; T 0: it calls itself for ever
abbrev pub descending : List Record
descending = Routine 0 0 1 ∷ Body (Call 0 0 0 (0 ∷ 0 ∷ 0 ∷ 0 ∷ [])) ∷ Body (Return 0) ∷ []

pub record WorkedRuns : Type 0 where
  pub returns : (b : Standing) → Worked returning [] b (Returned (pos 0)) 1 1 b
  -- a call, and a pick from feeder 3 of a bench just set up with ten parts in each feeder
  pub picks : (b : Standing) → SetsUp (replicate feeder_count (pos 10)) (Ok tt) b → Worked picking (pos 3 ∷ []) b (Returned (pos 9)) 4 6 (picked b feeder_3 9)
  -- there is no feeder 9, and no handler
  pub faults : (b : Standing) → Worked picking (pos 9 ∷ []) b (Raised (pos 43)) 2 5 b
  pub keeps_handler : (b : Standing) → Worked raising_after_call [] b (Returned (pos 5)) 6 9 b
  pub keeps_variables : (b : Standing) → Worked raising_after_change [] b (Returned (pos 1)) 5 6 b
  -- 32 calls of three steps, and the one that finds no room
  pub exhausts : (b : Standing) → Worked descending [] b Exhausted 33 97 b
  -- the least number less 1 is the greatest
  pub wraps : difference (negsuc 2147483647) (pos 1) ≡ pos 2147483647
  -- under a shift of 90 degrees, 270 degrees read as 180
  pub turns : WorkedReading
