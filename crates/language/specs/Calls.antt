-- The calls of a stand: load, start, go and jog. What a stand is, is said for any kind of stand: it is
-- fixed by how a run begins and by what a beat does, and of how many steps it is.
use Rattle.std.specs.Prelude.{◌≡◌, ℕ, suc, ◌+◌, ◌≤◌, ◌≢◌, List, length, ℤ, pos, Some, None, Option}
use Rattle.bench.specs.Ranges.{Outside}
use Rattle.bench.specs.Responds.{Answer as Reply, Responds}
use Rattle.bench.specs.declared.state.State.{State as Standing}
use Rattle.language.specs.Lines.{Enters}
use Rattle.language.specs.Refusals.{Refused}
use Rattle.language.specs.Runs.{Run, running, ended}
use Rattle.language.specs.WellFormed.{WellFormed, Holds}
use Rattle.language.specs.declared.ending.Ending.{Ending}
use Rattle.language.specs.declared.ending.Ending.TheVariants.{Returned, Raised, Exhausted}
use Rattle.language.specs.declared.record.Record.{Record}
use Rattle.language.specs.declared.refusal.GoRefusal.{GoRefusal}
use Rattle.language.specs.declared.refusal.GoRefusal.TheVariants.{NoRun, BeatCount}
use Rattle.language.specs.declared.refusal.StartRefusal.{StartRefusal}
use Rattle.language.specs.declared.refusal.StartRefusal.TheVariants.{NoTable, ArgumentCount}

pub data Event : Type 0 where
  load : List ℕ → Event
  start : List ℤ → Event
  go : ℤ → Event
  jog : ℤ → ℤ → Event

-- where a run is, as a go tells it: a number and a value
abbrev pub progress_number : {S : Type 0} → Run S → ℕ
progress_number (running s) = 0
progress_number (ended (Returned v)) = 1
progress_number (ended (Raised v)) = 2
progress_number (ended Exhausted) = 3

abbrev pub progress_value : {S : Type 0} → Run S → ℤ
progress_value (running s) = pos 0
progress_value (ended (Returned v)) = v
progress_value (ended (Raised v)) = v
progress_value (ended Exhausted) = pos 0

pub data Answer : Type 0 where
  -- a load or a start is done
  done : Answer
  -- a load is refused, by layer, cause and place
  load_refused : ℕ → ℕ → ℕ → Answer
  start_refused : StartRefusal → Answer
  go_refused : GoRefusal → Answer
  -- a go came to: progress number, value, beats and steps
  went : ℕ → ℤ → ℕ → ℕ → Answer
  -- a jog got the bench's answer
  replied : Reply → Answer

-- the most beats of one go
abbrev pub most_beats : ℕ
most_beats = 100000

-- a stand: the table that is loaded, the run that is started, and the bench
pub record Stand (S : Type 0) : Type 0 where
  pub table : Option (List Record)
  pub run : Option (Run S)
  pub bench : Standing

abbrev pub fresh_stand : {S : Type 0} → Standing → Stand S
fresh_stand b = record { table = None; run = None; bench = b }

module _ {S : Type 0} (begin : List Record → ℕ → List ℤ → S) (Does : List Record → S → Standing → ℕ → Run S → Standing → Type 0) where
  -- at most n beats from a run on: m beats, of k steps in all. Fewer than n only if the run ends
  pub data Goes (t : List Record) : ℕ → Run S → Standing → ℕ → ℕ → Run S → Standing → Type 0 where
    over : {n : ℕ} {e : Ending} {b : Standing} → Goes t n (ended e) b 0 0 (ended e) b
    enough : {s : S} {b : Standing} → Goes t 0 (running s) b 0 0 (running s) b
    more : {n m k l : ℕ} {s : S} {r r' : Run S} {b b' b'' : Standing} → Does t s b k r b' → Goes t n r b' m l r' b'' → Goes t (suc n) (running s) b (suc m) (k + l) r' b''

  -- what a call answers, and the stand that it leaves; a refused call leaves the stand as it was
  pub data Calls (x : Stand S) : Event → Answer → Stand S → Type 0 where
    -- the bytes of a well-formed table replace the table, and drop the run
    loads : {bs : List ℕ} (t : List Record) → Holds bs t → WellFormed t → Calls x (load bs) done (record { table = Some t; run = None; bench = x.bench })
    load_not : {bs : List ℕ} {l c p : ℕ} → Refused bs l c p → Calls x (load bs) (load_refused l c p) x
    -- a new run of routine 0 replaces the run
    starts : {vs : List ℤ} {p q : ℕ} (t : List Record) (j : ℕ) → x.table ≡ Some t → Enters t 0 j p q → length vs ≡ p →
        Calls x (start vs) done (record { table = x.table; run = Some (running (begin t j vs)); bench = x.bench })
    start_nothing : {vs : List ℤ} → x.table ≡ None → Calls x (start vs) (start_refused NoTable) x
    start_miscounted : {vs : List ℤ} {p q : ℕ} (t : List Record) (j : ℕ) → x.table ≡ Some t → Enters t 0 j p q → length vs ≢ p → Calls x (start vs) (start_refused ArgumentCount) x
    -- a run goes on; one that has ended tells its ending again
    goes : {m k : ℕ} {r' : Run S} {b' : Standing} (t : List Record) (r : Run S) (n : ℕ) → x.table ≡ Some t → x.run ≡ Some r → n ≤ most_beats → Goes t n r x.bench m k r' b' →
        Calls x (go (pos n)) (went (progress_number r') (progress_value r') m k) (record { table = x.table; run = Some r'; bench = b' })
    go_nowhere : {z : ℤ} → x.run ≡ None → Calls x (go z) (go_refused NoRun) x
    go_too_far : {z : ℤ} (r : Run S) → x.run ≡ Some r → Outside (suc most_beats) z → Calls x (go z) (go_refused BeatCount) x
    -- the bench is asked, run or no run
    jogs : {op y : ℤ} {a : Reply} {b' : Standing} → Responds x.bench op y a b' → Calls x (jog op y) (replied a) (record { table = x.table; run = x.run; bench = b' })
