-- What a stand of the code stands for in the rules, and the answers of its calls.
use Rattle.std.specs.Prelude.{ℕ, List, Some, None, Ok, Err, Option, Result}
use Rattle.bench.specs.declared.state.State.{State as Standing}
use Rattle.direct.specs.Keeping.{run_at}
use Rattle.direct.specs.Programs.{records_in}
use Rattle.direct.specs.declared.gone.Gone.{Gone}
use Rattle.direct.specs.declared.loaded.Loaded.{Loaded}
use Rattle.direct.specs.declared.run.Run.{Run as Started}
use Rattle.direct.specs.declared.stand.Stand.{Stand as Held}
use Rattle.language.specs.Calls.{Answer, done, load_refused, start_refused, go_refused, went, Stand, progress_number, progress_value}
use Rattle.language.specs.Progress.{run_of}
use Rattle.language.specs.Runs.{State, Run}
use Rattle.language.specs.declared.record.Record.{Record}
use Rattle.language.specs.declared.refusal.GoRefusal.{GoRefusal}
use Rattle.language.specs.declared.refusal.StartRefusal.{StartRefusal}
use Rattle.table.specs.Faults.{fault_layer, fault_cause, fault_place}
use Rattle.table.specs.declared.fault.TableFault.{TableFault}

abbrev pub table_in : Option Loaded → Option (List Record)
table_in None = None
table_in (Some l) = Some (records_in l.program)

abbrev pub started : Option Started → Option (Run State)
started None = None
started (Some r) = Some (run_at r)

abbrev pub run_in : Option Loaded → Option (Run State)
run_in None = None
run_in (Some l) = started l.run

-- the stand of the rules that holds what is loaded, on a bench
abbrev pub stand_with : Option Loaded → Standing → Stand State
stand_with l b = record { table = table_in l; run = run_in l; bench = b }

-- the stand of the rules; state tells what a bench stands for
abbrev pub stand_of : {B : Type 0} → (B → Standing) → Held B → Stand State
stand_of state x = stand_with x.loaded (state x.bench)

abbrev pub load_answer : Result (Unit {0}) TableFault → Answer
load_answer (Ok d) = done
load_answer (Err f) = load_refused (fault_layer f) (fault_cause f) (fault_place f)

abbrev pub start_answer : Result (Unit {0}) StartRefusal → Answer
start_answer (Ok d) = done
start_answer (Err r) = start_refused r

-- the steps that belong to the beats are not told
abbrev pub go_answer : Result Gone GoRefusal → ℕ → Answer
go_answer (Ok g) k = went (progress_number (run_of g.progress)) (progress_value (run_of g.progress)) g.beats k
go_answer (Err r) k = go_refused r
