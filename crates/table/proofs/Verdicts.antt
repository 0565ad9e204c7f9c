-- From what each layer answers to what the check does.
use Rattle.std.proofs.Common.{◌≡◌, ℕ, suc, ◌+◌, ◌≤◌, cond, List, [], ◌∷◌, length, None, Ok, Err, count_by, Option, Result, refl, arith}
use Rattle.std.proofs.lemmas.List.Sums.{sum_by-cons}
use Rattle.language.specs.declared.cause.BlockCause.{BlockCause}
use Rattle.language.specs.declared.cause.NameCause.{NameCause}
use Rattle.language.specs.declared.cause.RecordCause.{RecordCause}
use Rattle.language.specs.declared.handler.Handler.{Handler}
use Rattle.language.specs.declared.record.Record.{Record}
use Rattle.language.specs.declared.record.Record.TheVariants.{Routine, Block, Body}
use Rattle.language.specs.Forms.{is_routine, is_block}
use Rattle.language.specs.Lines.{lines_after}
use Rattle.language.specs.WellFormed.{Holds, WellFormedBytes}
use Rattle.language.specs.Causes.{record_number_of, block_number_of, name_number_of, InRecords, InBlocks, InNames}
use Rattle.language.specs.Refusals.{First, BlocksClear, NamesClear, Refused, by_records, by_blocks, by_names}
use Rattle.language.proofs.Blocks.{blocked}
use Rattle.language.proofs.Bytes.{records_clear}
use Rattle.language.proofs.Near.{refused_near}
use Rattle.language.proofs.Refusals.{well_formed, refused_once, sound_accepted}
use Rattle.table.specs.declared.fault.TableFault.{TableFault}
use Rattle.table.specs.declared.fault.TableFault.TheVariants.{Records, Blocks, Names}
use Rattle.table.specs.declared.fault.Located.{Located}
use Rattle.table.specs.declared.table.Table.{Table}
use Rattle.table.specs.Checked.{records_of, Accepts, Checked, Only, Exactly}
use Rattle.table.specs.Entries.{picked, routine_entry, block_entry, routine_entries, block_entries}
use Rattle.table.specs.Faults.{fault_layer, fault_cause, fault_place}

-- as many entries as headings
routines_counted : (i : ℕ) (t : List Record) → length (picked routine_entry i t) ≡ count_by is_routine t
routines_counted i [] = refl
routines_counted i (Routine g p q ∷ t) = let n = routines_counted (suc i) t in let s = sum_by-cons (λ x. cond (is_routine x) 1 0) (Routine g p q) t in omega arith
routines_counted i (Block l h ∷ t) = let n = routines_counted (suc i) t in let s = sum_by-cons (λ x. cond (is_routine x) 1 0) (Block l h) t in omega arith
routines_counted i (Body b ∷ t) = let n = routines_counted (suc i) t in let s = sum_by-cons (λ x. cond (is_routine x) 1 0) (Body b) t in omega arith

blocks_counted : (i r n : ℕ) (h : Option Handler) (t : List Record) → length (picked block_entry i (lines_after r n h t)) ≡ count_by is_block t
blocks_counted i r n h [] = refl
blocks_counted i r n h (Routine g p q ∷ t) = let m = blocks_counted (suc i) g (p + q) None t in let s = sum_by-cons (λ x. cond (is_block x) 1 0) (Routine g p q) t in omega arith
blocks_counted i r n h (Block l k ∷ t) = let m = blocks_counted (suc i) r n k t in let s = sum_by-cons (λ x. cond (is_block x) 1 0) (Block l k) t in omega arith
blocks_counted i r n h (Body b ∷ t) = let m = blocks_counted (suc i) r n h t in let s = sum_by-cons (λ x. cond (is_block x) 1 0) (Body b) t in omega arith

module _ (bs : List ℕ) (t : List Record) (holds : Holds bs t) (clear : BlocksClear t) where
  pub few_routines : length (routine_entries t) ≤ 16
  few_routines = let b = (blocked t holds.legible.some clear).routines in omega (arith, routines_counted 0 t)

  pub few_blocks : length (block_entries t) ≤ 64
  few_blocks = let b = (blocked t holds.legible.some clear).blocks in omega (arith, blocks_counted 0 0 0 None t)

  pub accepted : NamesClear t → Accepts bs t
  accepted names = record { holds = holds; formed = well_formed t holds.legible clear names }

-- what is answered is exactly what fits
only : (bs : List ℕ) (l c p : ℕ) → Refused bs l c p → Only bs l c p
only bs l c p r = record {
  malformed = λ s. sound_accepted bs s l c p r;
  only = λ l' c' p' r'. refused_once bs l' c' p' l c p r' r;
  near = refused_near bs l c p r;
}

pub alone : (bs : List ℕ) (t : List Record) → Accepts bs t → WellFormedBytes bs × ((l c p : ℕ) → Refused bs l c p → ⊥)
alone bs t a =
    let s : WellFormedBytes bs = record { table = t; same = a.holds.same; formed = a.formed } in
    (s, sound_accepted bs s)

pub exactly : (bs : List ℕ) (r : Result Table TableFault) → Checked bs r → Exactly bs r
exactly bs (Ok m) a = alone bs (records_of m) a
exactly bs (Err f) a = only bs (fault_layer f) (fault_cause f) (fault_place f) a

-- the three ways to be refused
pub by_layer_1 : (bs : List ℕ) (f : Located RecordCause) → First record_number_of (InRecords bs) f.cause f.place → Checked bs (Err (Records f))
by_layer_1 bs f h = by_records f.cause f.place h

pub by_layer_2 : (bs : List ℕ) (t : List Record) (f : Located BlockCause) → Holds bs t → First block_number_of (InBlocks t) f.cause f.place → Checked bs (Err (Blocks f))
by_layer_2 bs t f holds h = by_blocks t f.cause f.place (records_clear bs t holds) holds h

pub by_layer_3 : (bs : List ℕ) (t : List Record) (f : Located NameCause) → Holds bs t → BlocksClear t → First name_number_of (InNames t) f.cause f.place → Checked bs (Err (Names f))
by_layer_3 bs t f holds clear h = by_names t f.cause f.place (records_clear bs t holds) holds clear h
