-- A refusal's place is at most the most records that a table has.
use Rattle.std.proofs.Common.{◌≡◌, ℕ, zero, suc, ◌/◌, ◌<◌, ◌≤◌, ◌⊎◌, List, length, drop, Some, None, refl, ap, inl, inr, arith}
use Rattle.std.specs.List.{slice_get}
use Rattle.std.specs.Simd.{first_chunks}
use Rattle.std.proofs.lemmas.Bool.{cases_lt}
use Rattle.language.specs.declared.cause.RecordCause.{RecordCause}
use Rattle.language.specs.declared.cause.RecordCause.TheVariants.{Length}
use Rattle.language.specs.declared.cause.BlockCause.{BlockCause}
use Rattle.language.specs.declared.cause.NameCause.{NameCause}
use Rattle.language.specs.declared.record.Record.{Record}
use Rattle.language.specs.Lines.{lines}
use Rattle.language.specs.Rows.{rows, Whole}
use Rattle.language.specs.Causes.{InRecords, bad_length, bad_letter, bad_range, bad_padding, InBlocks, headless, unclosed, open_end, trailing, crowded_routine, crowded_block, InNames, repeated_routine, repeated_block, no_main, no_variable, no_block, no_routine, argument_count}
use Rattle.language.specs.Refusals.{Refused, by_records, by_blocks, by_names}
use Rattle.language.proofs.Lists.{nth_below}
use Rattle.language.proofs.Lines.{length-lines}

length_chunked : {X : Type 0} (n k : ℕ) (xs : List X) → length (first_chunks n k xs) ≡ k
length_chunked n zero xs = refl
length_chunked n (suc k) xs = ap suc (length_chunked n k (drop n xs))

row_below : (bs : List ℕ) (p : ℕ) (row : List ℕ) → slice_get (rows bs) p ≡ Some row → p < length bs / 8
row_below bs p row e = omega (arith, nth_below (rows bs) p row e, length_chunked 8 (length bs / 8) bs)

-- a cause of layer 1 past the most records is not the first
record_near : (bs : List ℕ) (k : RecordCause) (p : ℕ) → InRecords bs k p → 256 < p → (Whole bs → ⊥)
record_near bs k p (bad_length none) l w = none w
record_near bs k p (bad_letter {row} i e none) l w = let r = row_below bs i row e in let m = w.1 in omega arith
record_near bs k p (bad_range {row} i e none) l w = let r = row_below bs i row e in let m = w.1 in omega arith
record_near bs k p (bad_padding {row} i e none) l w = let r = row_below bs i row e in let m = w.1 in omega arith

block_near : (t : List Record) (k : BlockCause) (p : ℕ) → InBlocks t k p → p ≤ length t
block_near t k p (headless e h) = omega arith
block_near t k p (unclosed i e c n h) = omega (arith, nth_below t (suc i) _ n)
block_near t k p (open_end i e c n) = omega (arith, nth_below t i _ e)
block_near t k p (trailing i e c n h) = omega (arith, nth_below t (suc i) _ n)
block_near t k p (crowded_routine i e h full) = omega (arith, nth_below t i _ e)
block_near t k p (crowded_block i e h full) = omega (arith, nth_below t i _ e)

name_near : (t : List Record) (k : NameCause) (p : ℕ) → InNames t k p → p ≤ length t
name_near t k p (repeated_routine i j e l f) = omega (arith, nth_below t i _ e)
name_near t k p (repeated_block i j e l f) = omega (arith, nth_below (lines t) i _ e, length-lines t 0 0 None)
name_near t k p (no_main e) = omega arith
name_near t k p (no_variable i e a) = omega (arith, nth_below (lines t) i _ e, length-lines t 0 0 None)
name_near t k p (no_block i e a) = omega (arith, nth_below (lines t) i _ e, length-lines t 0 0 None)
name_near t k p (no_routine i e a) = omega (arith, nth_below t i _ e)
name_near t k p (argument_count i e a) = omega (arith, nth_below t i _ e)

pub refused_near : (bs : List ℕ) (l c p : ℕ) → Refused bs l c p → p ≤ 256
refused_near bs l c p (by_records k q f) = by (cases_lt 256 q)
  where
    by : (256 < q) ⊎ (q ≤ 256) → q ≤ 256
    by (inl far) = absurd (f.before Length 0 (omega arith) (bad_length (record_near bs k q f.here far)))
    by (inr near) = near
refused_near bs l c p (by_blocks t k q d held f) = omega (arith, block_near t k q f.here, held.legible.few)
refused_near bs l c p (by_names t k q d held e f) = omega (arith, name_near t k q f.here, held.legible.few)
