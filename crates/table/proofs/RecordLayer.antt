-- What one turn of layer 1's loop keeps, and what its ends give.
use Rattle.std.proofs.Common.{◌≡◌, ℕ, zero, suc, ◌*◌, ◌/◌, ◌<◌, ◌≤◌, List, [], ◌∷◌, ◌++◌, map, length, get_or, take, drop, Some, sym, refl, ap, ◌∙◌, subst, arith, length-drop, take-append-drop, take_all}
use Rattle.std.specs.List.{slice_get, AllByRecursion, flat_map}
use Rattle.std.specs.Simd.{first_chunks}
use Rattle.std.proofs.lemmas.List.{length-map}
use Rattle.std.proofs.lemmas.List.Folds.{flat_map-map}
use Rattle.std.proofs.lemmas.Option.{slice_get-get_or}
use Rattle.language.specs.declared.cause.RecordCause.{RecordCause}
use Rattle.language.specs.declared.cause.RecordCause.TheVariants.{Length, Letter, Range, Padding}
use Rattle.language.specs.declared.record.Record.{Record}
use Rattle.language.specs.Bytes.{encode, bytes, InRange}
use Rattle.language.specs.Rows.{rows, Whole, Known, Within, Clean}
use Rattle.language.specs.WellFormed.{Holds}
use Rattle.language.specs.Causes.{record_number_of, InRecords, bad_length, bad_letter, bad_range, bad_padding}
use Rattle.language.specs.Refusals.{First}
use Rattle.language.proofs.Lists.{all_nth}
use Rattle.language.proofs.Bytes.{row_sound, nth_map}
use Rattle.table.specs.Rows.{Missed}

-- the first p rows stand for the records t
pub record Sofar (rs : List (List ℕ)) (t : List Record) (p : ℕ) : Type 0 where
  pub same : map encode t ≡ take p rs
  pub ranged : AllByRecursion InRange t

nth_take : {X : Type 0} (xs : List X) (p q : ℕ) → q < p → slice_get (take p xs) q ≡ slice_get xs q
nth_take [] zero q l = refl
nth_take [] (suc p) q l = refl
nth_take (x ∷ xs) zero q l = absurd (omega arith)
nth_take (x ∷ xs) (suc p) zero l = refl
nth_take (x ∷ xs) (suc p) (suc q) l = nth_take xs p q (omega arith)

module _ (rs : List (List ℕ)) (t : List Record) (p : ℕ) (far : Sofar rs t p) where
  -- a row that was read has no cause
  sound : (q : ℕ) (row : List ℕ) → q < p → slice_get rs q ≡ Some row → Known row × Within row × Clean row
  sound q row l e =
      let same = far.same in
      let n = nth_take rs p q l in
      let e' : slice_get (map encode t) q ≡ Some row = ap (λ v. slice_get v q) same ∙ n ∙ e in
      let at = nth_map encode t q row e' in
      subst (λ (v : List ℕ). Known v × Within v × Clean v) (sym at.2) (row_sound at.0 (all_nth InRange t q at.0 far.ranged at.1))

module _ (bs : List ℕ) (whole : Whole bs) (t : List Record) (p : ℕ) (far : Sofar (rows bs) t p) where
  before : (j : RecordCause) (q : ℕ) → q < p → InRecords bs j q → ⊥
  before j q l (bad_length none) = none whole
  before j q l (bad_letter {row} i e none) = none (sound (rows bs) t p far i row l e).0
  before j q l (bad_range {row} i e none) = none (sound (rows bs) t p far i row l e).1
  before j q l (bad_padding {row} i e none) = none (sound (rows bs) t p far i row l e).2

  module _ (r : List ℕ) (is : slice_get (rows bs) p ≡ Some r) where
    here : (k : RecordCause) → Missed r k → InRecords bs k p
    here Length h = absurd h
    here Letter h = bad_letter p is h
    here Range h = bad_range p is h.1
    here Padding h = bad_padding p is h.2

    same_row : (q : ℕ) (row : List ℕ) → q ≡ p → slice_get (rows bs) q ≡ Some row → row ≡ r
    same_row q row at e = cc

    known : (k : RecordCause) → 2 < record_number_of k → Missed r k → Known r
    known Length l h = absurd h
    known Letter l h = absurd (omega arith)
    known Range l h = h.0
    known Padding l h = h.0

    within : (k : RecordCause) → 3 < record_number_of k → Missed r k → Within r
    within Length l h = absurd h
    within Letter l h = absurd (omega arith)
    within Range l h = absurd (omega arith)
    within Padding l h = h.1

    clean : (k : RecordCause) → 4 < record_number_of k → Missed r k → Clean r
    clean Length l h = absurd h
    clean Letter l h = absurd (omega arith)
    clean Range l h = absurd (omega arith)
    clean Padding l h = absurd (omega arith)

    lower : (k : RecordCause) → Missed r k → (j : RecordCause) (q : ℕ) → q ≡ p → record_number_of j < record_number_of k → InRecords bs j q → ⊥
    lower k h j q at l (bad_length none) = none whole
    lower k h j q at l (bad_letter {row} i e none) = none (subst Known (sym (same_row i row at e)) (known k l h))
    lower k h j q at l (bad_range {row} i e none) = none (subst Within (sym (same_row i row at e)) (within k l h))
    lower k h j q at l (bad_padding {row} i e none) = none (subst Clean (sym (same_row i row at e)) (clean k l h))

  pub first : (k : RecordCause) → p < length (rows bs) → Missed (get_or (rows bs) p []) k → First record_number_of (InRecords bs) k p
  first k on h =
      let is = slice_get-get_or (rows bs) p [] on in
      record { here = here (get_or (rows bs) p []) is k h; before = before; lower = λ j. lower (get_or (rows bs) p []) is k h j p refl }

joined_chunked : (k : ℕ) (xs : List ℕ) → length xs ≡ 8 * k → flat_map (λ (r : List ℕ). r) (first_chunks 8 k xs) ≡ xs
joined_chunked zero [] e = refl
joined_chunked zero (x ∷ xs) e = absurd (omega arith)
joined_chunked (suc k) xs e =
    let n : length (drop 8 xs) ≡ 8 * k = omega (arith, length-drop 8 xs) in
    ap (λ (r : List ℕ). take 8 xs ++ r) (joined_chunked k (drop 8 xs) n) ∙ take-append-drop 8 xs

length_chunked : {X : Type 0} (n k : ℕ) (xs : List X) → length (first_chunks n k xs) ≡ k
length_chunked n zero xs = refl
length_chunked n (suc k) xs = ap suc (length_chunked n k (drop n xs))

pub length-rows : (bs : List ℕ) → length (rows bs) ≡ length bs / 8
length-rows bs = length_chunked 8 (length bs / 8) bs

pub done : (bs : List ℕ) → Whole bs → (t : List Record) (p : ℕ) → Sofar (rows bs) t p → length (rows bs) ≤ p → Holds bs t
unfolding bytes
done bs whole t p far all =
    let n = length-rows bs in
    let w0 = whole.0 in let w1 = whole.1 in let w2 = whole.2 in
    let e : map encode t ≡ rows bs = far.same ∙ take_all p (rows bs) all in
    let m : length t ≡ length bs / 8 = sym (length-map t encode) ∙ ap length e ∙ n in
    let k : length bs ≡ 8 * (length bs / 8) = omega arith in
    record {
      same = sym (flat_map-map (λ (r : List ℕ). r) encode t) ∙ ap (flat_map (λ (r : List ℕ). r)) e ∙ joined_chunked (length bs / 8) bs k;
      legible = record { some = omega arith; few = omega arith; ranged = far.ranged };
    }

pub no_table : (bs : List ℕ) → (Whole bs → ⊥) → First record_number_of (InRecords bs) Length 0
no_table bs none = record { here = bad_length none; before = λ j q l h. absurd (omega arith); lower = least }
  where
    least : (j : RecordCause) → record_number_of j < 1 → InRecords bs j 0 → ⊥
    least Length l h = absurd (omega arith)
    least Letter l h = absurd (omega arith)
    least Range l h = absurd (omega arith)
    least Padding l h = absurd (omega arith)
