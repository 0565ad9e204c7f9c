-- The bytes of records in range: eight each, free of every cause of layer 1, and no two records alike.
use Rattle.std.proofs.Common.{◌≡◌, ℕ, zero, suc, ◌+◌, ◌*◌, ◌/◌, ◌%◌, ◌^◌, ◌<◌, cond, eqb, List, [], ◌∷◌, ◌++◌, map, length, take, drop, ℤ, Some, None, Option, sym, refl, ap, ◌∙◌, subst, inl, inr, arith, length-append, w32, to_z, of_z, rules}
use native.Mathlib.Nat.{div-div-eq-div-mul}
use mir.Facts.{Fits-of_z}
use Rattle.std.specs.List.{slice_get, AllByRecursion, flat_map}
use Rattle.std.specs.Simd.{first_chunks}
use Rattle.std.proofs.lemmas.List.{drop_at, take_at}
use Rattle.std.proofs.lemmas.Int.{to_z-of_z}
use Rattle.language.specs.declared.handler.Handler.{Handler}
use Rattle.language.specs.declared.instruction.Instruction.TheVariants.{Constant, Move, Difference, Request, Call, Goto, Return, Branch, Raise}
use Rattle.language.specs.declared.record.Record.{Record}
use Rattle.language.specs.declared.record.Record.TheVariants.{Routine, Block, Body}
use Rattle.language.specs.Bytes.{encode, bytes, InRange}
use Rattle.language.specs.Rows.{rows, byte, Whole, Known, Within, Clean}
use Rattle.language.specs.WellFormed.{Legible, Holds}
use Rattle.language.specs.Causes.{bad_length, bad_letter, bad_range, bad_padding}
use Rattle.language.specs.Refusals.{RecordsClear}
use Rattle.language.proofs.Lists.{clash, all_nth}

pub length-encode : (x : Record) → InRange x → length (encode x) ≡ 8
length-encode (Routine i p q) f = refl
length-encode (Block l None) f = refl
length-encode (Block l (Some h)) f = refl
length-encode (Body (Constant x i)) f = refl
length-encode (Body (Move x y)) f = refl
length-encode (Body (Difference x y z)) f = refl
length-encode (Body (Request x o y)) f = refl
length-encode (Body (Call x g n ys)) f = ap (λ (k : ℕ). suc (suc (suc (suc k)))) f.1
length-encode (Body (Goto l)) f = refl
length-encode (Body (Return x)) f = refl
length-encode (Body (Branch x y l m)) f = refl
length-encode (Body (Raise x)) f = refl

pub length-bytes : (t : List Record) → AllByRecursion InRange t → length (flat_map encode t) ≡ 8 * length t
length-bytes [] f = refl
length-bytes (x ∷ t) f = omega (arith, length-append (encode x) (flat_map encode t), length-encode x f.0, length-bytes t f.1)

rows_of : (t : List Record) → AllByRecursion InRange t → first_chunks 8 (length t) (flat_map encode t) ≡ map encode t
rows_of [] f = refl
rows_of (x ∷ t) f =
    let n = length-encode x f.0 in
    let a = take_at (encode x) (flat_map encode t) 8 n in
    let b = drop_at (encode x) (flat_map encode t) 8 n in
    let c = rows_of t f.1 in
    let d : first_chunks 8 (length t) (drop 8 (encode x ++ flat_map encode t)) ≡ map encode t = ap (first_chunks 8 (length t)) b ∙ c in
    cc

pub rows_bytes : (t : List Record) → AllByRecursion InRange t → rows (flat_map encode t) ≡ map encode t
rows_bytes t f =
    let e : length (flat_map encode t) / 8 ≡ length t = omega (arith, length-bytes t f) in
    ap (λ (k : ℕ). first_chunks 8 k (flat_map encode t)) e ∙ rows_of t f

pub nth_map : {X Y : Type 0} (f : X → Y) (xs : List X) (i : ℕ) (y : Y) → slice_get (map f xs) i ≡ Some y → (x : X) × (slice_get xs i ≡ Some x) × (y ≡ f x)
nth_map f [] i y e = clash (cc)
nth_map f (x ∷ xs) zero y e = (x, refl, cc)
nth_map f (x ∷ xs) (suc i) y e = nth_map f xs i y e

known_letter : (x : Record) → Known (encode x)
known_letter (Routine i p q) = inl refl
known_letter (Block l None) = inr (inl refl)
known_letter (Block l (Some h)) = inr (inl refl)
known_letter (Body (Constant x i)) = inr (inr (inl refl))
known_letter (Body (Move x y)) = inr (inr (inr (inl refl)))
known_letter (Body (Difference x y z)) = inr (inr (inr (inr (inl refl))))
known_letter (Body (Request x o y)) = inr (inr (inr (inr (inr (inl refl)))))
known_letter (Body (Call x g n ys)) = inr (inr (inr (inr (inr (inr (inl refl))))))
known_letter (Body (Goto l)) = inr (inr (inr (inr (inr (inr (inr (inl refl)))))))
known_letter (Body (Return x)) = inr (inr (inr (inr (inr (inr (inr (inr (inl refl))))))))
known_letter (Body (Branch x y l m)) = inr (inr (inr (inr (inr (inr (inr (inr (inr (inl refl)))))))))
known_letter (Body (Raise x)) = inr (inr (inr (inr (inr (inr (inr (inr (inr (inr refl)))))))))

within_range : (x : Record) → InRange x → Within (encode x)
within_range (Routine i p q) f = record { routine = λ e. f; block = λ e. absurd (omega arith); request = λ e. absurd (omega arith); call = λ e. absurd (omega arith) }
within_range (Block l None) f = search rules
within_range (Block l (Some h)) f = search rules
within_range (Body (Constant x i)) f = search rules
within_range (Body (Move x y)) f = search rules
within_range (Body (Difference x y z)) f = search rules
within_range (Body (Request x o y)) f = search rules
within_range (Body (Call x g n ys)) f = search rules
within_range (Body (Goto l)) f = search rules
within_range (Body (Return x)) f = search rules
within_range (Body (Branch x y l m)) f = search rules
within_range (Body (Raise x)) f = search rules

clean_padding : (x : Record) → InRange x → Clean (encode x)
clean_padding (Routine i p q) f = search rules
clean_padding (Block l None) f = search rules
clean_padding (Block l (Some h)) f = search rules
clean_padding (Body (Constant x i)) f = search rules
clean_padding (Body (Move x y)) f = search rules
clean_padding (Body (Difference x y z)) f = search rules
clean_padding (Body (Request x o y)) f = search rules
clean_padding (Body (Call x g n ys)) f = search rules
clean_padding (Body (Goto l)) f = search rules
clean_padding (Body (Return x)) f = search rules
clean_padding (Body (Branch x y l m)) f = search rules
clean_padding (Body (Raise x)) f = search rules

-- no cause stands in the row that a record in range has
pub row_sound : (x : Record) → InRange x → Known (encode x) × Within (encode x) × Clean (encode x)
row_sound x ok = (known_letter x, within_range x ok, clean_padding x ok)

row_clear : (t : List Record) → AllByRecursion InRange t → (p : ℕ) (row : List ℕ) → slice_get (rows (flat_map encode t)) p ≡ Some row → Known row × Within row × Clean row
row_clear t f p row e =
    let e' : slice_get (map encode t) p ≡ Some row = rw (sym (rows_bytes t f)) e in
    let at = nth_map encode t p row e' in
    let ok = all_nth InRange t p at.0 f at.1 in
    rw at.2 (row_sound at.0 ok)

whole : (t : List Record) → Legible t → Whole (flat_map encode t)
whole t ok =
    let n = length-bytes t ok.ranged in let a = ok.some in let b = ok.few in
    (omega arith, omega arith, omega arith)

joined_clear : (t : List Record) → Legible t → RecordsClear (flat_map encode t)
joined_clear t ok k p (bad_length no_table) = no_table (whole t ok)
joined_clear t ok k p (bad_letter {row} i e no-letter) = no-letter (row_clear t ok.ranged i row e).0
joined_clear t ok k p (bad_range {row} i e out) = out (row_clear t ok.ranged i row e).1
joined_clear t ok k p (bad_padding {row} i e stray) = stray (row_clear t ok.ranged i row e).2

pub records_clear : (bs : List ℕ) (t : List Record) → Holds bs t → RecordsClear bs
unfolding bytes
records_clear bs t h = subst RecordsClear h.same (joined_clear t h.legible)

-- a number is told by its four bytes
sums : (a b c d n x y z : ℕ) → a + x * 256 ≡ n → b + y * 256 ≡ x → c + z * 256 ≡ y → d ≡ z → a + b * 256 + c * 65536 + d * 16777216 ≡ n
sums a b c d n x y z e f g h = omega arith

pub four_told : (n : ℕ) → n < 2 ^ 32 → n % 256 + n / 256 % 256 * 256 + n / 65536 % 256 * 65536 + n / 16777216 % 256 * 16777216 ≡ n
four_told n l =
    let a : n / 256 / 256 ≡ n / 65536 = div-div-eq-div-mul n 256 256 in
    let b : n / 65536 / 256 ≡ n / 16777216 = div-div-eq-div-mul n 65536 256 in
    let e1 : n % 256 + n / 256 * 256 ≡ n = omega arith in
    let e2 : n / 256 % 256 + n / 65536 * 256 ≡ n / 256 = omega arith in
    let e3 : n / 65536 % 256 + n / 16777216 * 256 ≡ n / 65536 = omega arith in
    let e4 : n / 16777216 % 256 ≡ n / 16777216 = omega arith in
    sums (n % 256) (n / 256 % 256) (n / 65536 % 256) (n / 16777216 % 256) n (n / 256) (n / 65536) (n / 16777216) e1 e2 e3 e4

pub number_at : List ℕ → ℤ
number_at row = to_z w32 (byte row 4 + byte row 5 * 256 + byte row 6 * 65536 + byte row 7 * 16777216)

handler_at : List ℕ → Option Handler
handler_at row = cond (eqb (byte row 2) 0) None (Some (record { label = byte row 3; catch = byte row 4 }))

-- the record that a row in range stands for
meaning : List ℕ → Record
meaning row =
    cond (eqb (byte row 0) 82) (Routine (byte row 1) (byte row 2) (byte row 3)) (
    cond (eqb (byte row 0) 66) (Block (byte row 1) (handler_at row)) (
    cond (eqb (byte row 0) 67) (Body (Constant (byte row 1) (number_at row))) (
    cond (eqb (byte row 0) 77) (Body (Move (byte row 1) (byte row 2))) (
    cond (eqb (byte row 0) 83) (Body (Difference (byte row 1) (byte row 2) (byte row 3))) (
    cond (eqb (byte row 0) 65) (Body (Request (byte row 1) (byte row 2) (byte row 3))) (
    cond (eqb (byte row 0) 70) (Body (Call (byte row 1) (byte row 2) (byte row 3) (drop 4 row))) (
    cond (eqb (byte row 0) 71) (Body (Goto (byte row 1))) (
    cond (eqb (byte row 0) 84) (Body (Return (byte row 1))) (
    cond (eqb (byte row 0) 73) (Body (Branch (byte row 1) (byte row 2) (byte row 3) (byte row 4)))
    (Body (Raise (byte row 1))))))))))))

meaning_encode : (x : Record) → InRange x → meaning (encode x) ≡ x
unfolding meaning handler_at number_at
meaning_encode (Routine i p q) f = refl
meaning_encode (Block l None) f = refl
meaning_encode (Block l (Some h)) f = refl
meaning_encode (Body (Constant x i)) f = ap (λ (n : ℤ). Body (Constant x n)) (ap (to_z w32) (four_told (of_z w32 i) (Fits-of_z f).fits) ∙ to_z-of_z w32 i f)
meaning_encode (Body (Move x y)) f = refl
meaning_encode (Body (Difference x y z)) f = refl
meaning_encode (Body (Request x o y)) f = refl
meaning_encode (Body (Call x g n ys)) f = refl
meaning_encode (Body (Goto l)) f = refl
meaning_encode (Body (Return x)) f = refl
meaning_encode (Body (Branch x y l m)) f = refl
meaning_encode (Body (Raise x)) f = refl

pub encode_fixes : (x y : Record) → InRange x → InRange y → encode x ≡ encode y → x ≡ y
encode_fixes x y f g e = sym (meaning_encode x f) ∙ ap meaning e ∙ meaning_encode y g

joined_fixes : (t u : List Record) → AllByRecursion InRange t → AllByRecursion InRange u → flat_map encode t ≡ flat_map encode u → t ≡ u
joined_fixes [] [] f g e = refl
joined_fixes [] (y ∷ u) f g e = absurd (omega (arith, ap length e, length-bytes (y ∷ u) g))
joined_fixes (x ∷ t) [] f g e = absurd (omega (arith, ap length e, length-bytes (x ∷ t) f))
joined_fixes (x ∷ t) (y ∷ u) f g e =
    let n = length-encode x f.0 in let m = length-encode y g.0 in
    let a : encode x ≡ encode y = sym (take_at (encode x) (flat_map encode t) 8 n) ∙ ap (take 8) e ∙ take_at (encode y) (flat_map encode u) 8 m in
    let b : flat_map encode t ≡ flat_map encode u = sym (drop_at (encode x) (flat_map encode t) 8 n) ∙ ap (drop 8) e ∙ drop_at (encode y) (flat_map encode u) 8 m in
    let c = encode_fixes x y f.0 g.0 a in
    let d = joined_fixes t u f.1 g.1 b in
    cc

pub bytes_fix : (t u : List Record) → Legible t → Legible u → bytes t ≡ bytes u → t ≡ u
unfolding bytes
bytes_fix t u f g e = joined_fixes t u f.ranged g.ranged e
