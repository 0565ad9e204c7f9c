-- The bytes of a translation: eight to a word, and at each address those of the word that stands there.
use Rattle.std.proofs.Common.{◌≡◌, ℕ, zero, suc, ◌+◌, ◌-◌, ◌*◌, ◌≤◌, Bool, true, false, cond, eqb, ltb, List, [], ◌∷◌, ◌++◌, length, take, drop, ℤ, Some, None, Option, sym, refl, ap, ◌∙◌, arith, w32, to_z, of_z}
use mir.Facts.{Fits-of_z}
use Rattle.std.specs.List.{slice_get, AllByRecursion, flat_map}
use Rattle.std.proofs.lemmas.List.{drop_at, drop-drop, take_at}
use Rattle.std.proofs.lemmas.Int.{to_z-of_z}
use Rattle.language.specs.Code.{letter, fields, word_bytes, code}
use Rattle.language.specs.CodeWords.{Encodable, EncodableWord, WordAt, ReadBack}
use Rattle.language.specs.Rows.{byte}
use Rattle.language.specs.Theorems.{FixedBy}
use Rattle.language.specs.Translation.{translation}
use Rattle.language.specs.WellFormed.{WellFormed}
use Rattle.language.specs.declared.operation.Operation.{Operation}
use Rattle.language.specs.declared.operation.Operation.TheVariants.{Set, Assign, Subtract, Ask, Save, Enter, Jump, Resume, Test, Throw}
use Rattle.language.specs.declared.record.Record.{Record}
use Rattle.language.specs.declared.word.Word.{Word}
use Rattle.language.proofs.Bytes.{four_told}
use Rattle.language.proofs.Lists.{clash, nth_none, all_nth}
use Rattle.language.proofs.Sizes.{encodable, length-word, length-code}

-- what the bytes of a word stand for, without its letter's case
catch_at : List ℕ → Option ℕ
catch_at row = cond (eqb (byte row 1) 0) None (Some (byte row 2))

value_at : List ℕ → ℤ
value_at row = to_z w32 (byte row 3 + byte row 4 * 256 + byte row 5 * 65536 + byte row 6 * 16777216)

meaning : ℕ → List ℕ → Operation
meaning l row =
    cond (eqb l 67) (Set (byte row 0) (value_at row)) (
    cond (eqb l 77) (Assign (byte row 0) (byte row 1)) (
    cond (eqb l 83) (Subtract (byte row 0) (byte row 1) (byte row 2)) (
    cond (eqb l 65) (Ask (byte row 0) (byte row 1) (byte row 2) (byte row 3)) (
    cond (eqb l 76) (Save (byte row 0) (catch_at row)) (
    cond (eqb l 70) (Enter (byte row 0) (byte row 1 + byte row 2 * 256) (drop 3 row)) (
    cond (eqb l 74) (Jump (byte row 0 + byte row 1 * 256)) (
    cond (eqb l 84) (Resume (byte row 0)) (
    cond (eqb l 73) (Test (byte row 0) (byte row 1))
    (Throw (byte row 0))))))))))

meaning_fields : (o : Operation) → Encodable o → meaning (letter o) (fields o) ≡ o
unfolding meaning catch_at value_at
meaning_fields (Set x i) f = ap (Set x) (ap (to_z w32) (four_told (of_z w32 i) (Fits-of_z f).fits) ∙ to_z-of_z w32 i f)
meaning_fields (Assign x y) f = refl
meaning_fields (Subtract x y z) f = refl
meaning_fields (Ask x o y c) f = refl
meaning_fields (Save x None) f = refl
meaning_fields (Save x (Some c)) f = refl
meaning_fields (Enter n a ys) f = ap (λ (k : ℕ). Enter n k ys) (omega arith)
meaning_fields (Jump a) f = ap Jump (omega arith)
meaning_fields (Resume x) f = refl
meaning_fields (Test x y) f = refl
meaning_fields (Throw x) f = refl

-- a letter is a capital exactly below 97
letter_case : (o : Operation) → (ltb (letter o) 97 ≡ true) × (ltb (letter o + 32) 97 ≡ false)
letter_case (Set x i) = (refl, refl)
letter_case (Assign x y) = (refl, refl)
letter_case (Subtract x y z) = (refl, refl)
letter_case (Ask x o y c) = (refl, refl)
letter_case (Save x c) = (refl, refl)
letter_case (Enter n a ys) = (refl, refl)
letter_case (Jump a) = (refl, refl)
letter_case (Resume x) = (refl, refl)
letter_case (Test x y) = (refl, refl)
letter_case (Throw x) = (refl, refl)

word_meaning : List ℕ → Word
word_meaning row = record { opens = ltb (byte row 0) 97; operation = meaning (cond (ltb (byte row 0) 97) (byte row 0) (byte row 0 - 32)) (drop 1 row) }

meaning_word : (b : Bool) (o : Operation) → Encodable o → word_meaning (word_bytes (record { opens = b; operation = o })) ≡ record { opens = b; operation = o }
unfolding word_meaning
meaning_word true o f = rw ((letter_case o).0, meaning_fields o f)
meaning_word false o f = let m : letter o + 32 - 32 ≡ letter o = omega arith in rw ((letter_case o).1, m, meaning_fields o f)

pub word_bytes_fix : FixedBy word_bytes EncodableWord
word_bytes_fix w u f g e = sym (meaning_word w.opens w.operation f) ∙ ap word_meaning e ∙ meaning_word u.opens u.operation g

-- at most one word stands at an address
pub one_word : (bs : List ℕ) (a : ℕ) (w u : Word) → WordAt bs a w → WordAt bs a u → w ≡ u
one_word bs a w u f g = word_bytes_fix w u f.ranged g.ranged (sym f.here ∙ g.here)

-- the bytes at the address of a word are its own
bytes_at : (ws : List Word) (a : ℕ) (w : Word) → AllByRecursion EncodableWord ws → slice_get ws a ≡ Some w → take 8 (drop (8 * a) (flat_map word_bytes ws)) ≡ word_bytes w
bytes_at [] a w f e = clash cc
bytes_at (v ∷ ws) zero w f e = let q : v ≡ w = cc in take_at (word_bytes v) (flat_map word_bytes ws) 8 (length-word v f.0) ∙ ap word_bytes q
bytes_at (v ∷ ws) (suc a) w f e =
    let m : 8 * suc a ≡ 8 + 8 * a = omega arith in
    let d : drop (8 * suc a) (flat_map word_bytes (v ∷ ws)) ≡ drop (8 * a) (flat_map word_bytes ws) =
    ap (λ (k : ℕ). drop k (word_bytes v ++ flat_map word_bytes ws)) m ∙ sym (drop-drop (8 * a) 8 (word_bytes v ++ flat_map word_bytes ws)) ∙ ap (drop (8 * a)) (drop_at (word_bytes v) (flat_map word_bytes ws) 8 (length-word v f.0)) in
    ap (take 8) d ∙ bytes_at ws a w f.1 e

-- past the end no bytes stand
drop_past : {X : Type 0} (n : ℕ) (xs : List X) → length xs ≤ n → drop n xs ≡ []
drop_past zero [] l = refl
drop_past zero (x ∷ xs) l = absurd (omega arith)
drop_past (suc n) [] l = refl
drop_past (suc n) (x ∷ xs) l = drop_past n xs (omega arith)

module _ (t : List Record) (ok : WellFormed t) where
  pub code_word : (a : ℕ) (w : Word) → slice_get (translation t) a ≡ Some w → WordAt (code t) a w
  unfolding code
  code_word a w e = record { ranged = all_nth EncodableWord (translation t) a w (encodable t ok) e; here = bytes_at (translation t) a w (encodable t ok) e }

  -- a word stands in the bytes only where there is one
  pub word_code : (a : ℕ) (w : Word) → WordAt (code t) a w → slice_get (translation t) a ≡ Some w
  word_code a w d = by (slice_get (translation t) a) refl
    where
      by : (o : Option Word) → slice_get (translation t) a ≡ o → o ≡ Some w
      by (Some u) e = ap (λ v. Some v) (one_word (code t) a u w (code_word a u e) d)
      by None e =
          let l = nth_none (translation t) a e in
          let n = length-code t ok in
          let p = drop_past (8 * a) (code t) (omega arith) in
          let z : length (word_bytes w) ≡ 0 = ap length (sym d.here) ∙ ap (λ bs. length (take 8 bs)) p in
          absurd (omega (arith, length-word w d.ranged))

  pub read_back : (a : ℕ) (w : Word) → ReadBack t a w
  read_back a w = record { read = word_code a w; back = code_word a w }
