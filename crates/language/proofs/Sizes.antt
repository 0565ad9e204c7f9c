-- Where blocks begin, how long a translation is, and how wide its words are.
use Rattle.std.proofs.Common.{◌≡◌, ℕ, zero, suc, ◌+◌, ◌*◌, ◌<◌, ◌≤◌, cond, List, [], ◌∷◌, ◌++◌, length, take, pos, Some, None, count_by, Option, refl, ap, subst, arith, length-append, w32, SFits, rules}
use Rattle.std.specs.List.{slice_get, AllByRecursion, flat_map}
use Rattle.std.proofs.lemmas.List.Sums.{sum_by-cons}
use Rattle.language.specs.declared.handler.Handler.{Handler}
use Rattle.language.specs.declared.instruction.Instruction.{Instruction}
use Rattle.language.specs.declared.instruction.Instruction.TheVariants.{Constant, Move, Difference, Request, Call, Goto, Return, Branch, Raise}
use Rattle.language.specs.declared.operation.Operation.{Operation}
use Rattle.language.specs.declared.operation.Operation.TheVariants.{Set, Assign, Subtract, Ask, Save, Enter, Jump, Resume, Test, Throw}
use Rattle.language.specs.declared.record.Record.{Record}
use Rattle.language.specs.declared.record.Record.TheVariants.{Routine, Block, Body}
use Rattle.language.specs.declared.word.Word.{Word}
use Rattle.language.specs.Bytes.{InRange}
use Rattle.language.specs.Forms.{is_routine}
use Rattle.language.specs.Lines.{Line, line, lines, lines_after, routine_place, block_place}
use Rattle.language.specs.WellFormed.{WellFormed}
use Rattle.language.specs.Translation.{jumps, size, total, found_address, address, block_address_of, routine_address_of, clears, words, line_words, translation}
use Rattle.language.specs.Code.{letter, fields, word_bytes, code}
use Rattle.language.specs.CodeWords.{Encodable, EncodableWord}
use Rattle.language.specs.Translated.{Opens, Begun, Lettered, Held}
use Rattle.language.proofs.Lines.{record_line}
use Rattle.language.proofs.Words.{length-words, address_next, each_opens}

-- a heading's block begins after its own words
after_heading : (t : List Record) (j : ℕ) (x : Record) (y : Instruction) (a q : ℕ) → slice_get t j ≡ Some x → slice_get t (suc j) ≡ Some (Body y) → a ≡ address t j → ((h : Option Handler) → size h x ≡ q) → Opens t (a + q)
after_heading t j x y a q e f at s =
    let l = record_line t 0 0 None j x e in
    let n = address_next t j l.r l.n l.h x l.is in
    let m = s l.h in
    let k : address t (suc j) ≡ a + q = omega arith in
    subst (Opens t) k (each_opens t (suc j) y f)

pub begun : (t : List Record) → WellFormed t → Begun t
begun t w = record {
  block = λ r l j h b.
      let f = w.blocked.flows j (Block l h) b.there refl in
      let z : block_address_of t r l + 0 ≡ block_address_of t r l = omega arith in
      subst (Opens t) z (after_heading t j (Block l h) f.0 (block_address_of t r l) 0 b.there f.1 (ap (found_address t) b.first) (λ k. refl));
  entry = λ g j p q b.
      let f = w.blocked.flows j (Routine g p q) b.there refl in
      after_heading t j (Routine g p q) f.0 (routine_address_of t g) q b.there f.1 (ap (found_address t) b.first) (λ k. refl);
}

pub lettered : (w : Word) → Lettered w
lettered w = record { capital = λ e. rw e (low w.operation); small = λ e. rw e (high w.operation) }
  where
    low : (o : Operation) → letter o ≤ 90
    low (Set x i) = omega arith
    low (Assign x y) = omega arith
    low (Subtract x y z) = omega arith
    low (Ask x o y c) = omega arith
    low (Save x c) = omega arith
    low (Enter n a ys) = omega arith
    low (Jump a) = omega arith
    low (Resume x) = omega arith
    low (Test x y) = omega arith
    low (Throw x) = omega arith

    high : (o : Operation) → 97 ≤ letter o + 32
    high (Set x i) = omega arith
    high (Assign x y) = omega arith
    high (Subtract x y z) = omega arith
    high (Ask x o y c) = omega arith
    high (Save x c) = omega arith
    high (Enter n a ys) = omega arith
    high (Jump a) = omega arith
    high (Resume x) = omega arith
    high (Test x y) = omega arith
    high (Throw x) = omega arith

-- the sizes of the lines are the length of the whole
length-joined : (t : List Record) (ls : List Line) → length (flat_map (line_words t) ls) ≡ total ls
length-joined t [] = refl
length-joined t (line r n h x ∷ ls) =
    let a = length-append (words t r h x) (flat_map (line_words t) ls) in
    let b = length-words t r h x in
    let c = length-joined t ls in omega arith

pub length-translation : (t : List Record) → length (translation t) ≡ total (lines t)
unfolding translation
length-translation t = length-joined t (lines t)

jumps_one : (h : Option Handler) → jumps h ≤ 1
jumps_one None = omega arith
jumps_one (Some h) = omega arith

-- three words a record, and thirteen more for the sixteen locals of a routine
size_within : (h : Option Handler) (x : Record) → InRange x → size h x ≤ 3 + 13 * cond (is_routine x) 1 0
size_within h (Routine g p q) f = let l = f.1 in omega arith
size_within h (Block l k) f = omega arith
size_within h (Body (Constant x i)) f = omega arith
size_within h (Body (Move x y)) f = omega arith
size_within h (Body (Difference x y z)) f = omega arith
size_within h (Body (Request x o y)) f = omega arith
size_within h (Body (Call x g n ys)) f = omega (arith, jumps_one h)
size_within h (Body (Goto l)) f = omega arith
size_within h (Body (Return x)) f = omega arith
size_within h (Body (Branch x y l m)) f = omega arith
size_within h (Body (Raise x)) f = omega (arith, jumps_one h)

total_within : (r n : ℕ) (h : Option Handler) (t : List Record) → AllByRecursion InRange t → total (lines_after r n h t) ≤ 3 * length t + 13 * count_by is_routine t
total_within r n h [] f = omega arith
total_within r n h (Routine g p q ∷ t) f =
    let m = total_within g (p + q) None t f.1 in
    let s = size_within None (Routine g p q) f.0 in
    let c = sum_by-cons (λ x. cond (is_routine x) 1 0) (Routine g p q) t in omega arith
total_within r n h (Block l k ∷ t) f =
    let m = total_within r n k t f.1 in
    let s = size_within k (Block l k) f.0 in
    let c = sum_by-cons (λ x. cond (is_routine x) 1 0) (Block l k) t in omega arith
total_within r n h (Body y ∷ t) f =
    let m = total_within r n h t f.1 in
    let s = size_within h (Body y) f.0 in
    let c = sum_by-cons (λ x. cond (is_routine x) 1 0) (Body y) t in omega arith

pub total_few : (t : List Record) → WellFormed t → total (lines t) ≤ 976
total_few t w =
    let m = total_within 0 0 None t w.legible.ranged in
    let few = w.legible.few in
    let r = w.blocked.routines in omega arith

-- so an address is two bytes
total_front : (i : ℕ) (ls : List Line) → total (take i ls) ≤ total ls
total_front zero ls = omega arith
total_front (suc i) [] = omega arith
total_front (suc i) (line r n h x ∷ ls) = let m = total_front i ls in omega arith

found_few : (t : List Record) → WellFormed t → (o : Option ℕ) → found_address t o < 65536
found_few t w None = omega arith
found_few t w (Some i) = omega (arith, total_front i (lines t), total_few t w)

all_append : (xs ys : List Word) → AllByRecursion EncodableWord xs → AllByRecursion EncodableWord ys → AllByRecursion EncodableWord (xs ++ ys)
all_append [] ys a b = b
all_append (x ∷ xs) ys a b = (a.0, all_append xs ys a.1 b)

encodable_clears : (p q : ℕ) → AllByRecursion EncodableWord (clears p q)
encodable_clears p zero = tt
encodable_clears p (suc q) = (nothing, encodable_clears (suc p) q)
  where
    nothing : SFits w32 (pos 0)
    nothing = search rules

module _ (t : List Record) (ok : WellFormed t) where
  block_few : (r l : ℕ) → block_address_of t r l < 65536
  block_few r l = found_few t ok (block_place t r l)

  routine_few : (g : ℕ) → routine_address_of t g < 65536
  routine_few g = found_few t ok (routine_place t g)

  -- the words of a record are in range
  encodable_words : (r : ℕ) (h : Option Handler) (x : Record) → InRange x → AllByRecursion EncodableWord (words t r h x)
  encodable_words r h (Routine g p q) f = encodable_clears p q
  encodable_words r h (Block l k) f = tt
  encodable_words r h (Body (Constant x i)) f = (f, tt)
  encodable_words r h (Body (Move x y)) f = (tt, tt)
  encodable_words r h (Body (Difference x y z)) f = (tt, tt)
  encodable_words r None (Body (Request x o y)) f = (tt, (tt, tt))
  encodable_words r (Some h) (Body (Request x o y)) f = (tt, (block_few r h.label, tt))
  encodable_words r None (Body (Call x g n ys)) f = (tt, ((routine_few g, f.1), tt))
  encodable_words r (Some h) (Body (Call x g n ys)) f = (tt, ((routine_few g, f.1), (block_few r h.label, tt)))
  encodable_words r h (Body (Goto l)) f = (block_few r l, tt)
  encodable_words r h (Body (Return x)) f = (tt, tt)
  encodable_words r h (Body (Branch x y l m)) f = (tt, (block_few r l, (block_few r m, tt)))
  encodable_words r None (Body (Raise x)) f = (tt, tt)
  encodable_words r (Some h) (Body (Raise x)) f = (tt, (block_few r h.label, tt))

  encodable_lines : (r n : ℕ) (h : Option Handler) (u : List Record) → AllByRecursion InRange u → AllByRecursion EncodableWord (flat_map (line_words t) (lines_after r n h u))
  encodable_lines r n h [] f = tt
  encodable_lines r n h (Routine g p q ∷ u) f = all_append (words t g None (Routine g p q)) _ (encodable_words g None (Routine g p q) f.0) (encodable_lines g (p + q) None u f.1)
  encodable_lines r n h (Block l k ∷ u) f = encodable_lines r n k u f.1
  encodable_lines r n h (Body y ∷ u) f = all_append (words t r h (Body y)) _ (encodable_words r h (Body y) f.0) (encodable_lines r n h u f.1)

  pub encodable : AllByRecursion EncodableWord (translation t)
  unfolding translation
  encodable = encodable_lines 0 0 None t ok.legible.ranged

-- a word in range is eight bytes
pub length-word : (w : Word) → EncodableWord w → length (word_bytes w) ≡ 8
length-word w f = ap suc (by w.operation f)
  where
    by : (o : Operation) → Encodable o → length (fields o) ≡ 7
    by (Set x i) f = refl
    by (Assign x y) f = refl
    by (Subtract x y z) f = refl
    by (Ask x o y c) f = refl
    by (Save x None) f = refl
    by (Save x (Some c)) f = refl
    by (Enter n a ys) f = ap (λ (k : ℕ). suc (suc (suc k))) f.1
    by (Jump a) f = refl
    by (Resume x) f = refl
    by (Test x y) f = refl
    by (Throw x) f = refl

pub length-bytes : (ws : List Word) → AllByRecursion EncodableWord ws → length (flat_map word_bytes ws) ≡ 8 * length ws
length-bytes [] f = refl
length-bytes (w ∷ ws) f =
    let a = length-append (word_bytes w) (flat_map word_bytes ws) in
    let e = length-word w f.0 in
    let m = length-bytes ws f.1 in omega arith

pub length-code : (t : List Record) → WellFormed t → length (code t) ≡ 8 * length (translation t)
unfolding code
length-code t w = length-bytes (translation t) (encodable t w)

pub held : (t : List Record) → WellFormed t → Held t
held t w = record { words = omega (arith, length-translation t, total_few t w); bytes = length-code t w }
