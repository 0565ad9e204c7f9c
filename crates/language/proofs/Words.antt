-- Where the words of a record stand, and which of them open a beat.
use Rattle.std.proofs.Common.{◌≡◌, ℕ, zero, suc, ◌+◌, ◌-◌, ◌<◌, ◌≤◌, true, false, ◌⊎◌, List, [], ◌∷◌, ◌++◌, length, take, pos, Some, None, Option, sym, refl, ap, ◌∙◌, inl, inr, suc-add, zero-add, arith}
use Rattle.std.specs.List.{slice_get, flat_map}
use Rattle.std.proofs.lemmas.Bool.{cases_lt}
use Rattle.language.specs.declared.handler.Handler.{Handler}
use Rattle.language.specs.declared.instruction.Instruction.{Instruction}
use Rattle.language.specs.declared.instruction.Instruction.TheVariants.{Constant, Move, Difference, Request, Call, Goto, Return, Branch, Raise}
use Rattle.language.specs.declared.operation.Operation.TheVariants.{Set}
use Rattle.language.specs.declared.record.Record.{Record}
use Rattle.language.specs.declared.record.Record.TheVariants.{Routine, Block, Body}
use Rattle.language.specs.declared.word.Word.{Word}
use Rattle.language.specs.Lines.{Line, line, lines}
use Rattle.language.specs.Translation.{small, size, total, address, clears, instruction_words, words, line_words, translation}
use Rattle.language.specs.Translated.{Stand, Placed, Opens, Opened}
use Rattle.language.proofs.Lists.{clash}
use Rattle.language.proofs.Lines.{line_record, record_line}

stand_after : (u : Word) (o : List Word) (a : ℕ) (ws : List Word) → Stand (slice_get o) a ws → Stand (slice_get (u ∷ o)) (suc a) ws
stand_after u o a [] s = tt
stand_after u o a (w ∷ ws) s = (s.0, stand_after u o (suc a) ws s.1)

stand_first : (ws o : List Word) → Stand (slice_get (ws ++ o)) 0 ws
stand_first [] o = tt
stand_first (w ∷ ws) o = (refl, stand_after w (ws ++ o) 0 ws (stand_first ws o))

stand_behind : (p o : List Word) (a : ℕ) (ws : List Word) → Stand (slice_get o) a ws → Stand (slice_get (p ++ o)) (length p + a) ws
stand_behind [] o a ws s = rw zero-add s
stand_behind (u ∷ p) o a ws s = rw suc-add (stand_after u (p ++ o) (length p + a) ws (stand_behind p o a ws s))

length-clears : (p q : ℕ) → length (clears p q) ≡ q
length-clears p zero = refl
length-clears p (suc q) = ap suc (length-clears (suc p) q)

-- a record has as many words as its size says
pub length-words : (t : List Record) (r : ℕ) (h : Option Handler) (x : Record) → length (words t r h x) ≡ size h x
length-words t r h (Routine g p q) = length-clears p q
length-words t r h (Block l k) = refl
length-words t r h (Body (Constant x i)) = refl
length-words t r h (Body (Move x y)) = refl
length-words t r h (Body (Difference x y z)) = refl
length-words t r None (Body (Request x o y)) = refl
length-words t r (Some h) (Body (Request x o y)) = refl
length-words t r None (Body (Call x g n ys)) = refl
length-words t r (Some h) (Body (Call x g n ys)) = refl
length-words t r h (Body (Goto l)) = refl
length-words t r h (Body (Return x)) = refl
length-words t r h (Body (Branch x y l m)) = refl
length-words t r None (Body (Raise x)) = refl
length-words t r (Some h) (Body (Raise x)) = refl

stand_line : (t : List Record) (ls : List Line) (i r n : ℕ) (h : Option Handler) (x : Record) → slice_get ls i ≡ Some (line r n h x) → Stand (slice_get (flat_map (line_words t) ls)) (total (take i ls)) (words t r h x)
stand_line t [] i r n h x e = clash (cc)
stand_line t (line r' n' h' x' ∷ ls) zero r n h x e =
    let d : line r' n' h' x' ≡ line r n h x = cc in
    let s : words t r' h' x' ≡ words t r h x = ap (line_words t) d in
    rw s (stand_first (words t r h x) (flat_map (line_words t) ls))
stand_line t (line r' n' h' x' ∷ ls) (suc i) r n h x e =
    rw (← length-words t r' h' x') (stand_behind (words t r' h' x') (flat_map (line_words t) ls) (total (take i ls)) (words t r h x) (stand_line t ls i r n h x e))

pub placed : (t : List Record) → Placed t
unfolding translation
placed t i r n h x e = stand_line t (lines t) i r n h x e

pub total_more : (ls : List Line) (i r n : ℕ) (h : Option Handler) (x : Record) → slice_get ls i ≡ Some (line r n h x) → total (take (suc i) ls) ≡ total (take i ls) + size h x
total_more [] i r n h x e = cc
total_more (line r' n' h' x' ∷ ls) zero r n h x e =
    let d : line r' n' h' x' ≡ line r n h x = cc in
    let s : total (line r' n' h' x' ∷ []) ≡ total (line r n h x ∷ []) = ap (λ l. total (l ∷ [])) d in
    omega arith
total_more (line r' n' h' x' ∷ ls) (suc i) r n h x e = let s = total_more ls i r n h x e in omega arith

-- the next record's address
pub address_next : (t : List Record) (i r n : ℕ) (h : Option Handler) (x : Record) → slice_get (lines t) i ≡ Some (line r n h x) → address t (suc i) ≡ address t i + size h x
address_next t i r n h x e = total_more (lines t) i r n h x e

-- an instruction's first word opens a beat, and none of the others
pub record Leads (ws : List Word) : Type 0 where
  pub first : Word
  pub rest : List Word
  pub is : ws ≡ first ∷ rest
  pub opens : first.opens ≡ true
  pub small : (a : ℕ) (w : Word) → slice_get rest a ≡ Some w → w.opens ≡ false

module _ (w : Word) (opens : w.opens ≡ true) where
  lead_1 : Leads (w ∷ [])
  lead_1 = record { first = w; rest = []; is = refl; opens = opens; small = λ a v e. clash (cc) }

  lead_2 : (u : Word) → u.opens ≡ false → Leads (w ∷ u ∷ [])
  lead_2 u low = record { first = w; rest = u ∷ []; is = refl; opens = opens; small = by }
    where
      by : (a : ℕ) (v : Word) → slice_get (u ∷ []) a ≡ Some v → v.opens ≡ false
      by zero v e = let d : u ≡ v = cc in rw d at low
      by (suc a) v e = clash (cc)

  lead_3 : (u z : Word) → u.opens ≡ false → z.opens ≡ false → Leads (w ∷ u ∷ z ∷ [])
  lead_3 u z low last = record { first = w; rest = u ∷ z ∷ []; is = refl; opens = opens; small = by }
    where
      by : (a : ℕ) (v : Word) → slice_get (u ∷ z ∷ []) a ≡ Some v → v.opens ≡ false
      by zero v e = let d : u ≡ v = cc in rw d at low
      by (suc zero) v e = let d : z ≡ v = cc in rw d at last
      by (suc (suc a)) v e = clash (cc)

pub leads : (t : List Record) (r : ℕ) (h : Option Handler) (y : Instruction) → Leads (instruction_words t r h y)
leads t r h (Constant x i) = lead_1 _ refl
leads t r h (Move x y) = lead_1 _ refl
leads t r h (Difference x y z) = lead_1 _ refl
leads t r None (Request x o y) = lead_2 _ refl _ refl
leads t r (Some h) (Request x o y) = lead_2 _ refl _ refl
leads t r None (Call x g n ys) = lead_2 _ refl _ refl
leads t r (Some h) (Call x g n ys) = lead_3 _ refl _ _ refl refl
leads t r h (Goto l) = lead_1 _ refl
leads t r h (Return x) = lead_1 _ refl
leads t r h (Branch x y l m) = lead_3 _ refl _ _ refl refl
leads t r None (Raise x) = lead_1 _ refl
leads t r (Some h) (Raise x) = lead_2 _ refl _ refl

clears_small : (p q a : ℕ) (w : Word) → slice_get (clears p q) a ≡ Some w → w.opens ≡ false
clears_small p zero a w e = clash (cc)
clears_small p (suc q) zero w e = let d : small (Set p (pos 0)) ≡ w = cc in rw (← d)
clears_small p (suc q) (suc a) w e = clears_small (suc p) q a w e

pub each_opens : (t : List Record) (i : ℕ) (y : Instruction) → slice_get t i ≡ Some (Body y) → Opens t (address t i)
each_opens t i y e =
    let l = record_line t 0 0 None i (Body y) e in
    let d = leads t l.r l.h y in
    let s : Stand (slice_get (translation t)) (address t i) (d.first ∷ d.rest) = rw d.is at (placed t i l.r l.n l.h (Body y) l.is) in
    record { word = d.first; there = s.0; opens = d.opens }

-- which line a word comes from
pub record From (t : List Record) (ls : List Line) (a : ℕ) (w : Word) : Type 0 where
  pub i : ℕ
  pub r : ℕ
  pub n : ℕ
  pub h : Option Handler
  pub x : Record
  pub k : ℕ
  pub here : slice_get ls i ≡ Some (line r n h x)
  pub word : slice_get (words t r h x) k ≡ Some w
  pub at : a ≡ total (take i ls) + k

nth_front : (ws o : List Word) (a : ℕ) → a < length ws → slice_get (ws ++ o) a ≡ slice_get ws a
nth_front [] o a l = absurd (omega arith)
nth_front (w ∷ ws) o zero l = refl
nth_front (w ∷ ws) o (suc a) l = nth_front ws o a (omega arith)

nth_back : (ws o : List Word) (a : ℕ) → slice_get (ws ++ o) (length ws + a) ≡ slice_get o a
nth_back [] o a = rw zero-add
nth_back (w ∷ ws) o a = rw suc-add (nth_back ws o a)

pub from_line : (t : List Record) (ls : List Line) (a : ℕ) (w : Word) → slice_get (flat_map (line_words t) ls) a ≡ Some w → From t ls a w
from_line t [] a w e = clash (cc)
from_line t (line r n h x ∷ ls) a w e = by (λ b. from_line t ls b w) (cases_lt a (length (words t r h x)))
  where
    by : ((b : ℕ) → slice_get (flat_map (line_words t) ls) b ≡ Some w → From t ls b w) → (a < length (words t r h x)) ⊎ (length (words t r h x) ≤ a) → From t (line r n h x ∷ ls) a w
    by rest (inl l) = record { i = 0; r = r; n = n; h = h; x = x; k = a; here = refl; word = sym (nth_front (words t r h x) (flat_map (line_words t) ls) a l) ∙ e; at = omega arith }
    by rest (inr l) =
        let m = length (words t r h x) in
        let d : a ≡ m + (a - m) = omega arith in
        let f = rest (a - m) (sym (nth_back (words t r h x) (flat_map (line_words t) ls) (a - m)) ∙ ap (slice_get (words t r h x ++ flat_map (line_words t) ls)) (sym d) ∙ e) in
        let z = length-words t r h x in
        let q = f.at in
        record { i = suc f.i; r = f.r; n = f.n; h = f.h; x = f.x; k = f.k; here = f.here; word = f.word; at = omega arith }

-- a word that opens a beat is the first of an instruction's
opener : (t : List Record) (a : ℕ) (w : Word) → w.opens ≡ true → From t (lines t) a w → (i : ℕ) × (y : Instruction) × (slice_get t i ≡ Some (Body y)) × (address t i ≡ a)
opener t a w o f = by f.x f.k f.here f.word f.at
  where
    by : (x : Record) (k : ℕ) → slice_get (lines t) f.i ≡ Some (line f.r f.n f.h x) → slice_get (words t f.r f.h x) k ≡ Some w → a ≡ address t f.i + k → (i : ℕ) × (y : Instruction) × (slice_get t i ≡ Some (Body y)) × (address t i ≡ a)
    by (Routine g p q) k here word at = let s = clears_small p q k w word in let z : true ≡ false = cc in clash (cc)
    by (Block l m) k here word at = clash (cc)
    by (Body y) zero here word at = (f.i, y, line_record t 0 0 None f.i f.r f.n f.h (Body y) here, omega arith)
    by (Body y) (suc k) here word at =
        let d = leads t f.r f.h y in
        let e = d.is in
        let s = d.small k w (ap (λ ws. slice_get ws (suc k)) (sym e) ∙ word) in
        let z : true ≡ false = cc in clash (cc)

pub opened : (t : List Record) → Opened t
unfolding translation
opened t = record { each = each_opens t; only = λ a o. opener t a o.word o.opens (from_line t (lines t) a o.word o.there) }
