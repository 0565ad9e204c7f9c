-- Set-up and turning have exactly one outcome.
use Rattle.std.proofs.Common.{◌≡◌, ℕ, zero, suc, ◌+◌, ◌<◌, ◌≤◌, ◌⊎◌, List, [], ◌∷◌, map, length, get_or, replicate, ℤ, pos, negsuc, Some, None, Ok, Err, Option, Result, sym, refl, ap, ◌∙◌, subst, inl, inr, arith}
use lib.ListN.{get_or-map}
use Rattle.std.proofs.lemmas.Int.{ints}
use Rattle.std.proofs.lemmas.Bool.{cases_lt}
use Rattle.bench.specs.Bounds.{feeder_count, most_in_feeder, full_turn}
use Rattle.bench.specs.Laws.{OneSetUp, OneTurn}
use Rattle.bench.specs.Ranges.{Angle, Outside, below, angle_at}
use Rattle.bench.specs.SetUps.{SetsUp, TurnsBy}
use Rattle.bench.specs.SetUps.SetsUp.{taken_over, refused}
use Rattle.bench.specs.SetUps.TurnsBy.{shifted, refused as unturned}
use Rattle.bench.specs.States.{fresh}
use Rattle.bench.specs.declared.refusal.SetUpRefusal.{SetUpRefusal}
use Rattle.bench.specs.declared.refusal.SetUpRefusal.TheVariants.{CountOutOfRange}
use Rattle.bench.specs.declared.refusal.ShiftRefusal.{ShiftRefusal}
use Rattle.bench.specs.declared.refusal.ShiftRefusal.TheVariants.{ShiftOutOfRange}
use Rattle.bench.specs.declared.state.State.{State}
use Rattle.bench.proofs.Ranges.{Ranging, ranging, below_in, below_out}
use Rattle.bench.proofs.Ranges.Ranging.{inside, outside}

abbrev pub Setting : Type 0
Setting = Result (Unit {0}) SetUpRefusal × State

-- counts are counts of numbers in range, or one of them lies outside
data Counting (zs : List ℤ) : Type 0 where
  counts : (ns : List ℕ) → zs ≡ map pos ns → ((k : ℕ) → k < length zs → get_or ns k 0 ≤ most_in_feeder) → Counting zs
  stray : (k : ℕ) → k < length zs → Outside (most_in_feeder + 1) (get_or zs k (pos 0)) → Counting zs

one_more : (n : ℕ) (zs : List ℤ) → n ≤ most_in_feeder → Counting zs → Counting (pos n ∷ zs)
one_more n zs h (stray k l o) = stray (suc k) (omega arith) o
one_more n zs h (counts ns e l) = counts (n ∷ ns) (ap (λ xs. pos n ∷ xs) e) at
  where
    at : (k : ℕ) → k < suc (length zs) → get_or (n ∷ ns) k 0 ≤ most_in_feeder
    at zero _ = h
    at (suc k) j = l k (omega arith)

counting : (zs : List ℤ) → Counting zs
counting [] = counts [] refl (λ k h. absurd (omega arith))
counting (negsuc n ∷ zs) = stray 0 (omega arith) (inl (omega (arith, ints)))
counting (pos n ∷ zs) = by (cases_lt most_in_feeder n) (counting zs)
  where
    by : (most_in_feeder < n) ⊎ (n ≤ most_in_feeder) → Counting zs → Counting (pos n ∷ zs)
    by (inl h) c = stray 0 (omega arith) (inr (omega (arith, ints)))
    by (inr h) c = one_more n zs h c

some_set_up : (zs : List ℤ) → length zs ≡ feeder_count → Counting zs → (o : Setting) × SetsUp zs o.0 o.1
some_set_up zs e (counts ns s h) = ((Ok tt, fresh ns), taken_over ns s (λ k l. h k (omega arith)))
some_set_up zs e (stray k h o) = ((Err CountOutOfRange, fresh (replicate feeder_count 0)), refused k (omega arith) o)

same_numbers : (ns ms : List ℕ) → map pos ns ≡ map pos ms → ns ≡ ms
same_numbers [] [] e = refl
same_numbers [] (m ∷ ms) e = let o : ◌≡◌ {A = ℕ} 0 1 = cc in absurd (omega arith)
same_numbers (n ∷ ns) [] e = let o : ◌≡◌ {A = ℕ} 0 1 = cc in absurd (omega arith)
same_numbers (n ∷ ns) (m ∷ ms) e = let rest = same_numbers ns ms cc in cc

-- numbers in range are not out of range
not_stray : (zs : List ℤ) (ns : List ℕ) (k : ℕ) → zs ≡ map pos ns → ((j : ℕ) → j < feeder_count → get_or ns j 0 ≤ most_in_feeder) → k < feeder_count → Outside (most_in_feeder + 1) (get_or zs k (pos 0)) → ⊥
not_stray zs ns k s h l o =
    let at : get_or zs k (pos 0) ≡ pos (get_or ns k 0) = ap (λ xs. get_or xs k (pos 0)) s ∙ get_or-map pos ns k 0 in
    let small = h k l in
    elim (subst (Outside (most_in_feeder + 1)) at o) [ inl b ↦ omega (arith, ints, b) | inr b ↦ omega (arith, ints, b) ]

pub same_set_up : (zs : List ℤ) (o p : Setting) → SetsUp zs o.0 o.1 → SetsUp zs p.0 p.1 → p ≡ o
same_set_up zs (r, s) (r', s') a b = by r s r' s' a b
  where
    by : (r : Result (Unit {0}) SetUpRefusal) (s : State) (r' : Result (Unit {0}) SetUpRefusal) (s' : State) → SetsUp zs r s → SetsUp zs r' s' → ◌≡◌ {A = Setting} (r', s') (r, s)
    by r s r' s' (taken_over ns f h) (taken_over ms g l) = ap (λ xs. (Ok tt, fresh xs)) (same_numbers ms ns (sym g ∙ f))
    by r s r' s' (taken_over ns f h) (refused k l o) = absurd (not_stray zs ns k f h l o)
    by r s r' s' (refused k l o) (taken_over ms g h) = absurd (not_stray zs ms k g h l o)
    by r s r' s' (refused k l o) (refused j h p) = refl

pub one_set_up : OneSetUp
one_set_up zs e = let o = some_set_up zs e (counting zs) in (o.0, o.1, λ p h. same_set_up zs o.0 p o.1 h)

abbrev pub Turning : Type 0
Turning = Result (Unit {0}) ShiftRefusal × Angle

-- the outcome of a turn, by what the number is
abbrev turning : Option Angle → Turning
turning (Some a) = (Ok tt, a)
turning None = (Err ShiftOutOfRange, below full_turn 0 (omega arith))

by_turn : (z : ℤ) (r : Result (Unit {0}) ShiftRefusal) (a : Angle) → TurnsBy z r a → (r, a) ≡ turning (angle_at z)
by_turn z r a (shifted b) = ap turning (below_in full_turn b.value b.within)
by_turn z r a (unturned h) = ap turning (sym (below_out full_turn z h))

some_turn : (z : ℤ) (o : Option Angle) → Ranging full_turn z o → TurnsBy z (turning o).0 (turning o).1
some_turn z o (inside a) = shifted a
some_turn z o (outside h) = unturned h

pub one_turn : OneTurn
one_turn z = (turning (angle_at z), some_turn z (angle_at z) (ranging full_turn z), λ o h. by_turn z o.0 o.1 h)

pub same_turn : (z : ℤ) (o p : Turning) → TurnsBy z o.0 o.1 → TurnsBy z p.0 p.1 → p ≡ o
same_turn z o p a b = by_turn z p.0 p.1 b ∙ sym (by_turn z o.0 o.1 a)
