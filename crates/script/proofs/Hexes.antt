-- Words of pairs of digits, pair by pair.
use Rattle.std.proofs.Common.{◌≡◌, ℕ, zero, suc, ◌+◌, ◌*◌, ◌/◌, ◌%◌, ◌<◌, ◌≤◌, Bool, true, nat_lt, [], ◌∷◌, map, length, codes, Decides, Some, None, Option, SomeIff, refl, ap, subst, arith, sym}
use Rattle.std.specs.Char.{digit_value}
use Rattle.std.specs.List.{list_all}
use Rattle.std.specs.Option.{unwrap_or}
use Rattle.std.specs.Simd.{first_chunks}
use Rattle.std.proofs.lemmas.Bool.{ltb-true, lt-ltb, le-ltb, and_parts}
use Rattle.script.specs.Tables.{Pairs, Hex, none, digits, nibble, pair_value, hex_bytes}
use Rattle.script.specs.Words.{Word}

abbrev pub is_digit : ℕ → Bool
is_digit b = nat_lt (digit_value b) 16

pub pairs_of : (w : Word) → length w % 2 ≡ 0 → list_all is_digit w ≡ true → Pairs w
pairs_of [] e h = tt
pairs_of (a ∷ []) e h = absurd (omega arith)
pairs_of (a ∷ b ∷ w) e h =
    let first = and_parts (is_digit a) _ h in
    let second = and_parts (is_digit b) _ first.1 in
    (ltb-true (digit_value a) 16 first.0, ltb-true (digit_value b) 16 second.0, pairs_of w (omega arith) second.1)

pub of_pairs : (w : Word) → Pairs w → (length w % 2 ≡ 0) × (list_all is_digit w ≡ true)
of_pairs [] p = (refl, refl)
of_pairs (a ∷ []) p = absurd p
of_pairs (a ∷ b ∷ w) p =
    let rest = of_pairs w p.2 in
    (omega arith, rw (lt-ltb (digit_value a) 16 p.0, lt-ltb (digit_value b) 16 p.1) rest.1)

-- the pairs of a word, one by one
pub bytes_of : (w : Word) (k : ℕ) → k ≡ length w / 2 → map pair_value (first_chunks 2 k w) ≡ hex_bytes w
bytes_of [] zero e = refl
bytes_of [] (suc k) e = absurd (omega arith)
bytes_of (a ∷ []) zero e = refl
bytes_of (a ∷ []) (suc k) e = absurd (omega arith)
bytes_of (a ∷ b ∷ w) zero e = absurd (omega arith)
bytes_of (a ∷ b ∷ w) (suc k) e = ap (λ bs. (nibble a * 16 + nibble b) ∷ bs) (bytes_of w k (omega arith))

pub dash : (w : Word) → w ≡ codes "-" → Hex w
dash w e = subst Hex (sym e) none

hex_pairs : (w : Word) → (w ≡ codes "-" → ⊥) → Hex w → Pairs w
hex_pairs w n none = absurd (n refl)
hex_pairs w n (digits p) = p

pub decides_hex : (w : Word) (r : Bool) → (w ≡ codes "-" → ⊥) → Decides r (Pairs w) → Decides r (Hex w)
decides_hex w r n h = (λ t. digits (h.0 t), λ x. h.1 (hex_pairs w n x))

pub nibble_of : (b : ℕ) (r : Option ℕ) → SomeIff r (digit_value b < 16) (digit_value b) → unwrap_or r 0 ≡ nibble b
nibble_of b None h = let high : 16 ≤ digit_value b = omega arith in rw (le-ltb (digit_value b) 16 high)
nibble_of b (Some x) h = rw (lt-ltb (digit_value b) 16 h.0) h.1
