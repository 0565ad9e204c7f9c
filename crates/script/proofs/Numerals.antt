-- A word that writes a number is text, so that no number is lost where a word is none.
use Rattle.std.proofs.Common.{◌≡◌, ℕ, Bool, true, false, eqb, List, [], ◌∷◌, ℤ, IsUtf8, IsAscii, sym, refl, subst, arith, to_z-of_z, w32, to_z, of_z, true-eqb}
use Rattle.std.specs.Str.Parse.{IsNumeral, without_leading_sign}
use Rattle.std.proofs.lemmas.Str.Ascii.{IsAscii-nil, IsAscii-cons}
use Rattle.std.proofs.lemmas.Fmt.{IsAscii-from_digits}
use Rattle.std.proofs.lemmas.Str.{IsUtf8-from_ascii}
use Rattle.script.specs.Fields.{Takes}
use Rattle.script.specs.Numbers.{Writes}
use Rattle.script.specs.Words.{Word}

signed_ascii : (w : List ℕ) → IsNumeral 10 (without_leading_sign w) → IsAscii w
signed_ascii [] h = IsAscii-nil
signed_ascii (x ∷ xs) h = by (eqb x 45) refl (eqb x 43) refl h
  where
    by : (m : Bool) → eqb x 45 ≡ m → (p : Bool) → eqb x 43 ≡ p → IsNumeral 10 (without_leading_sign (x ∷ xs)) → IsAscii (x ∷ xs)
    by true e p f n = IsAscii-cons x xs (omega (arith, true-eqb x 45 (sym e))) (IsAscii-from_digits xs (rw e at n).1)
    by false e true f n = IsAscii-cons x xs (omega (arith, true-eqb x 43 (sym f))) (IsAscii-from_digits xs (rw (e, f) at n).1)
    by false e false f n = IsAscii-from_digits (x ∷ xs) (rw (e, f) at n).1

pub writes_text : (w : List ℕ) (z : ℤ) → Writes w z → IsUtf8 w
writes_text w z h = IsUtf8-from_ascii w (signed_ascii w h.digits)

-- a number that fits 32 bits is the number that its bits stand for
pub by_bits : {ws rest : List Word} {z : ℤ} → Takes Writes ws z rest → Takes Writes ws (to_z w32 (of_z w32 z)) rest
by_bits {ws} {rest} {z} t = subst (λ y. Takes Writes ws y rest) (sym (to_z-of_z t.says.fits)) t
