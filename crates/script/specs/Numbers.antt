-- The numbers of a script: base ten, 32 bits, an optional sign before the digits.
use Rattle.std.specs.Prelude.{◌≡◌, ℤ, FitsSigned}
use Rattle.std.specs.Int.{w32}
use Rattle.std.specs.Str.Parse.{IsNumeral, without_leading_sign, signed_digits_value}
use Rattle.script.specs.Words.{Word}

pub record Writes (w : Word) (z : ℤ) : Type 0 where
  -- one digit or more, after a sign if there is one
  pub digits : IsNumeral 10 (without_leading_sign w)
  pub value : z ≡ signed_digits_value 10 w
  -- z fits 32 bits
  pub fits : FitsSigned w32 z
