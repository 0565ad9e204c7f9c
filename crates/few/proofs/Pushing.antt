-- What a push that succeeds leaves, and that it does where there is room.
use Rattle.std.proofs.Common.{◌≡◌, ℕ, ◌<◌, List, [], ◌∷◌, ◌++◌, length, Ok, Err, Result, refl, arith}
use Rattle.std.specs.Result.{IsOk}
use Rattle.few.specs.declared.full.Full.{Full}
use Rattle.few.specs.Held.{Pushed}

module _ {T U : Type 0} (n : ℕ) (xs : List T) (x : T) where
  pub pushed : (r : Result U Full) (u : U) (ys : List T) → r ≡ Ok u → Pushed n xs x r ys → ys ≡ xs ++ x ∷ []
  pushed (Ok v) u ys e p = p.1
  pushed (Err f) u ys e p = absurd (no e)
    where
      no : Err f ≡ Ok u → ⊥
      no e = cc

  pub push_fits : (r : Result U Full) (ys : List T) → length xs < n → Pushed n xs x r ys → IsOk r
  push_fits (Ok v) ys l p = refl
  push_fits (Err f) ys l p = absurd (omega (arith, p.0))

  pub push_adds : (r : Result U Full) (ys : List T) → length xs < n → Pushed n xs x r ys → ys ≡ xs ++ x ∷ []
  push_adds (Ok v) ys l p = p.1
  push_adds (Err f) ys l p = absurd (omega (arith, p.0))
