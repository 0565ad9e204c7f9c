-- From what `map_err` answers to what it was given.
use Rattle.std.proofs.Common.{◌≡◌, Ok, Err, Result, MatchResult, Some, None, Option, refl, ap, subst}
use Rattle.std.specs.Option.{ok_or}
use Rattle.std.specs.Result.{IsErrAnd}
use Rattle.language.proofs.Lists.{clash}

module _ {X C D : Type 0} (Q : C → D → Type 0) where
  pub mapped_err : (d : Result X C) (m : Result X D) (l : D) → MatchResult d (λ x. m ≡ Ok x) (λ e. IsErrAnd m (Q e)) → m ≡ Err l → (e : C) × (d ≡ Err e) × Q e l
  mapped_err (Ok y) (Ok x) l h e = clash (cc)
  mapped_err (Ok y) (Err k) l h e = clash (cc)
  mapped_err (Err c) (Ok y) l h e = absurd h
  mapped_err (Err c) (Err k) l h e = let same : k ≡ l = cc in (c, refl, subst (Q c) same h)

-- and of `ok_or`
module _ {X E : Type 0} where
  pub ok_or_ok : (o : Option X) (e : E) (r : Result X E) (x : X) → r ≡ ok_or o e → r ≡ Ok x → o ≡ Some x
  ok_or_ok (Some y) e r x h is = let same : y ≡ x = cc in ap Some same
  ok_or_ok None e r x h is = clash (cc)

  pub ok_or_err : (o : Option X) (e : E) (r : Result X E) (f : E) → r ≡ ok_or o e → r ≡ Err f → (o ≡ None) × (e ≡ f)
  ok_or_err (Some y) e r f h is = clash (cc)
  ok_or_err None e r f h is = (refl, cc)
