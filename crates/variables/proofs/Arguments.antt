-- Arguments put into variables: what is made of a function of the place holds at each place.
use Rattle.std.proofs.Common.{◌≡◌, ℕ, zero, suc, ◌+◌, ◌-◌, ◌<◌, ◌≤◌, ◌⊎◌, List, length, get_or, replicate, ℤ, pos, inl, inr, refl, sym, ap, ◌∙◌, subst, arith, length-append}
use denote.Param.Members.{Mut}
use lib.ListN.{length-replicate, get_or-append, get_or-eq_default}
use Rattle.std.proofs.lemmas.Bool.{cases_eq, cases_lt}
use Rattle.std.proofs.lemmas.List.{get_or-append_right, get_or-replicate, get_or_default, same_lists}
use Rattle.std.specs.Array.{IsFromFnResultFrom, IsFromFnResult}
use Rattle.std.specs.Fn.{Called}
use Rattle.language.specs.Runs.{variable_count, with_arguments}

-- what stands at a place: the argument of that place, or 0
at_place : (l : List ℤ) (k : ℕ) (d : ℤ) → k < variable_count → get_or (with_arguments l) k d ≡ get_or l k (pos 0)
at_place l k d here = by (cases_lt k (length l))
  where
    by : (k < length l) ⊎ (length l ≤ k) → get_or (with_arguments l) k d ≡ get_or l k (pos 0)
    by (inl h) = get_or-append l (replicate (variable_count - length l) (pos 0)) d k h ∙ get_or_default l k d (pos 0) h
    by (inr h) =
        get_or-append_right l (replicate (variable_count - length l) (pos 0)) (length l) k d refl h
        ∙ get_or-replicate (variable_count - length l) (k - length l) (pos 0) d (omega arith)
        ∙ sym (get_or-eq_default l (pos 0) h)

-- as many values as there are variables
full : (l : List ℤ) → length l ≤ variable_count → length (with_arguments l) ≡ variable_count
full l most = length-append l _ ∙ ap (λ k. length l + k) (length-replicate (variable_count - length l) (pos 0)) ∙ omega arith

-- a closure that changes nothing, and answers with the argument of a place, or with 0
module _ {F : Type 0} (g : Mut F (ℕ × Unit {0}) ℤ) (f : F) (l : List ℤ) (answers : (i : ℕ) (y : ℤ) (q : F) → Called g f (i, tt) y q → (y ≡ get_or l i (pos 0)) × (q ≡ f)) where
  made_from : (ys : List ℤ) (n i k : ℕ) (p : F) → p ≡ f → IsFromFnResultFrom g p ys i n → i ≤ k → k < i + n → (d : ℤ) → get_or ys k d ≡ get_or l k (pos 0)
  made_from ys zero i k p same m a b d = absurd (omega arith)
  made_from ys (suc n) i k p same (q, y, there, call, rest) a b d =
      let told = answers i y q (subst (λ r. Called g r (i, tt) y q) same call) in
      elim (cases_eq k i) [
        | inl e ↦ ap (λ j. get_or ys j d) e ∙ there.1 d ∙ told.0 ∙ ap (λ j. get_or l j (pos 0)) (sym e)
        | inr e ↦ made_from ys n (i + 1) k q told.1 rest (omega arith) (omega arith) d
      ]

  pub placed : (ys : List ℤ) → length l ≤ variable_count → IsFromFnResult g f ys variable_count → ys ≡ with_arguments l
  placed ys most m = same_lists ys (with_arguments l) (m.long ∙ sym (full l most))
      (λ k d h. let here : k < variable_count = omega (arith, m.long, h) in made_from ys variable_count 0 k f refl m.each (omega arith) (omega arith) d ∙ sym (at_place l k d here))
