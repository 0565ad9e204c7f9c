-- What `map` of an array makes, by a closure that changes nothing and answers by v.
use Rattle.std.proofs.Common.{◌≡◌, ℕ, zero, suc, ◌+◌, ◌<◌, ◌≤◌, List, length, get_or, map, refl, sym, ap, ◌∙◌, subst, inl, inr, arith}
use denote.Param.Members.{Mut}
use Rattle.std.proofs.lemmas.List.{same_lists, length-map, get_or-map}
use Rattle.std.proofs.lemmas.Bool.{cases_eq}
use Rattle.std.specs.Fn.{Called}
use Rattle.std.specs.Array.{MapsFrom, IsMapOf}

module _ {F A B : Type 0} (g : Mut F (A × Unit {0}) B) (v : A → B) (f : F) (answers : (x : A) (y : B) (q : F) → Called g f (x, tt) y q → (y ≡ v x) × (q ≡ f)) where
  maps_from : (xs : List A) (ys : List B) (n i k : ℕ) (p : F) → p ≡ f → MapsFrom g p xs ys i n → i ≤ k → k < i + n → k < length xs → (e : B) → get_or ys k e ≡ get_or (map v xs) k e
  maps_from xs ys zero i k p same m a b h e = absurd (omega arith)
  maps_from xs ys (suc n) i k p same (q, x, y, here, there, call, rest) a b h e =
      let told = answers x y q (subst (λ r. Called g r (x, tt) y q) same call) in
      elim (cases_eq k i) [
        | inl eq ↦ ap (λ j. get_or ys j e) eq ∙ there.1 e ∙ told.0 ∙ ap v (sym (here.1 x)) ∙ ap (λ j. v (get_or xs j x)) (sym eq) ∙ sym (get_or-map v xs k x e h)
        | inr ne ↦ maps_from xs ys n (i + 1) k q told.1 rest (omega arith) (omega arith) h e
      ]

  pub mapped : (xs : List A) (ys : List B) (n : ℕ) → length xs ≡ n → IsMapOf g f xs ys n → ys ≡ map v xs
  mapped xs ys n long m = same_lists ys (map v xs) (m.long ∙ sym long ∙ sym (length-map xs v))
      (λ k e h. maps_from xs ys n 0 k f refl m.each (omega arith) (omega (arith, m.long)) (omega (arith, m.long)) e)
