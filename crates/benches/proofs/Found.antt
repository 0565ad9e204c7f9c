-- What stands at a site after placements: the part of the last that was made there, if there is one.
use Rattle.std.proofs.Common.{◌≡◌, ℕ, ◌<◌, Bool, true, false, cond, ◌==◌, Some, None, Option, List, [], ◌∷◌, ◌++◌, length, get_or, set, reverse, sym, refl, ap, ◌∙◌, subst, arith}
use Rattle.std.specs.List.{find}
use Rattle.std.proofs.lemmas.List.{length-set, get_or-set_same, get_or-set_other, reverse-append}
use Rattle.std.proofs.lemmas.Bool.{eqb-true, eqb-false}
use Rattle.bench.specs.Sight.{Spot}
use Rattle.benches.specs.Laid.{laid}
use Rattle.benches.specs.declared.placement.Placement.{Placement}

-- a placement on the site k
abbrev pub on : ℕ → Placement → Bool
on k p = p.site.value == k

-- the part of the placement that was found, or else what was there
abbrev pub found_or : Spot → Option Placement → Spot
found_or was None = was
found_or was (Some p) = Some p.part

-- what is found of one placement more, the oldest
find_push : (k : ℕ) (ps : List Placement) (p : Placement) (was : Spot) → found_or was (find (on k) (ps ++ p ∷ [])) ≡ found_or (found_or was (find (on k) (p ∷ []))) (find (on k) ps)
find_push k [] p was = refl
find_push k (q ∷ ps) p was = by (on k q) (find_push k ps p was)
  where
    by : (b : Bool) → found_or was (find (on k) (ps ++ p ∷ [])) ≡ found_or (found_or was (find (on k) (p ∷ []))) (find (on k) ps) →
        found_or was (cond b (Some q) (find (on k) (ps ++ p ∷ []))) ≡ found_or (found_or was (find (on k) (p ∷ []))) (cond b (Some q) (find (on k) ps))
    by true rest = refl
    by false rest = rest

find_one : (k : ℕ) (p : Placement) (spots : List Spot) → k < length spots → found_or (get_or spots k None) (find (on k) (p ∷ [])) ≡ get_or (set spots p.site.value (Some p.part)) k None
find_one k p spots h = by (on k p) refl
  where
    by : (b : Bool) → on k p ≡ b → found_or (get_or spots k None) (cond b (Some p) None) ≡ get_or (set spots p.site.value (Some p.part)) k None
    by true e = let same : p.site.value ≡ k = eqb-true p.site.value k e in subst (λ i. Some p.part ≡ get_or (set spots i (Some p.part)) k None) (sym same) (sym (get_or-set_same spots k (Some p.part) None h))
    by false e = sym (get_or-set_other spots p.site.value k (Some p.part) None (λ same. eqb-false p.site.value k e (sym same)))

pub found : (k : ℕ) (ps : List Placement) (spots : List Spot) → k < length spots → found_or (get_or spots k None) (find (on k) (reverse ps)) ≡ get_or (laid ps spots) k None
found k [] spots h = refl
found k (p ∷ ps) spots h =
    let more = set spots p.site.value (Some p.part) in
    let was = get_or spots k None in
    ap (λ qs. found_or was (find (on k) qs)) (reverse-append (p ∷ []) ps)
    ∙ find_push k (reverse ps) p was
    ∙ ap (λ w. found_or w (find (on k) (reverse ps))) (find_one k p spots h)
    ∙ found k ps more (omega (arith, h, length-set spots p.site.value (Some p.part)))
