-- What one placement more does to the spots that a log stands for, and what stands at a site.
use Rattle.std.specs.Prelude.{◌≡◌, ℕ, zero, suc, ◌<◌, ◌≤◌, Some, None, List, [], ◌∷◌, ◌++◌, length, sum_by, slice_index_or, slice_set, refl}
use Rattle.std.proofs.Common.{ap, ◌∙◌, arith}
use Rattle.std.proofs.lemmas.List.{length-set}
use Rattle.std.proofs.lemmas.List.Sums.{sum_by-cons}
use Rattle.bench.specs.Bounds.{site_count}
use Rattle.bench.specs.Sight.{Spot}
use Rattle.bench.specs.States.{on_spot}
use Rattle.benches.specs.Laid.{laid, after}
use Rattle.benches.specs.Spots.{all_free}
use Rattle.benches.specs.declared.placement.Placement.{Placement}

pub laid_push : (ps : List Placement) (p : Placement) (spots : List Spot) → laid (ps ++ p ∷ []) spots ≡ slice_set (laid ps spots) p.site.value (Some p.part)
laid_push [] p spots = refl
laid_push (q ∷ ps) p spots = laid_push ps p (slice_set spots q.site.value (Some q.part))

length_laid : (ps : List Placement) (spots : List Spot) → length (laid ps spots) ≡ length spots
length_laid [] spots = refl
length_laid (p ∷ ps) spots = length_laid ps (slice_set spots p.site.value (Some p.part)) ∙ length-set spots p.site.value (Some p.part)

pub length_after : (ps : List Placement) → length (after ps) ≡ site_count
length_after ps = length_laid ps all_free

one_at_most : (p : Spot) → on_spot p ≤ 1
one_at_most None = omega arith
one_at_most (Some p) = omega arith

all_at_most : (spots : List Spot) → sum_by on_spot spots ≤ length spots
all_at_most [] = omega arith
all_at_most (p ∷ spots) = omega (arith, one_at_most p, all_at_most spots, sum_by-cons on_spot p spots)

-- where a site is free, not every site is taken
pub room : (spots : List Spot) (i : ℕ) → i < length spots → slice_index_or spots i None ≡ None → sum_by on_spot spots < length spots
room [] i h e = absurd (omega arith)
room (p ∷ spots) zero h e = let none : on_spot p ≡ 0 = ap on_spot e in omega (arith, all_at_most spots, sum_by-cons on_spot p spots)
room (p ∷ spots) (suc i) h e = omega (arith, one_at_most p, room spots i (omega arith) e, sum_by-cons on_spot p spots)
