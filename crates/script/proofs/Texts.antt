-- The text of sites, one more written, and where none is taken.
use Rattle.std.proofs.Common.{◌≡◌, ℕ, suc, ◌+◌, ◌<◌, Bool, true, false, Some, None, List, [], ◌∷◌, ◌++◌, length, get_or, take, codes, sym, refl, ap, ◌∙◌, append_assoc, append-nil, arith}
use Rattle.std.specs.List.{list_all}
use Rattle.std.proofs.lemmas.List.{take_more, length-take-le}
use Rattle.bench.specs.Sight.{Spot}
use Rattle.script.specs.Answers.{spot_text_of, taken_text_of, or_none}

abbrev pub free : Spot → Bool
free None = true
free (Some p) = false

none_taken : (i : ℕ) (ps : List Spot) → list_all free ps ≡ true → taken_text_of i ps ≡ []
none_taken i [] h = refl
none_taken i (None ∷ ps) h = none_taken (suc i) ps h
none_taken i (Some p ∷ ps) h = cc

pub no_sites : (ps : List Spot) → list_all free ps ≡ true → codes " none" ≡ or_none (taken_text_of 0 ps)
no_sites ps h = ap or_none (sym (none_taken 0 ps h))

some_taken : (i : ℕ) (ps : List Spot) → list_all free ps ≡ false → taken_text_of i ps ≡ or_none (taken_text_of i ps)
some_taken i [] h = cc
some_taken i (None ∷ ps) h = some_taken (suc i) ps h
some_taken i (Some p ∷ ps) h = refl

pub some_sites : (ps : List Spot) → list_all free ps ≡ false → taken_text_of 0 ps ≡ or_none (taken_text_of 0 ps)
some_sites ps h = some_taken 0 ps h

taken_push : (i n : ℕ) (ps : List Spot) (p : Spot) → i + length ps ≡ n → taken_text_of i (ps ++ p ∷ []) ≡ taken_text_of i ps ++ spot_text_of n p
taken_push i n [] p e = append-nil (spot_text_of i p) ∙ ap (λ k. spot_text_of k p) (omega arith)
taken_push i n (q ∷ ps) p e = ap (λ t. spot_text_of i q ++ t) (taken_push (suc i) n ps p (omega arith)) ∙ sym (append_assoc (spot_text_of i q) (taken_text_of (suc i) ps) (spot_text_of n p))

-- one site more, whose text is t
pub taken_more : (ps : List Spot) (i : ℕ) (p : Spot) (t : List ℕ) → i < length ps → p ≡ get_or ps i p → spot_text_of i p ≡ t → taken_text_of 0 (take i ps) ++ t ≡ taken_text_of 0 (take (i + 1) ps)
taken_more ps i p t h here text =
    ap (λ u. taken_text_of 0 (take i ps) ++ u) (sym text)
    ∙ sym (taken_push 0 i (take i ps) p (omega (arith, length-take-le i ps (omega arith))))
    ∙ ap (λ q. taken_text_of 0 (take i ps ++ q ∷ [])) here
    ∙ ap (taken_text_of 0) (sym (take_more ps i p h))
