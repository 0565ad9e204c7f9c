-- The words in the bytes that a stand runs.
use Rattle.std.proofs.Common.{◌≡◌, ℕ, zero, suc, ◌+◌, ◌-◌, ◌*◌, ◌<◌, ◌≤◌, List, [], length, get_or, take, drop, Some, None, sym, refl, ap, ◌∙◌, arith}
use Rattle.continuation.specs.Decoding.{Decodes}
use Rattle.language.proofs.CodeWords.{code_word}
use Rattle.language.proofs.Lists.{nth_some}
use Rattle.language.proofs.Sizes.{length-code}
use Rattle.language.specs.Code.{code}
use Rattle.language.specs.CodeWords.{WordAt}
use Rattle.language.specs.Translation.{translation}
use Rattle.language.specs.WellFormed.{WellFormed}
use Rattle.language.specs.declared.record.Record.{Record}
use Rattle.language.specs.declared.word.Word.{Word}
use Rattle.std.proofs.lemmas.List.{take-take, drop-take, drop-drop}
use Rattle.std.specs.Simd.{first_chunks}

-- the chunk at a place
chunk : {X : Type 0} (n i : ℕ) (xs : List X) → i < n → get_or (first_chunks 8 n xs) i [] ≡ take 8 (drop (8 * i) xs)
chunk zero i xs l = absurd (omega arith)
chunk (suc n) zero xs l = refl
chunk (suc n) (suc i) xs l =
    let e : 8 + 8 * i ≡ 8 * suc i = omega arith in
    chunk n i (drop 8 xs) (omega arith) ∙ ap (take 8) (drop-drop (8 * i) 8 xs ∙ ap (λ k. drop k xs) e)

-- eight bytes of the front
inner : {X : Type 0} (n k : ℕ) (xs : List X) → k + 8 ≤ n → take 8 (drop k (take n xs)) ≡ take 8 (drop k xs)
inner n k xs l =
    let e : k + (n - k) ≡ n = omega arith in
    ap (λ m. take 8 (drop k (take m xs))) (sym e) ∙ ap (take 8) (drop-take k (n - k) xs) ∙ take-take 8 (n - k) (drop k xs) (omega arith)

module _ (t : List Record) (ok : WellFormed t) (bs : List ℕ) (coded : take (length (code t)) bs ≡ code t) (a : ℕ) (low : a < length (translation t)) where
  -- the bytes of the word at an address
  here : take 8 (drop (8 * a) bs) ≡ take 8 (drop (8 * a) (code t))
  here = sym (inner (length (code t)) (8 * a) bs (omega (arith, low, length-code t))) ∙ ap (λ xs. take 8 (drop (8 * a) xs)) coded

  module _ (n : ℕ) (within : a < n) where
    row : List ℕ
    row = get_or (first_chunks 8 n bs) a []

    pub word_read : (w : Word) → Decodes (get_or (first_chunks 8 n bs) a []) (Some w) → WordAt (code t) a w
    word_read w (ranged, is) = record { ranged = ranged; here = sym (is ∙ chunk n a bs within ∙ here) }

    pub word_there : Decodes (get_or (first_chunks 8 n bs) a []) None → ⊥
    word_there none =
        let w = nth_some (translation t) a low in
        let at = code_word t ok a w.0 w.1 in
        none w.0 at.ranged (sym (chunk n a bs within ∙ here ∙ at.here))
