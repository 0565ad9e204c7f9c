-- One run of bytes written after another.
use Rattle.std.proofs.Common.{◌≡◌, ℕ, zero, suc, ◌+◌, List, [], ◌∷◌, ◌++◌, pos, sym, ap, ◌∙◌, append_assoc, add-zero, arith, length-append}
use Rattle.std.specs.List.{flat_map}
use Rattle.std.proofs.lemmas.List.{flat_map_more}
use Rattle.language.specs.declared.operation.Operation.TheVariants.{Set}
use Rattle.language.specs.declared.word.Word.{Word}
use Rattle.language.specs.Code.{word_bytes}
use Rattle.language.specs.Translation.{small, clears}
use Rattle.translation.specs.Buffers.{over, Appends}

pub then_appends : (at m r : ℕ) (bs cs out out' out'' : List ℕ) → Appends at bs out out' m → Appends m cs out' out'' r → Appends at (bs ++ cs) out out'' r
then_appends at m r bs cs out out' out'' p q = record {
  next = omega (arith, p.next, q.next, length-append bs cs);
  after = λ front base a o. q.after (front ++ bs) base (omega (arith, p.next, a, length-append front bs)) (p.after front base a o) ∙ ap (λ f. over f base) (append_assoc front bs cs);
}

-- the words of a list, by one more at its end or at its front
module _ (at : ℕ) (out : List ℕ) where
  pub more_appends : (ws : List Word) (w : Word) (out' out'' : List ℕ) (m r : ℕ) → Appends at (flat_map word_bytes ws) out out' m → Appends m (word_bytes w) out' out'' r → Appends at (flat_map word_bytes (ws ++ w ∷ [])) out out'' r
  more_appends ws w out' out'' m r p q = rw (← flat_map_more word_bytes [] ws w) (then_appends at m r (flat_map word_bytes ws) (word_bytes w) out out' out'' p q)

-- one local more
pub clears_more : (p q : ℕ) → clears p (q + 1) ≡ clears p q ++ small (Set (p + q) (pos 0)) ∷ []
clears_more p zero = ap (λ n. small (Set n (pos 0)) ∷ []) (sym (add-zero p))
clears_more p (suc q) =
    let e : suc q + 1 ≡ suc (q + 1) = omega arith in
    let f : suc p + q ≡ p + suc q = omega arith in
    ap (clears p) e ∙ ap (λ ws. small (Set p (pos 0)) ∷ ws) (clears_more (suc p) q ∙ ap (λ n. clears (suc p) q ++ small (Set n (pos 0)) ∷ []) f)

-- a word for each local, one more
pub clears_append : (p q at m r : ℕ) (out out' out'' : List ℕ) (w : Word) → w ≡ small (Set (p + q) (pos 0)) → Appends at (flat_map word_bytes (clears p q)) out out' m → Appends m (word_bytes w) out' out'' r → Appends at (flat_map word_bytes (clears p (q + 1))) out out'' r
clears_append p q at m r out out' out'' w e a b = rw (clears_more p q, ← e) (more_appends at out (clears p q) w out' out'' m r a b)
