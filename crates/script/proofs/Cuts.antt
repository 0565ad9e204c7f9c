-- The first word of a text is what stands between its first blanks and the next one.
use Rattle.std.proofs.Common.{◌≡◌, ℕ, zero, suc, ◌-◌, ◌<◌, Bool, true, false, List, [], ◌∷◌, length, get_or, take, drop, Some, None, Option, MatchOption, not, sym, refl, ap, ◌∙◌, subst, arith}
use Rattle.std.specs.List.{AllWithin, HoldsAt}
use Rattle.std.specs.Option.{unwrap_or}
use Rattle.std.proofs.lemmas.List.{drop_all, length-drop, length-take-le, get_or-drop}
use Rattle.script.specs.Words.{blank, first, others, filled, words}

-- whether each of the first n bytes is a blank
abbrev pub Run : Bool → ℕ → List ℕ → Type 0
Run b n bs = (i : ℕ) → i < n → blank (get_or bs i 0) ≡ b

-- the run of bytes ends at n
abbrev pub Stops : Bool → ℕ → List ℕ → Type 0
Stops b n bs = n < length bs → blank (get_or bs n 0) ≡ b → ⊥

run_rest : (b : Bool) (n x : ℕ) (bs : List ℕ) → Run b (suc n) (x ∷ bs) → Run b n bs
run_rest b n x bs h i l = h (suc i) (omega arith)

stops_rest : (b : Bool) (n x : ℕ) (bs : List ℕ) → Stops b (suc n) (x ∷ bs) → Stops b n bs
stops_rest b n x bs h l = h (omega arith)

-- blanks in front change no word
pub past_blanks : (n : ℕ) (bs : List ℕ) → Run true n bs → words (drop n bs) ≡ words bs
unfolding words
past_blanks zero bs h = refl
past_blanks (suc n) [] h = refl
past_blanks (suc n) (x ∷ bs) h = rw (h 0 (omega arith)) (past_blanks n bs (run_rest true n x bs h))

first_is : (n : ℕ) (bs : List ℕ) → Run false n bs → Stops false n bs → first bs ≡ take n bs
first_is zero [] h s = refl
first_is zero (x ∷ bs) h s = by (blank x) refl
  where
    by : (b : Bool) → blank x ≡ b → first (x ∷ bs) ≡ []
    by true e = rw e
    by false e = absurd (s (omega arith) e)
first_is (suc n) [] h s = refl
first_is (suc n) (x ∷ bs) h s = rw (h 0 (omega arith)) (ap (λ ys. x ∷ ys) (first_is n bs (run_rest false n x bs h) (stops_rest false n x bs s)))

others_are : (n : ℕ) (bs : List ℕ) → Run false n bs → others (drop n bs) ≡ others bs
others_are zero bs h = refl
others_are (suc n) [] h = refl
others_are (suc n) (x ∷ bs) h = rw (h 0 (omega arith)) (others_are n bs (run_rest false n x bs h))

pub stops_drop : (b : Bool) (n : ℕ) (bs : List ℕ) → Stops b n bs → Stops b 0 (drop n bs)
stops_drop b zero bs s = s
stops_drop b (suc n) [] s = λ l. absurd (omega arith)
stops_drop b (suc n) (x ∷ bs) s = stops_drop b n bs (stops_rest b n x bs s)

word_then : (w : List ℕ) (bs : List ℕ) → 0 < length w → first bs ≡ w → words bs ≡ w ∷ filled (others bs)
unfolding words
word_then [] bs l e = absurd (omega arith)
word_then (x ∷ w) bs l e = rw e

-- bytes that are no blanks, up to a blank or the end, are the first word
pub word_first : (n : ℕ) (bs : List ℕ) → 0 < length (take n bs) → Run false n bs → Stops false n bs → words bs ≡ take n bs ∷ words (drop n bs)
unfolding words
word_first n bs l h s =
    word_then (take n bs) bs l (first_is n bs h s) ∙ ap (λ ws. take n bs ∷ ws) (ap filled (sym (others_are n bs h)) ∙ rw (first_is 0 (drop n bs) (λ i j. absurd (omega arith)) (stops_drop false n bs s)))

-- what `position` finds: the first byte that is no blank, or that is one
abbrev pub Found : Bool → List ℕ → Option ℕ → Type 0
Found b bs r = MatchOption r (AllWithin (λ x. blank x ≡ not b) bs 0 (length bs)) (λ i. (i < length bs) × HoldsAt (λ x. blank x ≡ b) bs i × AllWithin (λ x. blank x ≡ not b) bs 0 i)

-- a text of blanks has no word
pub no_word : (bs : List ℕ) (r : Option ℕ) → Found false bs r → r ≡ None → words bs ≡ []
unfolding words
no_word bs r f e = sym (past_blanks (length bs) bs (λ i h. (subst (Found false bs) e f) i 0 (omega arith) h)) ∙ ap words (drop_all (length bs) bs (omega arith))

-- up to the first blank or the end
end_of : (ts : List ℕ) (r : Option ℕ) → Found true ts r → Run false (unwrap_or r (length ts)) ts × Stops false (unwrap_or r (length ts)) ts
end_of ts None f = (λ i h. f i 0 (omega arith) h, λ h e. absurd (omega arith))
end_of ts (Some m) f = (λ i h. f.2 i 0 (omega arith) h, λ h e. let o : true ≡ false = sym (f.1 0) ∙ e in cc)

-- a text whose first byte is none has a word
some_word : (ts : List ℕ) (r : Option ℕ) → 0 < length ts → blank (get_or ts 0 0) ≡ false → Found true ts r → 0 < length (take (unwrap_or r (length ts)) ts)
some_word ts None l e f = omega (arith, length-take-le (length ts) ts (omega arith))
some_word ts (Some zero) l e f = let o : true ≡ false = sym (f.1 0) ∙ e in cc
some_word ts (Some (suc m)) l e f = omega (arith, length-take-le (suc m) ts (omega (arith, f.0)))

-- ts is what follows the blanks at the front of bs, and w is what ts has before its first blank
pub one_word : (bs ts w rest : List ℕ) (n m : ℕ) (r s : Option ℕ) → Found false bs r → r ≡ Some n → ts ≡ drop n bs → Found true ts s → m ≡ unwrap_or s (length ts) → w ≡ take m ts → rest ≡ drop m ts →
    (words bs ≡ w ∷ words rest) × (0 < length w)
one_word bs ts w rest n m r s f e t g k d h =
    let start = subst (Found false bs) e f in
    let blanks : Run true n bs = λ i l. start.2 i 0 (omega arith) l in
    let short : length ts ≡ length bs - n = ap length t ∙ length-drop n bs in
    let first : blank (get_or ts 0 0) ≡ false = ap (λ l. blank (get_or l 0 0)) t ∙ ap blank (get_or-drop n bs 0 0 ∙ ap (λ j. get_or bs j 0) (omega arith)) ∙ start.1 0 in
    let end = subst (λ j. Run false j ts × Stops false j ts) (sym k) (end_of ts s g) in
    let some : 0 < length (take m ts) = subst (λ j. 0 < length (take j ts)) (sym k) (some_word ts s (omega (arith, start.0)) first g) in
    (sym (ap words t ∙ past_blanks n bs blanks) ∙ rw (d, h) (word_first m ts some end.0 end.1), rw d some)
