-- From what the translation answers to the listing.
use Rattle.std.proofs.Common.{◌≡◌, ℕ, List, length, take, drop, Ok, Err, sym, refl, ap, ◌∙◌, subst, arith}
use Rattle.std.proofs.lemmas.List.{take_at}
use Rattle.language.specs.Code.{code}
use Rattle.language.proofs.Sizes.{held}
use Rattle.translation.specs.declared.fault.TranslationFault.{TranslationFault}
use Rattle.translation.specs.declared.fault.TranslationFault.TheVariants.{Table, Short}
use Rattle.translation.specs.Answers.{Answers}
use Rattle.translation.specs.Numbers.{refusal_layer, refusal_cause, refusal_place}
use Rattle.listing.specs.Texts.{code_text_of, refusal_text_of, Lists, translated, refused}

pub listed : (bs out out' : List ℕ) (n : ℕ) (text : List ℕ) → Answers bs out out' (Ok n) → text ≡ code_text_of (take n out') → Lists bs text
listed bs out out' n text a e =
    let t = a.0 in
    let w = a.2 in
    let f : take n out' ≡ code t = ap (λ k. take k out') w.count ∙ ap (take (length (code t))) w.after ∙ take_at (code t) (drop (length (code t)) out) (length (code t)) refl in
    let g : code_text_of (code t) ≡ text = ap code_text_of (sym f) ∙ sym e in
    subst (Lists bs) g (translated t a.1)

-- a buffer for the longest translation is never too short
pub told : (bs out out' : List ℕ) (f : TranslationFault) (text : List ℕ) → length out ≡ 7808 → Answers bs out out' (Err f) → text ≡ refusal_text_of (refusal_layer f) (refusal_cause f) (refusal_place f) → Lists bs text
told bs out out' (Table f) text n a e = subst (Lists bs) (sym e) (refused _ _ _ a.0)
told bs out out' Short text n a e = let h = held a.0 a.1.formed in absurd (omega (arith, h.words, h.bytes, a.2.short))
