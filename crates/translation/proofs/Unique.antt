-- At most one answer fits some bytes and a buffer.
use Rattle.std.proofs.Common.{◌≡◌, ℕ, ◌+◌, ◌*◌, List, length, pos, neg_ℤ, Ok, Err, Result, sym, refl, ap, ◌∙◌, arith}
use Rattle.language.specs.declared.record.Record.{Record}
use Rattle.language.specs.Code.{code}
use Rattle.language.specs.Refusals.{Refused}
use Rattle.language.proofs.Bytes.{bytes_fix}
use Rattle.language.proofs.Refusals.{refused_once, sound_accepted}
use Rattle.table.specs.Checked.{Accepts}
use Rattle.table.specs.Faults.{fault_layer, fault_cause, fault_place}
use Rattle.translation.specs.declared.fault.TranslationFault.{TranslationFault}
use Rattle.translation.specs.declared.fault.TranslationFault.TheVariants.{Table, Short}
use Rattle.translation.specs.Answers.{Answers, OneAnswer}
use Rattle.translation.specs.Buffers.{over}
use Rattle.translation.specs.Numbers.{number}

-- bytes hold one table
one_table : (bs : List ℕ) (t u : List Record) → Accepts bs t → Accepts bs u → t ≡ u
one_table bs t u a b = bytes_fix t u a.holds.legible b.holds.legible (a.holds.same ∙ sym b.holds.same)

-- a table's bytes are not refused
not_refused : {X : Type 0} (bs : List ℕ) (t : List Record) (l c p : ℕ) → Accepts bs t → Refused bs l c p → X
not_refused bs t l c p a r = absurd (sound_accepted bs (record { table = t; same = a.holds.same; formed = a.formed }) l c p r)

module _ (bs out out₁ out₂ : List ℕ) where
  pub one_answer : (a b : Result ℕ TranslationFault) → Answers bs out out₁ a → Answers bs out out₂ b → (number a ≡ number b) × (out₁ ≡ out₂)
  one_answer (Ok n) (Ok m) a b =
      let e = one_table bs a.0 b.0 a.1 b.1 in
      (ap pos (a.2.count ∙ ap (λ t. length (code t)) e ∙ sym b.2.count), a.2.after ∙ ap (λ t. over (code t) out) e ∙ sym b.2.after)
  one_answer (Ok n) (Err Short) a b =
      let e = ap (λ t. length (code t)) (one_table bs a.0 b.0 a.1 b.1) in
      absurd (omega (arith, a.2.room, b.2.short))
  one_answer (Err Short) (Ok n) a b =
      let e = ap (λ t. length (code t)) (one_table bs a.0 b.0 a.1 b.1) in
      absurd (omega (arith, b.2.room, a.2.short))
  one_answer (Err Short) (Err Short) a b = (refl, a.2.same ∙ sym b.2.same)
  one_answer (Ok n) (Err (Table f)) a b = not_refused bs a.0 (fault_layer f) (fault_cause f) (fault_place f) a.1 b.0
  one_answer (Err Short) (Err (Table f)) a b = not_refused bs a.0 (fault_layer f) (fault_cause f) (fault_place f) a.1 b.0
  one_answer (Err (Table f)) (Ok n) a b = not_refused bs b.0 (fault_layer f) (fault_cause f) (fault_place f) b.1 a.0
  one_answer (Err (Table f)) (Err Short) a b = not_refused bs b.0 (fault_layer f) (fault_cause f) (fault_place f) b.1 a.0
  one_answer (Err (Table f)) (Err (Table g)) a b =
      let e = refused_once bs (fault_layer f) (fault_cause f) (fault_place f) (fault_layer g) (fault_cause g) (fault_place g) a.0 b.0 in
      ((λ i. neg_ℤ (pos (e.1 i * 1000 + e.2 i))), a.1 ∙ sym b.1)

pub one_number : (bs out : List ℕ) → OneAnswer bs out
one_number bs out out₁ out₂ i j a b =
    let e = one_answer bs out out₁ out₂ a.answer b.answer a.fits b.fits in
    (a.is ∙ e.0 ∙ sym b.is, e.1)
