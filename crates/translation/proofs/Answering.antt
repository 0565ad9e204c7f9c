-- From the parts of the translation to its answer.
use Rattle.std.proofs.Common.{◌≡◌, ℕ, ◌*◌, ◌<◌, ◌≤◌, List, length, Ok, Err, ap, arith}
use Rattle.language.specs.declared.record.Record.{Record}
use Rattle.language.specs.Code.{code}
use Rattle.language.specs.Translation.{translation}
use Rattle.language.specs.WellFormed.{WellFormed}
use Rattle.language.proofs.Near.{refused_near}
use Rattle.language.proofs.Sizes.{held}
use Rattle.translation.specs.declared.fault.TranslationFault.{TranslationFault}
use Rattle.translation.specs.declared.fault.TranslationFault.TheVariants.{Table, Short}
use Rattle.translation.specs.Answers.{Unwritten, Answers}
use Rattle.translation.specs.Numbers.{refusal_place}

-- the records as they were read are those of the table
module _ (t u : List Record) (same : u ≡ t) (formed : WellFormed t) (out : List ℕ) where
  code_long : length (code t) ≡ 8 * length (translation u)
  code_long = omega (arith, (held t formed).bytes, ap (λ v. length (translation v)) same)

  pub too_short : (out' : List ℕ) → length out < 8 * length (translation u) → out' ≡ out → Unwritten t out out'
  too_short out' l e = record { short = omega (arith, code_long); same = e }

-- what is written is not long, and a refusal's place is near
pub answer_low : (bs out out' : List ℕ) (n : ℕ) → Answers bs out out' (Ok n) → n ≤ 7808
answer_low bs out out' n f = let h = held f.0 f.1.formed in omega (arith, h.words, h.bytes, f.2.count)

pub answer_near : (bs out out' : List ℕ) (f : TranslationFault) → Answers bs out out' (Err f) → refusal_place f ≤ 256
answer_near bs out out' (Table f) a = refused_near bs _ _ _ a.0
answer_near bs out out' Short a = omega arith
