-- The address at which a run starts.
use Rattle.std.proofs.Common.{◌≡◌, ℕ, suc, ◌+◌, ◌<◌, List, length, get_or, refl, ap, ◌∙◌, add-one}
use Rattle.few.specs.Held.{held}
use Rattle.language.proofs.Lists.{nth_below}
use Rattle.language.specs.Lines.{Enters}
use Rattle.language.specs.Translation.{address}
use Rattle.language.specs.WellFormed.{WellFormed}
use Rattle.language.specs.declared.record.Record.{Record}
use Rattle.language.specs.declared.record.Record.TheVariants.{Routine, Body}
use Rattle.translation.specs.Addressing.{Addressed, EntryAddress}
use Rattle.translation.specs.declared.addresses.Addresses.{Addresses}

module _ (t : List Record) (ok : WellFormed t) (j p q : ℕ) (here : Enters t 0 j p q) where
  -- an instruction comes after the heading
  pub entry_below : suc j < length t
  entry_below = let f = ok.blocked.flows j (Routine 0 p q) here.there refl in nth_below t (suc j) (Body f.0) f.1

  pub entry_is : (a : Addresses) → Addressed t a → EntryAddress t (get_or (held a.of) (j + 1) 0)
  entry_is a known = record {
    is = λ i u v d.
        let f = here.first in let g = d.first in
        let same : j ≡ i = cc in
        ap (λ k. get_or (held a.of) k 0) (add-one j) ∙ known.each (suc j) entry_below ∙ ap (λ k. address t (suc k)) same;
  }
