-- At most one refusal fits some bytes, and none those of a well-formed table.
use Rattle.std.proofs.Common.{◌≡◌, ℕ, ◌<◌, ◌⊎◌, List, sym, refl, ◌∙◌, subst, inl, inr}
use Rattle.std.proofs.lemmas.Bool.{cases_order}
use Rattle.language.specs.declared.record.Record.{Record}
use Rattle.language.specs.Bytes.{bytes}
use Rattle.language.specs.WellFormed.{Legible, WellFormed, Holds, WellFormedBytes}
use Rattle.language.specs.Causes.{record_number_of, block_number_of, name_number_of, InRecords, InBlocks, InNames}
use Rattle.language.specs.Refusals.{First, RecordsClear, BlocksClear, NamesClear, Refused, by_records, by_blocks, by_names}
use Rattle.language.proofs.Blocks as B
use Rattle.language.proofs.Names as N
use Rattle.language.proofs.Bytes as Y

module _ {K : Type 0} (number : K → ℕ) (Stands : K → ℕ → Type 0) where
  -- the first of a layer is one
  first_one : (k j : K) (p q : ℕ) → First number Stands k p → First number Stands j q → (number k ≡ number j) × (p ≡ q)
  first_one k j p q f g = by (cases_order p q)
    where
      same : p ≡ q → (number k ≡ number j) ⊎ ((number k < number j) ⊎ (number j < number k)) → number k ≡ number j
      same e (inl h) = h
      same e (inr (inl h)) = absurd (g.lower k h (subst (Stands k) e f.here))
      same e (inr (inr h)) = absurd (f.lower j h (subst (Stands j) (sym e) g.here))

      by : (p ≡ q) ⊎ ((p < q) ⊎ (q < p)) → (number k ≡ number j) × (p ≡ q)
      by (inl e) = (same e (cases_order (number k) (number j)), e)
      by (inr (inl h)) = absurd (g.before k p h f.here)
      by (inr (inr h)) = absurd (f.before j q h g.here)

-- two tables that the bytes hold are one
pub held_once : (bs : List ℕ) (t u : List Record) → Holds bs t → Holds bs u → t ≡ u
held_once bs t u f g = Y.bytes_fix t u f.legible g.legible (f.same ∙ sym g.same)

pub refused_once : (bs : List ℕ) (l c p l' c' p' : ℕ) → Refused bs l c p → Refused bs l' c' p' → (l ≡ l') × (c ≡ c') × (p ≡ p')
refused_once bs l c p l' c' p' (by_records k q f) (by_records j r g) = let o = first_one record_number_of (InRecords bs) k j q r f g in (refl, o.0, o.1)
refused_once bs l c p l' c' p' (by_records k q f) (by_blocks u j r clear held g) = absurd (clear k q f.here)
refused_once bs l c p l' c' p' (by_records k q f) (by_names u j r clear held shut g) = absurd (clear k q f.here)
refused_once bs l c p l' c' p' (by_blocks t k q clear held f) (by_records j r g) = absurd (clear j r g.here)
refused_once bs l c p l' c' p' (by_blocks t k q clear held f) (by_blocks u j r clear' held' g) =
    let e = held_once bs u t held' held in
    let o = first_one block_number_of (InBlocks t) k j q r f (subst (λ (v : List Record). First block_number_of (InBlocks v) j r) e g) in
    (refl, o.0, o.1)
refused_once bs l c p l' c' p' (by_blocks t k q clear held f) (by_names u j r clear' held' shut g) =
    let e = held_once bs t u held held' in
    absurd (shut k q (subst (λ (v : List Record). InBlocks v k q) e f.here))
refused_once bs l c p l' c' p' (by_names t k q clear held shut f) (by_records j r g) = absurd (clear j r g.here)
refused_once bs l c p l' c' p' (by_names t k q clear held shut f) (by_blocks u j r clear' held' g) =
    let e = held_once bs u t held' held in
    absurd (shut j r (subst (λ (v : List Record). InBlocks v j r) e g.here))
refused_once bs l c p l' c' p' (by_names t k q clear held shut f) (by_names u j r clear' held' shut' g) =
    let e = held_once bs u t held' held in
    let o = first_one name_number_of (InNames t) k j q r f (subst (λ (v : List Record). First name_number_of (InNames v) j r) e g) in
    (refl, o.0, o.1)

-- well formed is: legible, and free of every cause of the two upper layers
pub well_formed : (t : List Record) → Legible t → BlocksClear t → NamesClear t → WellFormed t
well_formed t ok b n = record { legible = ok; blocked = B.blocked t ok.some b; named = N.named t n }

pub formed_clear : (t : List Record) → WellFormed t → RecordsClear (bytes t) × BlocksClear t × NamesClear t
formed_clear t ok =
    (Y.records_clear (bytes t) t (record { same = refl; legible = ok.legible }), B.blocks_clear t ok.blocked, N.names_clear t ok.named)

pub sound_accepted : (bs : List ℕ) → WellFormedBytes bs → (l c p : ℕ) → Refused bs l c p → ⊥
sound_accepted bs s l c p r = by r
  where
    held : Holds bs s.table
    held = record { same = s.same; legible = s.formed.legible }

    clear : RecordsClear (bytes s.table) × BlocksClear s.table × NamesClear s.table
    clear = formed_clear s.table s.formed

    by : {l c p : ℕ} → Refused bs l c p → ⊥
    by (by_records k q f) = Y.records_clear bs s.table held k q f.here
    by (by_blocks u k q d held' f) = clear.1 k q (subst (λ (v : List Record). InBlocks v k q) (held_once bs u s.table held' held) f.here)
    by (by_names u k q d held' e f) = clear.2 k q (subst (λ (v : List Record). InNames v k q) (held_once bs u s.table held' held) f.here)
