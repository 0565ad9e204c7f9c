-- The blocks of a table are as they should be exactly where no cause of layer 2 stands.
use Rattle.std.proofs.Common.{◌≡◌, ℕ, suc, ◌<◌, Bool, true, false, List, length, Some, None, Option, refl}
use Rattle.std.specs.List.{slice_get}
use Rattle.language.specs.declared.cause.BlockCause.TheVariants.{Headless, Unclosed, Trailing, Crowded}
use Rattle.language.specs.declared.instruction.Instruction.{Instruction}
use Rattle.language.specs.declared.record.Record.{Record}
use Rattle.language.specs.declared.record.Record.TheVariants.{Routine, Block, Body}
use Rattle.language.specs.Forms.{closes, is_routine, is_block, is_heading}
use Rattle.language.specs.WellFormed.{Blocked}
use Rattle.language.specs.Causes.{headless, unclosed, open_end, trailing, crowded_routine, crowded_block}
use Rattle.language.specs.Refusals.{BlocksClear}
use Rattle.language.proofs.Lists.{clash, nth_some}
use Rattle.language.proofs.Counts.{count_within, count_met}

module _ (t : List Record) (some : 0 < length t) (clear : BlocksClear t) where
  begins : (g : ℕ) × (p : ℕ) × (q : ℕ) × (slice_get t 0 ≡ Some (Routine g p q))
  begins = by (nth_some t 0 some).0 (nth_some t 0 some).1
    where
      by : (x : Record) → slice_get t 0 ≡ Some x → (g : ℕ) × (p : ℕ) × (q : ℕ) × (slice_get t 0 ≡ Some (Routine g p q))
      by (Routine g p q) e = (g, p, q, e)
      by (Block l h) e = absurd (clear Headless 0 (headless e refl))
      by (Body i) e = absurd (clear Headless 0 (headless e refl))

  flows : (i : ℕ) (x : Record) → slice_get t i ≡ Some x → closes x ≡ false → (y : Instruction) × (slice_get t (suc i) ≡ Some (Body y))
  flows i x e c = by (slice_get t (suc i)) refl
    where
      by : (o : Option Record) → slice_get t (suc i) ≡ o → (y : Instruction) × (slice_get t (suc i) ≡ Some (Body y))
      by None eo = absurd (clear Unclosed (suc i) (open_end i e c eo))
      by (Some (Routine g p q)) eo = absurd (clear Unclosed (suc i) (unclosed i e c eo refl))
      by (Some (Block l h)) eo = absurd (clear Unclosed (suc i) (unclosed i e c eo refl))
      by (Some (Body y)) eo = (y, eo)

  ends : (i : ℕ) (x y : Record) → slice_get t i ≡ Some x → closes x ≡ true → slice_get t (suc i) ≡ Some y → is_heading y ≡ true
  ends i x y e c n = by (is_heading y) refl
    where
      by : (b : Bool) → is_heading y ≡ b → b ≡ true
      by true h = refl
      by false h = absurd (clear Trailing (suc i) (trailing i e c n h))

  pub blocked : Blocked t
  blocked = record {
    begins = begins;
    flows = flows;
    ends = ends;
    routines = count_within is_routine t 16 (λ p x e h full. clear Crowded p (crowded_routine p e h full));
    blocks = count_within is_block t 64 (λ p x e h full. clear Crowded p (crowded_block p e h full));
  }

module _ (t : List Record) (ok : Blocked t) where
  no_headless : (x : Record) → slice_get t 0 ≡ Some x → is_routine x ≡ false → ⊥
  no_headless x e h = let b = ok.begins.3 in let z : x ≡ Routine ok.begins.0 ok.begins.1 ok.begins.2 = cc in let w : true ≡ false = cc in clash (cc)

  pub blocks_clear : BlocksClear t
  blocks_clear k p (headless {x} e h) = no_headless x e h
  blocks_clear k p (unclosed {x} {y} i e c n h) =
      let f = ok.flows i x e c in let fn = f.1 in let z : y ≡ Body f.0 = cc in let w : true ≡ false = cc in clash (cc)
  blocks_clear k p (open_end {x} i e c n) = let f = ok.flows i x e c in let fn = f.1 in clash (cc)
  blocks_clear k p (trailing {x} {y} i e c n h) = let f = ok.ends i x y e c n in let w : true ≡ false = cc in clash (cc)
  blocks_clear k p (crowded_routine {x} i e h full) = count_met is_routine t 16 ok.routines i x e h full
  blocks_clear k p (crowded_block {x} i e h full) = count_met is_block t 64 ok.blocks i x e h full
