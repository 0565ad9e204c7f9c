-- How the lines of a table follow each other, and where the names in a well-formed table lead.
use Rattle.std.proofs.Common.{◌≡◌, ℕ, zero, suc, ◌+◌, false, ◌⊎◌, List, [], ◌∷◌, Some, None, Option, refl, ap, ◌∙◌, subst, inl, inr}
use Rattle.std.specs.List.{slice_get}
use Rattle.language.specs.Forms.{closes}
use Rattle.language.specs.Lines.{Line, line, lines_after, lines, heads_block, Heads, Enters}
use Rattle.language.specs.Reachable.{Stands}
use Rattle.language.specs.WellFormed.{WellFormed, HasBlock}
use Rattle.language.specs.declared.handler.Handler.{Handler}
use Rattle.language.specs.declared.instruction.Instruction.{Instruction}
use Rattle.language.specs.declared.record.Record.{Record}
use Rattle.language.specs.declared.record.Record.TheVariants.{Routine, Block, Body}
use Rattle.language.proofs.Lines.{line_record, block_of}
use Rattle.language.proofs.Lists.{clash, place_in}

-- an instruction at the front stands under what came before
first_line : (t : List Record) (r n : ℕ) (h : Option Handler) (y : Instruction) → slice_get t 0 ≡ Some (Body y) → slice_get (lines_after r n h t) 0 ≡ Some (line r n h (Body y))
first_line [] r n h y e = clash cc
first_line (Routine g p q ∷ t) r n h y e = clash cc
first_line (Block l k ∷ t) r n h y e = clash cc
first_line (Body z ∷ t) r n h y e = cc

-- an instruction stands under what the record before it stands under
next_line : (t : List Record) (r₀ n₀ : ℕ) (h₀ : Option Handler) (i r n : ℕ) (h : Option Handler) (x : Record) (y : Instruction) →
    slice_get (lines_after r₀ n₀ h₀ t) i ≡ Some (line r n h x) → slice_get t (suc i) ≡ Some (Body y) → slice_get (lines_after r₀ n₀ h₀ t) (suc i) ≡ Some (line r n h (Body y))
next_line [] r₀ n₀ h₀ i r n h x y e f = clash cc
next_line (Routine g p q ∷ t) r₀ n₀ h₀ zero r n h x y e f = let d = first_line t g (p + q) None y f in cc
next_line (Routine g p q ∷ t) r₀ n₀ h₀ (suc i) r n h x y e f = next_line t g (p + q) None i r n h x y e f
next_line (Block l k ∷ t) r₀ n₀ h₀ zero r n h x y e f = let d = first_line t r₀ n₀ k y f in cc
next_line (Block l k ∷ t) r₀ n₀ h₀ (suc i) r n h x y e f = next_line t r₀ n₀ k i r n h x y e f
next_line (Body z ∷ t) r₀ n₀ h₀ zero r n h x y e f = let d = first_line t r₀ n₀ h₀ y f in cc
next_line (Body z ∷ t) r₀ n₀ h₀ (suc i) r n h x y e f = next_line t r₀ n₀ h₀ i r n h x y e f

-- the heading of a block stands under the block's own handler
block_line : (t : List Record) (r₀ n₀ : ℕ) (h₀ : Option Handler) (i r n l : ℕ) (h k : Option Handler) → slice_get (lines_after r₀ n₀ h₀ t) i ≡ Some (line r n h (Block l k)) → h ≡ k
block_line [] r₀ n₀ h₀ i r n l h k e = clash cc
block_line (Routine g p q ∷ t) r₀ n₀ h₀ zero r n l h k e = clash cc
block_line (Routine g p q ∷ t) r₀ n₀ h₀ (suc i) r n l h k e = block_line t g (p + q) None i r n l h k e
block_line (Block m j ∷ t) r₀ n₀ h₀ zero r n l h k e = cc
block_line (Block m j ∷ t) r₀ n₀ h₀ (suc i) r n l h k e = block_line t r₀ n₀ j i r n l h k e
block_line (Body z ∷ t) r₀ n₀ h₀ zero r n l h k e = clash cc
block_line (Body z ∷ t) r₀ n₀ h₀ (suc i) r n l h k e = block_line t r₀ n₀ h₀ i r n l h k e

-- the heading of a routine stands under that routine, with no handler
pub routine_line : (t : List Record) (r₀ n₀ : ℕ) (h₀ : Option Handler) (i g p q : ℕ) → slice_get t i ≡ Some (Routine g p q) → slice_get (lines_after r₀ n₀ h₀ t) i ≡ Some (line g (p + q) None (Routine g p q))
routine_line [] r₀ n₀ h₀ i g p q e = clash cc
routine_line (Routine f a b ∷ t) r₀ n₀ h₀ zero g p q e = cc
routine_line (Routine f a b ∷ t) r₀ n₀ h₀ (suc i) g p q e = routine_line t f (a + b) None i g p q e
routine_line (Block l k ∷ t) r₀ n₀ h₀ zero g p q e = clash cc
routine_line (Block l k ∷ t) r₀ n₀ h₀ (suc i) g p q e = routine_line t r₀ n₀ k i g p q e
routine_line (Body z ∷ t) r₀ n₀ h₀ zero g p q e = clash cc
routine_line (Body z ∷ t) r₀ n₀ h₀ (suc i) g p q e = routine_line t r₀ n₀ h₀ i g p q e

-- the heading of a block with the handler h, in routine r
pub record Headed (ls : List Line) (r : ℕ) (h : Handler) : Type 0 where
  pub at : ℕ
  pub size : ℕ
  pub label : ℕ
  pub is : slice_get ls at ≡ Some (line r size (Some h) (Block label (Some h)))

later : (l : Line) (ls : List Line) (r : ℕ) (h : Handler) → Headed ls r h → Headed (l ∷ ls) r h
later l ls r h d = record { at = suc d.at; size = d.size; label = d.label; is = d.is }

-- a handler in force is the one before the lines, in one routine with it, or that of a block among them
pub from_block : (t : List Record) (r₀ n₀ : ℕ) (h₀ : Option Handler) (i r n : ℕ) (h : Handler) (x : Record) → slice_get (lines_after r₀ n₀ h₀ t) i ≡ Some (line r n (Some h) x) →
    ((h₀ ≡ Some h) × (r₀ ≡ r)) ⊎ Headed (lines_after r₀ n₀ h₀ t) r h
from_block [] r₀ n₀ h₀ i r n h x e = clash cc
from_block (Routine g p q ∷ t) r₀ n₀ h₀ zero r n h x e = clash cc
from_block (Routine g p q ∷ t) r₀ n₀ h₀ (suc i) r n h x e =
    elim (from_block t g (p + q) None i r n h x e) [ inl d ↦ (let f = d.0 in clash cc) | inr d ↦ inr (later _ _ r h d) ]
from_block (Block l k ∷ t) r₀ n₀ h₀ zero r n h x e = inr (record { at = 0; size = n₀; label = l; is = cc })
from_block (Block l k ∷ t) r₀ n₀ h₀ (suc i) r n h x e =
    elim (from_block t r₀ n₀ k i r n h x e) [ inl d ↦ (let f = d.0 in let g = d.1 in inr (record { at = 0; size = n₀; label = l; is = cc })) | inr d ↦ inr (later _ _ r h d) ]
from_block (Body z ∷ t) r₀ n₀ h₀ zero r n h x e = inl (cc, cc)
from_block (Body z ∷ t) r₀ n₀ h₀ (suc i) r n h x e =
    elim (from_block t r₀ n₀ h₀ i r n h x e) [ inl d ↦ inl d | inr d ↦ inr (later _ _ r h d) ]

module _ (t : List Record) (ok : WellFormed t) where
  -- after a record that leaves its block open an instruction stands, under the same routine and handler
  pub flows : (i r n : ℕ) (h : Option Handler) (x : Record) → slice_get (lines t) i ≡ Some (line r n h x) → closes x ≡ false → Stands t r h (suc i)
  flows i r n h x e c =
      let f = ok.blocked.flows i x (line_record t 0 0 None i r n h x e) c in
      record { size = n; instruction = f.0; is = next_line t 0 0 None i r n h x f.0 e f.1 }

  -- a handler in force has its block
  pub handled : (i r n : ℕ) (h : Handler) (x : Record) → slice_get (lines t) i ≡ Some (line r n (Some h) x) → HasBlock t r h.label
  handled i r n h x e = by (from_block t 0 0 None i r n h x e)
    where
      by : ((None ≡ Some h) × (0 ≡ r)) ⊎ Headed (lines t) r h → HasBlock t r h.label
      by (inl d) = let f = d.0 in clash cc
      by (inr d) = (ok.named.labels d.at r d.size (Some h) (Block d.label (Some h)) d.is).0

  -- where a block begins, and where a routine does
  pub block_stands : (r l j : ℕ) (g : Option Handler) → Heads t r l j g → Stands t r g (suc j)
  block_stands r l j g d =
      let p = place_in (heads_block r l) (lines t) j d.first in
      let b = block_of r l p.0 p.2 in
      let here : slice_get (lines t) j ≡ Some (line r b.n b.h (Block l b.k)) = p.1 ∙ ap (λ y. Some y) b.is in
      let record_is = line_record t 0 0 None j r b.n b.h (Block l b.k) here in
      let there = d.there in
      let own : b.h ≡ b.k = block_line t 0 0 None j r b.n l b.h b.k here in
      let same : b.k ≡ g = cc in
      subst (λ h. Stands t r h (suc j)) (own ∙ same) (flows j r b.n b.h (Block l b.k) here refl)

  pub routine_stands : (g j p q : ℕ) → Enters t g j p q → Stands t g None (suc j)
  routine_stands g j p q d = flows j g (p + q) None (Routine g p q) (routine_line t 0 0 None j g p q d.there) refl
