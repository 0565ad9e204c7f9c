-- What the lines of a table say of its records.
use Rattle.std.proofs.Common.{◌≡◌, ℕ, zero, suc, ◌+◌, true, eqb, List, [], ◌∷◌, length, Some, None, Option, refl, ap}
use Rattle.std.specs.List.{slice_get}
use Rattle.std.proofs.lemmas.Bool.{eqb-true, eq-eqb, and_parts, and_from}
use Rattle.language.specs.declared.handler.Handler.{Handler}
use Rattle.language.specs.declared.record.Record.{Record}
use Rattle.language.specs.declared.record.Record.TheVariants.{Routine, Block, Body}
use Rattle.language.specs.Lines.{Line, line, lines_after, heads_routine, heads_block}
use Rattle.language.proofs.Lists.{clash}

-- the record of a line
pub line_record : (t : List Record) (r₀ n₀ : ℕ) (h₀ : Option Handler) (i r n : ℕ) (h : Option Handler) (x : Record) → slice_get (lines_after r₀ n₀ h₀ t) i ≡ Some (line r n h x) → slice_get t i ≡ Some x
line_record [] r₀ n₀ h₀ i r n h x e = clash (cc)
line_record (Routine g p q ∷ t) r₀ n₀ h₀ zero r n h x e = cc
line_record (Block l k ∷ t) r₀ n₀ h₀ zero r n h x e = cc
line_record (Body y ∷ t) r₀ n₀ h₀ zero r n h x e = cc
line_record (Routine g p q ∷ t) r₀ n₀ h₀ (suc i) r n h x e = line_record t g (p + q) None i r n h x e
line_record (Block l k ∷ t) r₀ n₀ h₀ (suc i) r n h x e = line_record t r₀ n₀ k i r n h x e
line_record (Body y ∷ t) r₀ n₀ h₀ (suc i) r n h x e = line_record t r₀ n₀ h₀ i r n h x e

-- the line of a record
pub record LineOf (t : List Record) (r₀ n₀ : ℕ) (h₀ : Option Handler) (i : ℕ) (x : Record) : Type 0 where
  pub r : ℕ
  pub n : ℕ
  pub h : Option Handler
  pub is : slice_get (lines_after r₀ n₀ h₀ t) i ≡ Some (line r n h x)

pub record_line : (t : List Record) (r₀ n₀ : ℕ) (h₀ : Option Handler) (i : ℕ) (x : Record) → slice_get t i ≡ Some x → LineOf t r₀ n₀ h₀ i x
record_line [] r₀ n₀ h₀ i x e = clash (cc)
record_line (Routine g p q ∷ t) r₀ n₀ h₀ zero x e = record { r = g; n = p + q; h = None; is = cc }
record_line (Block l k ∷ t) r₀ n₀ h₀ zero x e = record { r = r₀; n = n₀; h = k; is = cc }
record_line (Body y ∷ t) r₀ n₀ h₀ zero x e = record { r = r₀; n = n₀; h = h₀; is = cc }
record_line (Routine g p q ∷ t) r₀ n₀ h₀ (suc i) x e = let l = record_line t g (p + q) None i x e in record { r = l.r; n = l.n; h = l.h; is = l.is }
record_line (Block m k ∷ t) r₀ n₀ h₀ (suc i) x e = let l = record_line t r₀ n₀ k i x e in record { r = l.r; n = l.n; h = l.h; is = l.is }
record_line (Body y ∷ t) r₀ n₀ h₀ (suc i) x e = let l = record_line t r₀ n₀ h₀ i x e in record { r = l.r; n = l.n; h = l.h; is = l.is }

pub length-lines : (t : List Record) (r n : ℕ) (h : Option Handler) → length (lines_after r n h t) ≡ length t
length-lines [] r n h = refl
length-lines (Routine g p q ∷ t) r n h = ap suc (length-lines t g (p + q) None)
length-lines (Block l k ∷ t) r n h = ap suc (length-lines t r n k)
length-lines (Body y ∷ t) r n h = ap suc (length-lines t r n h)

-- a record that passes as the heading of routine g is one
pub routine_of : (g : ℕ) (x : Record) → heads_routine g x ≡ true → (p : ℕ) × (q : ℕ) × (x ≡ Routine g p q)
routine_of g (Routine i p q) e = let f = eqb-true g i e in (p, q, cc)
routine_of g (Block l h) e = clash (cc)
routine_of g (Body y) e = clash (cc)

pub routine_passes : (g p q : ℕ) → heads_routine g (Routine g p q) ≡ true
routine_passes g p q = eq-eqb g g refl

-- a line that passes as the heading of the block l of routine r is one
pub record BlockOf (r l : ℕ) (x : Line) : Type 0 where
  pub n : ℕ
  pub h : Option Handler
  pub k : Option Handler
  pub is : x ≡ line r n h (Block l k)

pub block_of : (r l : ℕ) (x : Line) → heads_block r l x ≡ true → BlockOf r l x
block_of r l (line g n h (Routine i p q)) e = clash (cc)
block_of r l (line g n h (Block m k)) e =
    let c = and_parts (eqb r g) (eqb l m) e in
    let er = eqb-true r g c.0 in let el = eqb-true l m c.1 in
    record { n = n; h = h; k = k; is = cc }
block_of r l (line g n h (Body y)) e = clash (cc)

pub block_passes : (r n l : ℕ) (h k : Option Handler) → heads_block r l (line r n h (Block l k)) ≡ true
block_passes r n l h k = and_from (eqb r r) (eqb l l) (eq-eqb r r refl) (eq-eqb l l refl)
