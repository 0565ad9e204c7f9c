-- Tables that are written out: well formed if each line is fine, which computes.
use Rattle.std.proofs.Common.{◌≡◌, ℕ, zero, suc, ◌+◌, ◌<◌, ◌≤◌, Bool, true, false, List, [], ◌∷◌, Some, None, count_by, Option, refl, ap, ◌∙◌, arith}
use Rattle.std.specs.List.{slice_get, AllByRecursion}
use Rattle.language.specs.Forms.{closes, is_routine, is_block, is_heading, variables, labels, Called, called, calls}
use Rattle.language.specs.Lines.{Line, line, lines, routine_place, block_place}
use Rattle.language.specs.WellFormed.{Legible, HasBlock, HasRoutine, Callable, WellFormed}
use Rattle.language.specs.declared.handler.Handler.{Handler}
use Rattle.language.specs.declared.instruction.Instruction.{Instruction}
use Rattle.language.specs.declared.record.Record.{Record}
use Rattle.language.specs.declared.record.Record.TheVariants.{Routine, Block, Body}
use Rattle.language.proofs.Lines.{record_line}
use Rattle.language.proofs.Lists.{clash}

-- what may come after a record that closes its block, or does not
abbrev FollowOn : Bool → Option Record → Type 0
FollowOn false (Some (Body y)) = Unit {0}
FollowOn false (Some (Routine g p q)) = ⊥
FollowOn false (Some (Block l h)) = ⊥
FollowOn false None = ⊥
FollowOn true (Some (Body y)) = ⊥
FollowOn true (Some (Routine g p q)) = Unit {0}
FollowOn true (Some (Block l h)) = Unit {0}
FollowOn true None = Unit {0}

-- a heading is the first of its name
abbrev FirstNamed : List Record → ℕ → ℕ → Record → Type 0
FirstNamed t i r (Routine g p q) = routine_place t g ≡ Some i
FirstNamed t i r (Block l h) = block_place t r l ≡ Some i
FirstNamed t i r (Body y) = Unit {0}

-- what a name stands for was found
abbrev IsBlock : ℕ → Option Record → Type 0
IsBlock l (Some (Block m h)) = m ≡ l
IsBlock l (Some (Routine g p q)) = ⊥
IsBlock l (Some (Body y)) = ⊥
IsBlock l None = ⊥

abbrev IsRoutine : ℕ → ℕ → Option Record → Type 0
IsRoutine g n (Some (Routine i p q)) = (i ≡ g) × (p ≡ n)
IsRoutine g n (Some (Block l h)) = ⊥
IsRoutine g n (Some (Body y)) = ⊥
IsRoutine g n None = ⊥

abbrev at_place : List Record → Option ℕ → Option Record
at_place t None = None
at_place t (Some i) = slice_get t i

abbrev IsCallable : List Record → Called → Type 0
IsCallable t (called g n) = IsRoutine g n (at_place t (routine_place t g))

abbrev Fine : List Record → ℕ → Line → Type 0
Fine t i (line r n h x) = FirstNamed t i r x × FollowOn (closes x) (slice_get t (suc i)) × AllByRecursion (λ v. v < n) (variables x) × AllByRecursion (λ l. IsBlock l (at_place t (block_place t r l))) (labels x) × AllByRecursion (IsCallable t) (calls x)

-- the lines from place i on are fine
abbrev pub FineFrom : List Record → ℕ → List Line → Type 0
FineFrom t i [] = Unit {0}
FineFrom t i (l ∷ ls) = Fine t i l × FineFrom t (suc i) ls

fine_at : (t : List Record) (k : ℕ) (ls : List Line) → FineFrom t k ls → (i : ℕ) (l : Line) → slice_get ls i ≡ Some l → Fine t (k + i) l
fine_at t k [] f i l e = clash cc
fine_at t k (m ∷ ls) f zero l e = let same : m ≡ l = cc in let z : k + 0 ≡ k = omega arith in rw (z, ← same) f.0
fine_at t k (m ∷ ls) f (suc i) l e = let z : k + suc i ≡ suc k + i = omega arith in rw z (fine_at t (suc k) ls f.1 i l e)

all_map : {X : Type 0} (P Q : X → Type 0) → ((x : X) → P x → Q x) → (xs : List X) → AllByRecursion P xs → AllByRecursion Q xs
all_map P Q f [] a = tt
all_map P Q f (x ∷ xs) a = (f x a.0, all_map P Q f xs a.1)

has_block : (t : List Record) (r l : ℕ) → IsBlock l (at_place t (block_place t r l)) → HasBlock t r l
has_block t r l f = by (block_place t r l) refl f
  where
    there : (i : ℕ) → block_place t r l ≡ Some i → (o : Option Record) → slice_get t i ≡ o → IsBlock l o → HasBlock t r l
    there i e (Some (Block m h)) q f = record { at = i; handler = h; here = record { first = e; there = q ∙ ap (λ k. Some (Block k h)) f } }
    there i e (Some (Routine g p n)) q f = absurd f
    there i e (Some (Body y)) q f = absurd f
    there i e None q f = absurd f

    by : (o : Option ℕ) → block_place t r l ≡ o → IsBlock l (at_place t o) → HasBlock t r l
    by None e f = absurd f
    by (Some i) e f = there i e (slice_get t i) refl f

has_routine : (t : List Record) (g n : ℕ) → IsRoutine g n (at_place t (routine_place t g)) → HasRoutine t g n
has_routine t g n f = by (routine_place t g) refl f
  where
    there : (i : ℕ) → routine_place t g ≡ Some i → (o : Option Record) → slice_get t i ≡ o → IsRoutine g n o → HasRoutine t g n
    there i e (Some (Routine k p q)) d f = record { at = i; locals = q; here = record { first = e; there = d ∙ ap (λ x. Some (Routine x p q)) f.0 ∙ ap (λ x. Some (Routine g x q)) f.1 } }
    there i e (Some (Block l h)) d f = absurd f
    there i e (Some (Body y)) d f = absurd f
    there i e None d f = absurd f

    by : (o : Option ℕ) → routine_place t g ≡ o → IsRoutine g n (at_place t o) → HasRoutine t g n
    by None e f = absurd f
    by (Some i) e f = there i e (slice_get t i) refl f

callable : (t : List Record) (c : Called) → IsCallable t c → Callable t c
callable t (called g n) f = has_routine t g n f

module _ (t : List Record) (legible : Legible t) (fine : FineFrom t 0 (lines t)) where
  fine_line : (i r n : ℕ) (h : Option Handler) (x : Record) → slice_get (lines t) i ≡ Some (line r n h x) → Fine t i (line r n h x)
  fine_line i r n h x e = let z : 0 + i ≡ i = omega arith in rw z at (fine_at t 0 (lines t) fine i (line r n h x) e)

  fine_record : (i : ℕ) (x : Record) → slice_get t i ≡ Some x → (r : ℕ) × (n : ℕ) × (h : Option Handler) × Fine t i (line r n h x)
  fine_record i x e = let l = record_line t 0 0 None i x e in (l.r, l.n, l.h, fine_line i l.r l.n l.h x l.is)

  flows : (i : ℕ) (x : Record) → slice_get t i ≡ Some x → closes x ≡ false → (y : Instruction) × (slice_get t (suc i) ≡ Some (Body y))
  flows i x e c = by (slice_get t (suc i)) refl (rw c at (fine_record i x e).3.1)
    where
      by : (o : Option Record) → slice_get t (suc i) ≡ o → FollowOn false o → (y : Instruction) × (slice_get t (suc i) ≡ Some (Body y))
      by (Some (Body y)) eo f = (y, eo)
      by (Some (Routine g p q)) eo f = absurd f
      by (Some (Block l h)) eo f = absurd f
      by None eo f = absurd f

  ends : (i : ℕ) (x y : Record) → slice_get t i ≡ Some x → closes x ≡ true → slice_get t (suc i) ≡ Some y → is_heading y ≡ true
  ends i x y e c n = by y (rw (c, n) at (fine_record i x e).3.1)
    where
      by : (y : Record) → FollowOn true (Some y) → is_heading y ≡ true
      by (Body z) f = absurd f
      by (Routine g p q) f = refl
      by (Block l h) f = refl

  pub written_out : ((g : ℕ) × (p : ℕ) × (q : ℕ) × (slice_get t 0 ≡ Some (Routine g p q))) → count_by is_routine t ≤ 16 → count_by is_block t ≤ 64 → (n : ℕ) → IsRoutine 0 n (at_place t (routine_place t 0)) → WellFormed t
  written_out begins routines blocks n main = record {
    legible = legible;
    blocked = record { begins = begins; flows = flows; ends = ends; routines = routines; blocks = blocks };
    named = record {
      routines = λ i j g p q p' q' e f.
          let a = (fine_record i (Routine g p q) e).3.0 in
          let b = (fine_record j (Routine g p' q') f).3.0 in cc;
      blocks = λ i j r n n' l h h' k k' e f.
          let a = (fine_line i r n h (Block l k) e).0 in
          let b = (fine_line j r n' h' (Block l k') f).0 in cc;
      variables = λ i r n h x e. (fine_line i r n h x e).2;
      labels = λ i r n h x e. all_map _ (HasBlock t r) (has_block t r) (labels x) (fine_line i r n h x e).3;
      calls = λ i r n h x e. all_map (IsCallable t) (Callable t) (callable t) (calls x) (fine_line i r n h x e).4;
      main = (n, has_routine t 0 n main);
    };
  }
