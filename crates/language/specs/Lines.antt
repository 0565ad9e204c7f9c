-- The lines of a table: each record with the routine that it stands in, how many variables that
-- routine has, and the handler of its block. And what the names in a table stand for.
use Rattle.std.specs.Prelude.{◌≡◌, ℕ, suc, ◌+◌, Bool, true, false, ◌&&◌, List, [], ◌∷◌, Some, None, Option, ◌==◌}
use Rattle.std.specs.List.{slice_get}
use Rattle.language.specs.declared.handler.Handler.{Handler}
use Rattle.language.specs.declared.record.Record.{Record}
use Rattle.language.specs.declared.record.Record.TheVariants.{Routine, Block, Body}

-- a record under the routine r, which has n variables, and the handler h
pub data Line : Type 0 where
  line : (r n : ℕ) → (h : Option Handler) → Record → Line

-- the lines of records that come after a line of r, n and h; a heading's own line is under what it opens
abbrev pub lines_after : ℕ → ℕ → Option Handler → List Record → List Line
lines_after r n h [] = []
lines_after r n h (Routine g p q ∷ t) = line g (p + q) None (Routine g p q) ∷ lines_after g (p + q) None t
lines_after r n h (Block l k ∷ t) = line r n k (Block l k) ∷ lines_after r n k t
lines_after r n h (Body i ∷ t) = line r n h (Body i) ∷ lines_after r n h t

abbrev pub lines : List Record → List Line
lines t = lines_after 0 0 None t

-- the first place of a list at which a test holds
abbrev pub later : Bool → Option ℕ → Option ℕ
later true o = Some 0
later false None = None
later false (Some i) = Some (suc i)

abbrev pub place : {X : Type 0} → (X → Bool) → List X → Option ℕ
place p [] = None
place p (x ∷ xs) = later (p x) (place p xs)

-- the record is the heading of routine g
abbrev pub heads_routine : ℕ → Record → Bool
heads_routine g (Routine i p q) = g == i
heads_routine g (Block l h) = false
heads_routine g (Body i) = false

-- the line is the heading of the block l of routine r
abbrev pub heads_block : ℕ → ℕ → Line → Bool
heads_block r l (line g n h (Routine i p q)) = false
heads_block r l (line g n h (Block m k)) = r == g && l == m
heads_block r l (line g n h (Body i)) = false

-- the record that heads routine g, and the one that heads the block l of routine r: the first, if there is one
abbrev pub routine_place : List Record → ℕ → Option ℕ
routine_place t g = place (heads_routine g) t

abbrev pub block_place : List Record → ℕ → ℕ → Option ℕ
block_place t r l = place (heads_block r l) (lines t)

-- record j heads routine g, of p parameters and q locals
pub record Enters (t : List Record) (g j p q : ℕ) : Type 0 where
  pub first : routine_place t g ≡ Some j
  pub there : slice_get t j ≡ Some (Routine g p q)

-- record j heads the block l of routine r, whose handler is h
pub record Heads (t : List Record) (r l j : ℕ) (h : Option Handler) : Type 0 where
  pub first : block_place t r l ≡ Some j
  pub there : slice_get t j ≡ Some (Block l h)
