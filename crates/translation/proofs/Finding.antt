-- A heading that is found is one of the table's records, and its address is known.
use Rattle.std.proofs.Common.{◌≡◌, ℕ, ◌<◌, List, length, Some, None, Option, IfSome, sym, arith}
use Rattle.language.specs.declared.record.Record.{Record}
use Rattle.language.specs.Lines.{lines, heads_routine, heads_block, routine_place, block_place}
use Rattle.language.proofs.Lists.{nth_below, place_in}
use Rattle.language.proofs.Lines.{length-lines}

module _ (t : List Record) where
  pub block_below : (r l j : ℕ) → Some j ≡ block_place t r l → j < length t
  block_below r l j e =
      let b = place_in (heads_block r l) (lines t) j (sym e) in
      omega (arith, nth_below (lines t) j b.0 b.1, length-lines t 0 0 None)

  pub routine_below : (g j : ℕ) → Some j ≡ routine_place t g → j < length t
  routine_below g j e = let b = place_in (heads_routine g) t j (sym e) in nth_below t j b.0 b.1

  pub block_there : (r l : ℕ) (o : Option ℕ) → o ≡ block_place t r l → IfSome o (λ j. j < length t)
  block_there r l None e = tt
  block_there r l (Some j) e = block_below r l j e

  pub routine_there : (g : ℕ) (o : Option ℕ) → o ≡ routine_place t g → IfSome o (λ j. j < length t)
  routine_there g None e = tt
  routine_there g (Some j) e = routine_below g j e
