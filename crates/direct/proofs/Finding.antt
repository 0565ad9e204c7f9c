-- What is found by name stands in the table.
use Rattle.std.specs.Prelude.{IfSome}
use Rattle.std.proofs.Common.{refl, ◌≡◌, ℕ, ◌<◌, List, length, Some, None, Option, arith}
use Rattle.language.proofs.Lines.{length-lines}
use Rattle.language.proofs.Lists.{nth_below, place_in}
use Rattle.language.specs.Lines.{lines, heads_routine, heads_block, routine_place, block_place}
use Rattle.language.specs.declared.record.Record.{Record}

pub routine_below : (t : List Record) (g j : ℕ) → routine_place t g ≡ Some j → j < length t
routine_below t g j e = let f = place_in (heads_routine g) t j e in nth_below t j f.0 f.1

pub block_below : (t : List Record) (r l j : ℕ) → block_place t r l ≡ Some j → j < length t
block_below t r l j e =
    let f = place_in (heads_block r l) (lines t) j e in
    omega (arith, nth_below (lines t) j f.0 f.1, length-lines t 0 0 None)

-- what is said of a heading where one is found
pub if_found : (o : Option ℕ) (P : ℕ → Type 0) → ((j : ℕ) → o ≡ Some j → P j) → IfSome o P
if_found None P f = tt
if_found (Some j) P f = f j refl
