-- Being well formed is a fact: of a table that is known to be so, each part can be had.
use Rattle.std.proofs.Common.{ℕ, List, [], ◌∷◌, length, get_or, refl}
use mathlib.Core.HLevel.{×_prop, ×₃_prop}
use mathlib.Core.Logic.{∥∥₁_elim}
use native.Mathlib.Bridge.{le_prop}
use native.Mathlib.Nat.{ℕ_set}
use Rattle.std.specs.List.{AllByRecursion}
use Rattle.language.specs.declared.instruction.Instruction.TheVariants.{Constant, Move, Difference, Request, Call, Goto, Return, Branch, Raise}
use Rattle.language.specs.declared.record.Record.{Record}
use Rattle.language.specs.declared.record.Record.TheVariants.{Routine, Block, Body}
use Rattle.language.specs.Bytes.{Spare, InRange}
use Rattle.language.specs.WellFormed.{Legible, WellFormed}
use Rattle.language.specs.Refusals.{BlocksClear, NamesClear}
use Rattle.language.proofs.Refusals.{well_formed, formed_clear}

no_prop : IsProp ⊥
no_prop a b = absurd a

spare_prop : (n : ℕ) (xs : List ℕ) → IsProp (Spare n xs)
spare_prop n xs a b = λ i. (
  λ l. ℕ_set (get_or xs 0 0) 0 (a.0 l) (b.0 l) i,
  λ l. ℕ_set (get_or xs 1 0) 0 (a.1 l) (b.1 l) i,
  λ l. ℕ_set (get_or xs 2 0) 0 (a.2 l) (b.2 l) i,
  λ l. ℕ_set (get_or xs 3 0) 0 (a.3 l) (b.3 l) i,
)

in_range_prop : (x : Record) → IsProp (InRange x)
in_range_prop (Routine g p q) a b = ×_prop le_prop le_prop a b
in_range_prop (Block l h) a b = refl
in_range_prop (Body (Constant x i)) a b = λ j. record { sfits = le_prop a.sfits b.sfits j }
in_range_prop (Body (Move x y)) a b = refl
in_range_prop (Body (Difference x y z)) a b = refl
in_range_prop (Body (Request x o y)) a b = le_prop a b
in_range_prop (Body (Call x g n ys)) a b = ×₃_prop le_prop (ℕ_set (length ys) 4) (spare_prop n ys) a b
in_range_prop (Body (Goto l)) a b = refl
in_range_prop (Body (Return x)) a b = refl
in_range_prop (Body (Branch x y l m)) a b = refl
in_range_prop (Body (Raise x)) a b = refl

all_prop : {X : Type 0} (P : X → Type 0) → ((x : X) → IsProp (P x)) → (xs : List X) → IsProp (AllByRecursion P xs)
all_prop P f [] a b = refl
all_prop P f (x ∷ xs) a b = λ i. (f x a.0 b.0 i, all_prop P f xs a.1 b.1 i)

module _ (t : List Record) (known : ∥ WellFormed t ∥₁) where
  legible : Legible t
  legible = record {
    some = ∥∥₁_elim known le_prop (λ w. w.legible.some);
    few = ∥∥₁_elim known le_prop (λ w. w.legible.few);
    ranged = ∥∥₁_elim known (all_prop InRange in_range_prop t) (λ w. w.legible.ranged);
  }

  blocks_clear : BlocksClear t
  blocks_clear k p h = ∥∥₁_elim known no_prop (λ w. (formed_clear t w).1 k p h)

  names_clear : NamesClear t
  names_clear k p h = ∥∥₁_elim known no_prop (λ w. (formed_clear t w).2 k p h)

  pub known_formed : WellFormed t
  known_formed = well_formed t legible blocks_clear names_clear
