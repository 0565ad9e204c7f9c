-- The variables that a well-formed table names are below 16, so none of them is register 16.
use Rattle.std.proofs.Common.{◌≡◌, ℕ, zero, suc, ◌+◌, ◌<◌, ◌≤◌, false, eqb, ◌⊎◌, List, [], ◌∷◌, Some, None, Option, inl, inr, arith}
use Rattle.std.specs.List.{slice_get, AllByRecursion}
use Rattle.std.proofs.lemmas.Bool.{ne_eqb}
use Rattle.language.specs.Bytes.{InRange}
use Rattle.language.specs.Configurations.{spare}
use Rattle.language.specs.Forms.{variables}
use Rattle.language.specs.Lines.{line, lines_after, lines}
use Rattle.language.specs.Runs.{variable_count}
use Rattle.language.specs.WellFormed.{WellFormed}
use Rattle.language.specs.declared.handler.Handler.{Handler}
use Rattle.language.specs.declared.record.Record.{Record}
use Rattle.language.specs.declared.record.Record.TheVariants.{Routine, Block, Body}
use Rattle.language.proofs.Flow.{Headed, from_block}
use Rattle.language.proofs.Lists.{clash}

few_variables : (t : List Record) (r₀ n₀ : ℕ) (h₀ : Option Handler) → AllByRecursion InRange t → n₀ ≤ variable_count → (i r n : ℕ) (h : Option Handler) (x : Record) → slice_get (lines_after r₀ n₀ h₀ t) i ≡ Some (line r n h x) → n ≤ variable_count
few_variables [] r₀ n₀ h₀ f l i r n h x e = clash cc
few_variables (Routine g p q ∷ t) r₀ n₀ h₀ f l zero r n h x e = let z : p + q ≡ n = cc in let w = f.0.1 in omega arith
few_variables (Block m k ∷ t) r₀ n₀ h₀ f l zero r n h x e = let z : n₀ ≡ n = cc in omega arith
few_variables (Body y ∷ t) r₀ n₀ h₀ f l zero r n h x e = let z : n₀ ≡ n = cc in omega arith
few_variables (Routine g p q ∷ t) r₀ n₀ h₀ f l (suc i) r n h x e = few_variables t g (p + q) None f.1 f.0.1 i r n h x e
few_variables (Block m k ∷ t) r₀ n₀ h₀ f l (suc i) r n h x e = few_variables t r₀ n₀ k f.1 l i r n h x e
few_variables (Body y ∷ t) r₀ n₀ h₀ f l (suc i) r n h x e = few_variables t r₀ n₀ h₀ f.1 l i r n h x e

all_below : (xs : List ℕ) (n m : ℕ) → n ≤ m → AllByRecursion (λ v. v < n) xs → AllByRecursion (λ v. v < m) xs
all_below [] n m l f = tt
all_below (x ∷ xs) n m l f = (let w = f.0 in omega arith, all_below xs n m l f.1)

module _ (t : List Record) (ok : WellFormed t) where
  -- the variables of a line
  pub variables_below : (i r n : ℕ) (h : Option Handler) (x : Record) → slice_get (lines t) i ≡ Some (line r n h x) → AllByRecursion (λ v. v < variable_count) (variables x)
  variables_below i r n h x e =
      all_below (variables x) n variable_count (few_variables t 0 0 None ok.legible.ranged (omega arith) i r n h x e) (ok.named.variables i r n h x e)

  -- the catch variable of a line's handler
  pub catch_below : (i r n : ℕ) (h : Handler) (x : Record) → slice_get (lines t) i ≡ Some (line r n (Some h) x) → h.catch < variable_count
  catch_below i r n h x e = by (from_block t 0 0 None i r n h x e)
    where
      by : ((None ≡ Some h) × (0 ≡ r)) ⊎ Headed (lines t) r h → h.catch < variable_count
      by (inl d) = let f = d.0 in clash cc
      by (inr d) = (variables_below d.at r d.size (Some h) (Block d.label (Some h)) d.is).0

pub not_spare : (x : ℕ) → x < variable_count → eqb x spare ≡ false
not_spare x l = ne_eqb x spare (λ e. omega arith)
