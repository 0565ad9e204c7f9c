-- Set-up: counts that were all in range are those of the new bench.
use Rattle.std.proofs.Common.{◌≡◌, ℕ, ◌<◌, List, map, length, get_or, replicate, ℤ, pos, Result, sym, refl, ap, ◌∙◌, arith}
use Rattle.std.proofs.lemmas.List.{same_lists, length-map, get_or-map, get_or_default, get_or-replicate}
use Rattle.bench.specs.Bounds.{feeder_count}
use Rattle.bench.specs.SetUps.{SetsUp}
use Rattle.bench.specs.SetUps.SetsUp.{taken_over, refused}
use Rattle.bench.specs.States.{Valid}
use Rattle.bench.specs.declared.refusal.SetUpRefusal.{SetUpRefusal}
use Rattle.bench.specs.declared.state.State.{State}
use Rattle.bench.proofs.Validity.{fresh_valid}

-- signed counts that are one by one the numbers ns
pub all_counted : (zs : List ℤ) (ns : List ℕ) → length ns ≡ length zs → ((k : ℕ) → k < length zs → get_or zs k (pos 0) ≡ pos (get_or ns k 0)) → zs ≡ map pos ns
all_counted zs ns e h = same_lists zs (map pos ns) (sym e ∙ sym (length-map ns pos))
    (λ k d l. get_or_default zs k d (pos 0) l ∙ h k l ∙ sym (get_or-map pos ns k 0 d (omega arith)))

-- a new bench is valid, also where its counts were refused
pub set_up_valid : (zs : List ℤ) (r : Result (Unit {0}) SetUpRefusal) (s : State) → length zs ≡ feeder_count → SetsUp zs r s → Valid s
set_up_valid zs r s e (taken_over ns same h) = fresh_valid ns (sym (ap length same ∙ length-map ns pos) ∙ e) h
set_up_valid zs r s e (refused k h out) = fresh_valid (replicate feeder_count 0) refl (λ j hj. omega (arith, get_or-replicate {A = ℕ} feeder_count j 0 0 hj))
