-- A request leaves a valid state valid, and a new bench is valid.
use Rattle.std.proofs.Common.{◌≡◌, ℕ, suc, ◌*◌, ◌<◌, ◌≤◌, List, length, get_or, set, replicate, ℤ, Some, None, sym, refl, ap, ◌∙◌, subst, inl, inr, arith}
use native.Mathlib.Bridge.{le_prop}
use Rattle.std.proofs.ByRecursion.{All-from_get_or, sum_by_le}
use Rattle.std.proofs.lemmas.List.{length-set, get_or-set_same, get_or-set_other}
use Rattle.std.proofs.lemmas.List.Sums.{sum_by-set}
use Rattle.std.proofs.lemmas.Bool.{cases_eq}
use Rattle.bench.specs.Bounds.{site_count, feeder_count, most_in_feeder, full_turn}
use Rattle.bench.specs.Ranges.{Feeder, below}
use Rattle.bench.specs.Laws.{StaysValid}
use Rattle.bench.specs.Respond.{respond}
use Rattle.bench.specs.Responds.Responds.{moves, moves_nowhere, turns, turns_nowhere, picks, picks_nowhere, picks_twice, picks_none, places, places_none, places_twice, looks, looks_nowhere, drops, drops_none, unknown}
use Rattle.bench.specs.States.{Valid, in_nozzle, on_spot, fresh, picked, placed, dropped}
use Rattle.bench.specs.declared.state.State.{State}
use Rattle.bench.proofs.Rules.{respond_responds}

-- a bound on every entry stays where one entry is replaced by another in bounds
pub bound_set : (xs : List ℕ) (i n m v : ℕ) → i < length xs → v ≤ m → ((k : ℕ) → k < n → get_or xs k 0 ≤ m) → (k : ℕ) → k < n → get_or (set xs i v) k 0 ≤ m
bound_set xs i n m v h hv old k hk =
    elim (cases_eq k i) [
      | inl e ↦ subst (λ j. get_or (set xs i v) j 0 ≤ m) (sym e) (subst (λ z. z ≤ m) (sym (get_or-set_same xs i v 0 h)) hv)
      | inr ne ↦ subst (λ z. z ≤ m) (sym (get_or-set_other xs i k v 0 ne)) (old k hk)
    ]

pick_valid : (s : State) (f : Feeder) (n : ℕ) → Valid s → s.nozzle ≡ None → get_or s.counts f.value 0 ≡ suc n → Valid (picked s f n)
pick_valid s f n v free count =
    let here : f.value < length s.counts = omega (arith, v.eight, f.within) in
    let none : in_nozzle s.nozzle ≡ 0 = ap in_nozzle free in
    let most = v.counted f.value f.within in
    record {
      eight = length-set s.counts f.value n ∙ v.eight;
      counted = bound_set s.counts f.value feeder_count most_in_feeder n here (omega arith) v.counted;
      sites_all = v.sites_all;
      few = omega (arith, v.few, sum_by-set (λ x. x) s.counts f.value n 0 here);
    }

place_valid : (s : State) (f : Feeder) → Valid s → s.nozzle ≡ Some f → get_or s.sites s.site.value None ≡ None → Valid (placed s f)
place_valid s f v holds free =
    let here : s.site.value < length s.sites = omega (arith, v.sites_all, s.site.within) in
    let one : in_nozzle s.nozzle ≡ 1 = ap in_nozzle holds in
    let none : on_spot (get_or s.sites s.site.value None) ≡ 0 = ap on_spot free in
    record {
      eight = v.eight;
      counted = v.counted;
      sites_all = length-set s.sites s.site.value (Some (record { feeder = f; angle = s.angle })) ∙ v.sites_all;
      few = omega (arith, v.few, sum_by-set on_spot s.sites s.site.value (Some (record { feeder = f; angle = s.angle })) None here);
    }

drop_valid : (s : State) (f : Feeder) → Valid s → s.nozzle ≡ Some f → Valid (dropped s)
drop_valid s f v holds =
    let one : in_nozzle s.nozzle ≡ 1 = ap in_nozzle holds in
    record { eight = v.eight; counted = v.counted; sites_all = v.sites_all; few = omega (arith, v.few) }

pub stays_valid : StaysValid
stays_valid s op y r t v (moves p) = record { eight = v.eight; counted = v.counted; sites_all = v.sites_all; few = v.few }
stays_valid s op y r t v (moves_nowhere h) = v
stays_valid s op y r t v (turns a) = record { eight = v.eight; counted = v.counted; sites_all = v.sites_all; few = v.few }
stays_valid s op y r t v (turns_nowhere h) = v
stays_valid s op y r t v (picks f {n} e c) = pick_valid s f n v e c
stays_valid s op y r t v (picks_nowhere h) = v
stays_valid s op y r t v (picks_twice f e) = v
stays_valid s op y r t v (picks_none f e c) = v
stays_valid s op y r t v (places {f} e c) = place_valid s f v e c
stays_valid s op y r t v (places_none e) = v
stays_valid s op y r t v (places_twice e c) = v
stays_valid s op y r t v (looks p) = v
stays_valid s op y r t v (looks_nowhere h) = v
stays_valid s op y r t v (drops {f} e) = drop_valid s f v e
stays_valid s op y r t v (drops_none e) = v
stays_valid s op y r t v (unknown h) = v

-- the same, for the state that the function of the rules leaves
pub left_valid : (s : State) (op y : ℤ) (t : State) → Valid s → t ≡ (respond s op y).1 → Valid t
left_valid s op y t v e = subst Valid (sym e) (stays_valid s op y (respond s op y).0 (respond s op y).1 v (respond_responds s op y))

pub fresh_valid : (ns : List ℕ) → length ns ≡ feeder_count → ((k : ℕ) → k < feeder_count → get_or ns k 0 ≤ most_in_feeder) → Valid (fresh ns)
fresh_valid ns e h = record {
  eight = e;
  counted = h;
  sites_all = refl;
  few = omega (arith, sum_by_le (λ x. x) most_in_feeder ns (All-from_get_or (λ x. x ≤ most_in_feeder) ns 0 (λ k hk. h k (omega arith))), ap (λ n. n * most_in_feeder) e);
}

-- a new bench is one, however its site and its angle are seen to be in range
abbrev new_at : List ℕ → (p : 0 < site_count) (a : 0 < full_turn) → State
new_at ns p a = record { site = below site_count 0 p; angle = below full_turn 0 a; nozzle = None; counts = ns; bin = 0; sites = replicate site_count None }

pub fresh_is : (ns : List ℕ) (p : 0 < site_count) (a : 0 < full_turn) → new_at ns p a ≡ fresh ns
fresh_is ns p a = ap (λ q. new_at ns q a) (le_prop p _) ∙ ap (new_at ns _) (le_prop a _)
