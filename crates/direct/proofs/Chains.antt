-- Beats one after another: whatever goes on from where they lead goes on from where they began.
use Rattle.std.proofs.Common.{◌≡◌, ℕ, suc, ◌+◌, ◌-◌, ◌<◌, List, Ok, Err, refl, subst, arith}
use Rattle.bench.specs.declared.state.State.{State as Standing}
use Rattle.direct.specs.Going.{Went}
use Rattle.language.proofs.NextBeat.{beat_on}
use Rattle.language.specs.Beats.{Beat}
use Rattle.language.specs.Calls.{over, enough, more}
use Rattle.language.specs.Direct.{DirectGoes}
use Rattle.language.specs.Reachable.{Reachable}
use Rattle.language.specs.Runs.{State, Run, running, ended}
use Rattle.language.specs.WellFormed.{WellFormed}
use Rattle.language.specs.declared.ending.Ending.{Ending}
use Rattle.language.specs.declared.record.Record.{Record}

-- i beats lead from the state s and the bench b to the state s' and the bench b'
pub record Chain (t : List Record) (i : ℕ) (s : State) (b : Standing) (s' : State) (b' : Standing) : Type 0 where
  pub reached : Reachable t s'
  pub further : (n m k : ℕ) (r : Run State) (c : Standing) → DirectGoes t n (running s') b' m k r c → (l : ℕ) × DirectGoes t (i + n) (running s) b (i + m) l r c

-- the numbers of a go may be written another way
renumbered : (t : List Record) (n m n' m' k : ℕ) (r r' : Run State) (b c : Standing) → n ≡ n' → m ≡ m' → DirectGoes t n r b m k r' c → DirectGoes t n' r b m' k r' c
renumbered t n m n' m' k r r' b c en em g = subst (λ v. DirectGoes t v r b m' k r' c) en (subst (λ v. DirectGoes t n r b v k r' c) em g)

module _ (t : List Record) (s : State) (b : Standing) where
  pub none_yet : Reachable t s → Chain t 0 s b s b
  none_yet here = record { reached = here; further = λ n m k r c g. (k, renumbered t n m (0 + n) (0 + m) k (running s) r b c (omega arith) (omega arith) g) }

  module _ (i : ℕ) (s' : State) (b' : Standing) (so_far : Chain t i s b s' b') where
    pub one_more : WellFormed t → (s'' : State) (b'' : Standing) → Beat t s' b' (running s'') b'' → Chain t (i + 1) s b s'' b''
    one_more ok s'' b'' β = record {
      reached = beat_on t ok s' so_far.reached β;
      further = λ n m k r c g.
          let d = so_far.further (suc n) (suc m) _ r c (more (β, refl) g) in
          (d.0, renumbered t (i + suc n) (i + suc m) (i + 1 + n) (i + 1 + m) d.0 (running s) r b c (omega arith) (omega arith) d.1);
    }

    pub ends : (n : ℕ) (e : Ending) (s'' : State) (b'' : Standing) → i < n → Beat t s' b' (ended e) b'' → Went t n s b (record { progress = Err e; beats = i + 1 }) s'' b''
    ends n e s'' b'' less β =
        let d = so_far.further (suc (n - i - 1)) 1 _ (ended e) b'' (more (β, refl) over) in
        record { steps = d.0; goes = renumbered t (i + suc (n - i - 1)) (i + 1) n (i + 1) d.0 (running s) (ended e) b b'' (omega arith) refl d.1 }

    pub suffices : (n : ℕ) → i ≡ n → Went t n s b (record { progress = Ok tt; beats = n }) s' b'
    suffices n e =
        let d = so_far.further 0 0 0 (running s') b' enough in
        record { steps = d.0; goes = renumbered t (i + 0) (i + 0) n n d.0 (running s) (running s') b b' (omega arith) (omega arith) d.1 }
