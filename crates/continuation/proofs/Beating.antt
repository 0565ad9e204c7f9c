-- A beat made step by step: what is made so far, and what is known of what is left.
use Rattle.std.proofs.Common.{◌≡◌, ℕ, suc, ◌+◌, ◌≤◌, true, false, List, subst, arith}
use mathlib.Core.Bool.{Bool-set}
use mathlib.Core.Logic.{∥∥₁_elim, ∥∥₁_map}
use native.Mathlib.Bridge.{le_prop}
use Rattle.bench.specs.declared.state.State.{State as Standing}
use Rattle.continuation.specs.Beating.{Midway}
use Rattle.language.proofs.CodeWords.{one_word}
use Rattle.language.proofs.Following.{follow_opens, follows_going}
use Rattle.language.proofs.Inside.{inside_first, inside_more}
use Rattle.language.specs.Code.{code}
use Rattle.language.specs.CodeWords.{WordAt}
use Rattle.language.specs.Configurations.{Configuration}
use Rattle.language.specs.Continuation.{CodeStep, CodeBeat}
use Rattle.language.specs.Following.{Follows, Going}
use Rattle.language.specs.Runs.{Run, running, ended}
use Rattle.language.specs.Steps.{Marks, Rest, over, opens, small, beat}
use Rattle.language.specs.WellFormed.{WellFormed}
use Rattle.language.specs.declared.ending.Ending.{Ending}
use Rattle.language.specs.declared.record.Record.{Record}
use Rattle.language.specs.declared.word.Word.{Word}

module _ (t : List Record) (ok : WellFormed t) where
  abbrev At : ℕ → Word → Type 0
  At = WordAt (code t)

  -- what follows is going, and stands at a word that opens a beat
  pub follows_on : (s : Configuration) (b : Standing) → ∥ Follows t s ∥₁ → ∥ Going t (running s) b ∥₁
  follows_on s b f = ∥∥₁_map f (λ w. follows_going t ok b (running s) w)

  first_opens : (s : Configuration) (b : Standing) (w : Word) → ∥ Follows t s ∥₁ → At s.counter w → w.opens ≡ true
  first_opens s b w f here =
      ∥∥₁_elim f (Bool-set _ _) (λ g. let m = follow_opens t ok s g b in let same = one_word (code t) s.counter w m.word here m.there in let is = m.is in cc)

  -- a whole beat, of its first step and the rest
  pub whole : (s : Configuration) (b c d : Standing) (w : Word) (r r' : Run Configuration) (n : ℕ) → ∥ Follows t s ∥₁ → At s.counter w → CodeStep t s b r c → Rest At r c n r' d → CodeBeat t s b (n + 1) r' d
  whole s b c d w r r' n f here σ rest =
      let e : suc n ≡ n + 1 = omega arith in
      subst (λ i. CodeBeat t s b i r' d) e (beat (record { word = w; there = here; is = first_opens s b w f here }) σ rest)

  pub midway_first : (s : Configuration) (b c : Standing) (r : Run Configuration) → ∥ Follows t s ∥₁ → CodeStep t s b r c → ∥ Midway t 1 r c ∥₁
  midway_first s b c r f σ = ∥∥₁_map f (λ g. record { opened = s; bench = b; inside = inside_first t ok s b c r g σ })

  pub midway_on : (k : ℕ) (z : Configuration) (c : Standing) → ∥ Midway t k (running z) c ∥₁ → ∥ Going t (running z) c ∥₁
  midway_on k z c m = ∥∥₁_map m (λ w. w.inside.going)

  -- there are at most 18 steps
  pub at_most : (k : ℕ) (r : Run Configuration) (c : Standing) → ∥ Midway t k r c ∥₁ → k ≤ 18
  at_most k r c m = ∥∥₁_elim m le_prop (λ w. omega (arith, w.inside.few))

  -- i steps of the rest are made: whatever is left makes it whole
  pub record Settling (r : Run Configuration) (b : Standing) (i : ℕ) (z : Run Configuration) (c : Standing) : Type 0 where
    pub further : (n : ℕ) (r' : Run Configuration) (d : Standing) → Rest At z c n r' d → Rest At r b (i + n) r' d
    pub midway : ∥ Midway t (i + 1) z c ∥₁

  pub none_made : (r : Run Configuration) (b : Standing) → ∥ Midway t 1 r b ∥₁ → Settling r b 0 r b
  none_made r b m = record { further = λ n r' d g. let e : n ≡ 0 + n = omega arith in subst (λ k. Rest At r b k r' d) e g; midway = m }

  module _ (r : Run Configuration) (b : Standing) (i : ℕ) where
    module _ (z : Configuration) (c : Standing) (p : Settling r b i (running z) c) (w : Word) (here : At z.counter w) where
      -- a further word, which does not open a beat
      pub one_more : (u : Run Configuration) (d : Standing) → w.opens ≡ false → CodeStep t z c u d → Settling r b (i + 1) u d
      one_more u d low σ =
          let m : Marks At z false = record { word = w; there = here; is = low } in
          record {
            further = λ n r' e g. let q : i + suc n ≡ i + 1 + n = omega arith in subst (λ k. Rest At r b k r' e) q (p.further (suc n) r' e (small m σ g));
            midway = ∥∥₁_map p.midway (λ v. record { opened = v.opened; bench = v.bench; inside = inside_more t ok v.opened z v.bench c d (i + 1) u v.inside m σ });
          }

      -- a word that opens the next one
      pub closes : w.opens ≡ true → Rest At r b i (running z) c
      closes high = let q : i + 0 ≡ i = omega arith in subst (λ k. Rest At r b k (running z) c) q (p.further 0 (running z) c (opens (record { word = w; there = here; is = high })))

    pub ends : (e : Ending) (c : Standing) → Settling r b i (ended e) c → Rest At r b i (ended e) c
    ends e c p = let q : i + 0 ≡ i = omega arith in subst (λ k. Rest At r b k (ended e) c) q (p.further 0 (ended e) c over)

    pub few : (z : Run Configuration) (c : Standing) → Settling r b i z c → i ≤ 17
    few z c p = omega (arith, at_most (i + 1) z c p.midway)
