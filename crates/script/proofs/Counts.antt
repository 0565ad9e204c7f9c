-- Eight numbers that are read one after another.
use Rattle.std.proofs.Common.{◌≡◌, ℕ, suc, ◌+◌, ◌-◌, ◌<◌, ◌≤◌, List, [], ◌∷◌, ◌++◌, length, take, set, replicate, ℤ, sym, ap, ◌∙◌, subst, append_assoc, append-nil, arith, length-set}
use Rattle.std.proofs.lemmas.List.{take_more_set, take_all}
use Rattle.script.specs.Blame.{Blames}
use Rattle.script.specs.Fields.{Takes, Lacks}
use Rattle.script.specs.Lines.{Numbers}
use Rattle.script.specs.Numbers.{Writes}
use Rattle.script.specs.Words.{Word}
use Rattle.script.specs.declared.expected.Expected.{Expected}
use Rattle.script.specs.declared.expected.Expected.TheVariants.{Counts, End}
use Rattle.script.proofs.Blame.{count_lacking, count_taken, one_too_many}

-- of the words ws, i are read into the front of cs, and rest are left
pub record Sofar (ws rest : List Word) (i : ℕ) (cs : List ℤ) : Type 0 where
  pub long : length cs ≡ 8
  pub so : (zs : List ℤ) → Numbers rest zs → Numbers ws (take i cs ++ zs)
  pub blame : (e : Expected) → Blames (replicate (8 - i) Counts) rest e → Blames (replicate 8 Counts) ws e

pub none_yet : (ws : List Word) (cs : List ℤ) → length cs ≡ 8 → Sofar ws ws 0 cs
none_yet ws cs e = record { long = e; so = λ zs n. n; blame = λ d b. b }

-- how many counts are left, where one is at least
one_at_least : (i : ℕ) → i < 8 → replicate (8 - i) Counts ≡ Counts ∷ replicate (8 - (i + 1)) Counts
one_at_least i l = let e : 8 - i ≡ suc (8 - (i + 1)) = omega arith in ap (λ n. replicate n Counts) e

pub one_more : (ws rest rest' : List Word) (i : ℕ) (cs : List ℤ) (z : ℤ) → i < length cs → Sofar ws rest i cs → Takes Writes rest z rest' → Sofar ws rest' (i + 1) (set cs i z)
one_more ws rest rest' i cs z l s t = record {
  long = length-set cs i z ∙ s.long;
  so = λ zs n.
      let old : Numbers rest (z ∷ zs) = rw t.cut (t.says, n) in
      let here : take (i + 1) (set cs i z) ++ zs ≡ take i cs ++ z ∷ zs = ap (λ ys. ys ++ zs) (take_more_set cs i z l) ∙ append_assoc (take i cs) (z ∷ []) zs in
      subst (Numbers ws) (sym here) (s.so (z ∷ zs) old);
  blame = λ d b. s.blame d (subst (λ fs. Blames fs rest d) (sym (one_at_least i (omega (arith, s.long)))) (count_taken _ rest z rest' d t b));
}

module _ (ws rest : List Word) (i : ℕ) (cs : List ℤ) (s : Sofar ws rest i cs) where
  pub too_few : i < length cs → Lacks Writes rest → Blames (replicate 8 Counts) ws Counts
  too_few l h = s.blame Counts (subst (λ fs. Blames fs rest Counts) (sym (one_at_least i (omega (arith, s.long)))) (count_lacking _ rest h))

  pub too_many : (e : Expected) → length cs ≤ i → (e ≡ End) × (rest ≡ [] → ⊥) → Blames (replicate 8 Counts) ws e
  too_many e l h =
      let none : 8 - i ≡ 0 = omega (arith, s.long) in
      s.blame e (subst (λ n. Blames (replicate n Counts) rest e) (sym none) (one_too_many rest e h))

  pub eight : length cs ≤ i → rest ≡ [] → Numbers ws cs × (length cs ≡ 8)
  eight l e = (subst (Numbers ws) (append-nil (take i cs) ∙ take_all i cs l) (s.so [] (rw e tt)), s.long)
