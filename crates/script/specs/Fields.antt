-- A field of a line: one word, which says something. P w x holds where the word w says x.
use Rattle.std.specs.Prelude.{◌≡◌, List, ◌∷◌, Result, MatchResult}
use Rattle.script.specs.Words.{Word}
use Rattle.script.specs.declared.expected.Expected.{Expected}

-- the first of the words ws says x, and rest follow it
pub record Takes {X : Type 0} (P : Word → X → Type 0) (ws : List Word) (x : X) (rest : List Word) : Type 0 where
  pub word : Word
  pub cut : ws ≡ word ∷ rest
  pub says : P word x

-- there is no first word, or it says nothing
abbrev pub Lacks : {X : Type 0} → (Word → X → Type 0) → List Word → Type 0
Lacks {X} P ws = (w : Word) (x : X) (rest : List Word) → ws ≡ w ∷ rest → P w x → ⊥

-- r is something that Q holds of, or an error where Q holds of nothing
abbrev pub Found : {X : Type 0} → (X → Type 0) → Result X Expected → Type 0
Found {X} Q r = MatchResult r Q (λ _. (x : X) → Q x → ⊥)
