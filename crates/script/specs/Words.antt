-- The words of a text: it is cut at each blank, and what is not empty of what the cuts leave is a word.
use Rattle.std.specs.Prelude.{ℕ, Bool, cond, ◌||◌, List, [], ◌∷◌, ◌==◌}

abbrev pub Word : Type 0
Word = List ℕ

-- a space, a tab or a carriage return
abbrev pub blank : ℕ → Bool
blank b = b == 32 || (b == 9 || b == 13)

-- what stands before the first blank
abbrev pub first : List ℕ → List ℕ
first [] = []
first (b ∷ bs) = cond (blank b) [] (b ∷ first bs)

-- what stands after each blank, up to the next
abbrev pub others : List ℕ → List (List ℕ)
others [] = []
others (b ∷ bs) = cond (blank b) (first bs ∷ others bs) (others bs)

abbrev pub filled : List (List ℕ) → List Word
filled [] = []
filled ([] ∷ ps) = filled ps
filled ((b ∷ bs) ∷ ps) = (b ∷ bs) ∷ filled ps

unfoldable pub words : List ℕ → List Word
words bs = filled (first bs ∷ others bs)
