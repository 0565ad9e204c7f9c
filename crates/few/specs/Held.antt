-- What a `Few` holds, as a list, and what a push and a pop do to that list.
use Rattle.std.specs.Prelude.{◌≡◌, ℕ, ◌<◌, List, [], ◌∷◌, ◌++◌, length, take, Option, Result, MatchResult, MatchOption}
use Rattle.few.specs.declared.few.Few.{Few}
use Rattle.few.specs.declared.full.Full.{Full}

abbrev pub held : {T : Type 0} {N : ℕ} → Few T N → List T
held f = take f.count f.items

-- x stands at the end, where there was room for it; else nothing has changed
abbrev pub Pushed : {T U : Type 0} → ℕ → List T → T → Result U Full → List T → Type 0
Pushed n xs x r ys = MatchResult r (λ _. (length xs < n) × (ys ≡ xs ++ x ∷ [])) (λ _. (length xs ≡ n) × (ys ≡ xs))

-- the last value is taken from the end, where there is one
abbrev pub Popped : {T : Type 0} → List T → Option T → List T → Type 0
Popped xs r ys = MatchOption r ((xs ≡ []) × (ys ≡ [])) (λ x. xs ≡ ys ++ x ∷ [])
