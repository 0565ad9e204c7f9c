-- Histories: a machine is given events in turn, and answers each. Does s e a t says that the machine
-- in state s, given the event e, answers a and is left in state t.
use Rattle.std.specs.Prelude.{◌≡◌, List, [], ◌∷◌}

module _ {S E R : Type 0} (Does : S → E → R → S → Type 0) where
  -- a machine in the first state, given these events in turn, answers so, and ends in the last state
  pub data History : S → List E → List R → S → Type 0 where
    done : {s : S} → History s [] [] s
    next : {s m t : S} {e : E} {a : R} {es : List E} {rs : List R} → Does s e a m → History m es rs t → History s (e ∷ es) (a ∷ rs) t

  -- two machines that stand equal, given the same events in turn, answer alike to each, and stand
  -- equal after each
  pub data Agreement : S → S → List E → List R → List R → S → S → Type 0 where
    done : {s s' : S} → s ≡ s' → Agreement s s' [] [] [] s s'
    next : {s s' m m' t t' : S} {e : E} {a a' : R} {es : List E} {rs rs' : List R} →
        s ≡ s' → Does s e a m → Does s' e a' m' → a ≡ a' → Agreement m m' es rs rs' t t' → Agreement s s' (e ∷ es) (a ∷ rs) (a' ∷ rs') t t'

  -- state and event decide the answer and the state left
  abbrev pub Deterministic : Type 0
  Deterministic = (s : S) (e : E) (a a' : R) (t t' : S) → Does s e a t → Does s e a' t' → (a ≡ a') × (t ≡ t')
