-- Histories, one event more at the end; and two machines that start equal.
use Rattle.std.proofs.Common.{◌≡◌, ℕ, ◌+◌, ◌-◌, ◌<◌, ◌≤◌, min, ◌⊎◌, List, [], ◌∷◌, ◌++◌, map, length, get_or, take, drop, set, sym, refl, ap, ◌∙◌, subst, inl, inr, arith}
use Rattle.std.proofs.lemmas.List.{take_more, take_more_set, map_push, take_all, drop-drop, drop-set-lt}
use Rattle.std.proofs.lemmas.Bool.{cases_lt}
use Rattle.bench.specs.Histories.{History, Agreement, Deterministic}
use Rattle.bench.specs.Histories.History.{done, next}
use Rattle.bench.specs.Histories.Agreement.{done as agreed, next as agree_next}

module _ {S E R : Type 0} (Does : S → E → R → S → Type 0) where
  history_push : (s m t : S) (es : List E) (e : E) (rs : List R) (a : R) → History Does s es rs m → Does m e a t → History Does s (es ++ e ∷ []) (rs ++ a ∷ []) t
  history_push s m t es e rs a done h = next h done
  history_push s m t es e rs a (next {m = n} {es = fs} {rs = qs} d rest) h = next d (history_push n m t fs e qs a rest h)

  -- one event more is given, and its slot filled
  pub history_more : {P : Type 0} (f : P → R) (es : List E) (slots : List P) (i : ℕ) (d : E) (p : P) (s m t : S) → i < length es → i < length slots →
      History Does s (take i es) (map f (take i slots)) m → Does m (get_or es i d) (f p) t →
      History Does s (take (i + 1) es) (map f (take (i + 1) (set slots i p))) t
  history_more f es slots i d p s m t he hs before h =
      let pushed = history_push s m t (take i es) (get_or es i d) (map f (take i slots)) (f p) before h in
      let filled : map f (take (i + 1) (set slots i p)) ≡ map f (take i slots) ++ f p ∷ [] = ap (map f) (take_more_set slots i p hs) ∙ map_push f (take i slots) p in
      subst (λ rs. History Does s (take (i + 1) es) rs t) (sym filled) (subst (λ l. History Does s l (map f (take i slots) ++ f p ∷ []) t) (sym (take_more es i d he)) pushed)

  -- a machine that is given the same events twice, from one state
  pub same_history : Deterministic Does → (s t t' : S) (es : List E) (rs rs' : List R) → History Does s es rs t → History Does s es rs' t' → (rs ≡ rs') × (t ≡ t')
  same_history one s t t' es rs rs' done done = (refl, refl)
  same_history one s t t' es rs rs' (next {m = m} {e = e} {a = a} {es = fs} {rs = xs} d rest) (next {m = m'} {a = a'} {rs = ys} d' rest') =
      let same = one s e a a' m m' d d' in
      let on = same_history one m t t' fs xs ys rest (subst (λ n. History Does n fs ys t') (sym same.1) rest') in
      (ap (λ x. x ∷ xs) same.0 ∙ ap (λ l. a' ∷ l) on.0, on.1)

  -- two machines that start equal, given the same events
  pub agreement : Deterministic Does → (s s' t t' : S) (es : List E) (rs rs' : List R) → History Does s es rs t → History Does s' es rs' t' → s ≡ s' → Agreement Does s s' es rs rs' t t'
  agreement one s s' t t' es rs rs' done done eq = agreed eq
  agreement one s s' t t' es rs rs' (next {m = m} {e = e} {a = a} {es = fs} {rs = xs} d rest) (next {m = m'} {a = a'} {rs = ys} d' rest') eq =
      let same = one s e a a' m m' d (subst (λ z. Does z e a' m') (sym eq) d') in
      agree_next eq d d' same.0 (agreement one m m' t t' fs xs ys rest rest' same.1)

-- where a loop has come to the end of the shorter of two lists, it has come to the end of what there is
all_given : {X : Type 0} (xs : List X) (i n : ℕ) → i ≡ min (length xs) n → take i xs ≡ take n xs
all_given {X = X} xs i n e = by (cases_lt n (length xs))
  where
    by : (n < length xs) ⊎ (length xs ≤ n) → take i xs ≡ take n xs
    by (inl h) = ap (λ k. take k xs) (omega arith)
    by (inr h) = take_all i xs (omega arith) ∙ sym (take_all n xs h)

-- two lists that are the same from a place on are so from any later place
pub dropped_on : {X : Type 0} (xs ys : List X) (i n : ℕ) → i ≤ n → drop i xs ≡ drop i ys → drop n xs ≡ drop n ys
dropped_on xs ys i n h e =
    let whole : i + (n - i) ≡ n = omega arith in
    ap (λ k. drop k xs) (sym whole) ∙ sym (drop-drop (n - i) i xs) ∙ ap (drop (n - i)) e ∙ drop-drop (n - i) i ys ∙ ap (λ k. drop k ys) whole

-- slots past the one filled are as they were
pub dropped_more : {X : Type 0} (xs ys : List X) (i : ℕ) (x : X) → drop i xs ≡ drop i ys → drop (i + 1) (set xs i x) ≡ drop (i + 1) ys
dropped_more xs ys i x e = drop-set-lt (i + 1) xs i x (omega arith) ∙ dropped_on xs ys i (i + 1) (omega arith) e

module _ {S E R : Type 0} (Does : S → E → R → S → Type 0) where
  -- as many events are given as there are slots
  pub history_all : {P : Type 0} (f : P → R) (es : List E) (slots : List P) (i n : ℕ) (s t : S) → i ≡ min (length es) n → length slots ≡ n →
      History Does s (take i es) (map f (take i slots)) t → History Does s (take n es) (map f (take (length es) slots)) t
  history_all f es slots i n s t e long h =
      subst (λ l. History Does s l (map f (take (length es) slots)) t) (all_given es i n e)
      (subst (λ l. History Does s (take i es) (map f l) t) (all_given slots i (length es) (omega arith)) h)
