-- The calls of any kind of stand, of which a beat leaves a run sound: what they lead to is sound, and on
-- it each start, go and jog has an answer.
use Rattle.std.proofs.Common.{◌≡◌, ℕ, zero, suc, ◌+◌, ◌<◌, ◌≤◌, ◌⊎◌, List, length, ℤ, pos, negsuc, Some, None, Option, refl, subst, inl, inr, arith}
use Rattle.std.proofs.lemmas.Int.{ints}
use Rattle.std.proofs.lemmas.Bool.{cases_lt, cases_eq}
use Rattle.bench.specs.Histories.{History}
use Rattle.bench.specs.Histories.History.{done as no_more, next}
use Rattle.bench.specs.declared.state.State.{State as Standing}
use Rattle.bench.proofs.Rules.{respond_responds}
use Rattle.language.specs.CallLaws.{Settled}
use Rattle.language.specs.Calls.{Event, load, start, go, jog, Answer, Stand, fresh_stand, most_beats, Goes, over, enough, more, Calls, loads, load_not, starts, start_nothing, start_miscounted, goes, go_nowhere, go_too_far, jogs}
use Rattle.language.specs.Lines.{Enters}
use Rattle.language.specs.Runs.{Run, running, ended}
use Rattle.language.specs.WellFormed.{WellFormed}
use Rattle.language.specs.declared.record.Record.{Record}
use Rattle.language.proofs.OneCall.{same_some, not_both}

-- a stand holds only well-formed tables, and a run only with a table, in a state that is good for it
pub record Sound {S : Type 0} (Good : List Record → Run S → Type 0) (x : Stand S) : Type 0 where
  pub formed : (t : List Record) → x.table ≡ Some t → WellFormed t
  pub reached : (t : List Record) (r : Run S) → x.table ≡ Some t → x.run ≡ Some r → Good t r
  pub tabled : (r : Run S) → x.run ≡ Some r → (t : List Record) × (x.table ≡ Some t)

module _ {S : Type 0} (begin : List Record → ℕ → List ℤ → S) (Does : List Record → S → Standing → ℕ → Run S → Standing → Type 0)
    (Good : List Record → Run S → Type 0)
    (begins : (t : List Record) → WellFormed t → (j p q : ℕ) (vs : List ℤ) → Enters t 0 j p q → Good t (running (begin t j vs)))
    (keeps : (t : List Record) → WellFormed t → (s : S) (b b' : Standing) (k : ℕ) (r : Run S) → Good t (running s) → Does t s b k r b' → Good t r) where
  pub goes_good : (t : List Record) → WellFormed t → (n m k : ℕ) (r r' : Run S) (b b' : Standing) → Good t r → Goes begin Does t n r b m k r' b' → Good t r'
  goes_good t ok n m k r r' b b' h over = h
  goes_good t ok n m k r r' b b' h enough = h
  goes_good t ok n m k r r' b b' h (more {n = i} {m = j} {k = o} {l = l} {s = s} {r = u} {b' = c} d rest) = goes_good t ok i j l u r' c b' (keeps t ok s b c o u h d) rest

  pub call_sound : (x y : Stand S) (e : Event) (a : Answer) → Sound Good x → Calls begin Does x e a y → Sound Good y
  call_sound x y e a h (loads t holds ok) =
      record { formed = λ u eq. subst WellFormed (same_some _ t u refl eq) ok; reached = λ u r eq no. not_both _ r refl no; tabled = λ r no. not_both _ r refl no }
  call_sound x y e a h (load_not d) = h
  call_sound x y e a h (starts {vs = vs} {p = p} {q = q} t j loaded d n) =
      record {
        formed = h.formed;
        reached = λ u r eq started.
            let same : t ≡ u = same_some x.table t u loaded eq in
            let begun = begins t (h.formed t loaded) j p q vs d in
            subst (λ v. Good v r) same (subst (Good t) (same_some _ (running (begin t j vs)) r refl started) begun);
        tabled = λ r started. (t, loaded);
      }
  call_sound x y e a h (start_nothing d) = h
  call_sound x y e a h (start_miscounted t j loaded d n) = h
  call_sound x y e a h (goes {m = m} {k = k} {r' = r'} {b' = b'} t r n loaded started l g) =
      record {
        formed = h.formed;
        reached = λ u v eq now-run.
            let same : t ≡ u = same_some x.table t u loaded eq in
            let gone = goes_good t (h.formed t loaded) n m k r r' x.bench b' (h.reached t r loaded started) g in
            subst (λ w. Good w v) same (subst (Good t) (same_some _ r' v refl now-run) gone);
        tabled = λ v now-run. (t, loaded);
      }
  call_sound x y e a h (go_nowhere d) = h
  call_sound x y e a h (go_too_far r d o) = h
  call_sound x y e a h (jogs d) = record { formed = h.formed; reached = h.reached; tabled = h.tabled }

  history_sound : (x y : Stand S) (es : List Event) (rs : List Answer) → Sound Good x → History (Calls begin Does) x es rs y → Sound Good y
  history_sound x y es rs h no_more = h
  history_sound x y es rs h (next {m = m} {e = e} {a = a} {es = fs} {rs = qs} d rest) = history_sound m y fs qs (call_sound x m e a h d) rest

  pub fresh_sound : (b : Standing) → Sound Good (fresh_stand b)
  fresh_sound b = record { formed = λ t e. not_both _ t refl e; reached = λ t r e f. not_both _ t refl e; tabled = λ r e. not_both _ r refl e }

  pub reached_sound : (b : Standing) (x : Stand S) (es : List Event) (rs : List Answer) → History (Calls begin Does) (fresh_stand b) es rs x → Sound Good x
  reached_sound b x es rs h = history_sound (fresh_stand b) x es rs (fresh_sound b) h

  module _ (some : (t : List Record) → WellFormed t → (s : S) (b : Standing) → Good t (running s) → (k : ℕ) × (r : Run S) × (b' : Standing) × Does t s b k r b') where
    pub some_goes : (t : List Record) → WellFormed t → (n : ℕ) (r : Run S) (b : Standing) → Good t r → (m : ℕ) × (k : ℕ) × (r' : Run S) × (b' : Standing) × Goes begin Does t n r b m k r' b'
    some_goes t ok n (ended e) b h = (0, 0, ended e, b, over)
    some_goes t ok zero (running s) b h = (0, 0, running s, b, enough)
    some_goes t ok (suc n) (running s) b h =
        let o = some t ok s b h in
        let on = some_goes t ok n o.1 o.2 (keeps t ok s b o.2 o.0 o.1 h o.3) in
        (suc on.0, o.0 + on.1, on.2, on.3, more o.3 on.4)

    abbrev SomeCall : Stand S → Event → Type 0
    SomeCall x e = (o : Answer × Stand S) × Calls begin Does x e o.0 o.1

    some_start : (x : Stand S) → Sound Good x → (vs : List ℤ) → (o : Option (List Record)) → x.table ≡ o → SomeCall x (start vs)
    some_start x h vs None l = (_, start_nothing l)
    some_start x h vs (Some t) l = let m = (h.formed t l).named.main in by m.1.here (cases_eq (length vs) m.0)
      where
        by : {j p q : ℕ} → Enters t 0 j p q → (length vs ≡ p) ⊎ (length vs ≡ p → ⊥) → SomeCall x (start vs)
        by {j} d (inl n) = (_, starts t j l d n)
        by {j} d (inr n) = (_, start_miscounted t j l d n)

    some_go : (x : Stand S) → Sound Good x → (z : ℤ) → (o : Option (Run S)) → x.run ≡ o → SomeCall x (go z)
    some_go x h z None s = (_, go_nowhere s)
    some_go x h z (Some r) s = by z
      where
        near : (n : ℕ) → (n < suc most_beats) ⊎ (suc most_beats ≤ n) → SomeCall x (go (pos n))
        near n (inl l) =
            let t = h.tabled r s in
            let g = some_goes t.0 (h.formed t.0 t.1) n r x.bench (h.reached t.0 r t.1 s) in
            (_, goes t.0 r n t.1 s (omega arith) g.4)
        near n (inr l) = (_, go_too_far r s (inr (omega (arith, ints))))

        by : (y : ℤ) → SomeCall x (go y)
        by (pos n) = near n (cases_lt n (suc most_beats))
        by (negsuc n) = (_, go_too_far r s (inl (omega (arith, ints))))

    some_load : (x : Stand S) (bs : List ℕ) → Settled (load bs) → SomeCall x (load bs)
    some_load x bs (inl f) = (_, loads f.table (record { same = f.same; legible = f.formed.legible }) f.formed)
    some_load x bs (inr f) = (_, load_not f.3)

    pub some_call : (x : Stand S) → Sound Good x → (e : Event) → Settled e → SomeCall x e
    some_call x h (load bs) f = some_load x bs f
    some_call x h (start vs) f = some_start x h vs x.table refl
    some_call x h (go z) f = some_go x h z x.run refl
    some_call x h (jog op y) f = (_, jogs (respond_responds x.bench op y))
