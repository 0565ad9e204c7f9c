-- The links of a table's records, made one by one.
use Rattle.std.proofs.Common.{◌≡◌, ℕ, ◌+◌, ◌<◌, ◌≤◌, ◌⊎◌, List, [], ◌∷◌, ◌++◌, length, get_or, Some, None, Option, sym, ap, ◌∙◌, subst, inl, inr, arith, length-append}
use lib.ListN.{get_or-append}
use lib.Seq.{get_or-append_seam}
use Rattle.scopes.proofs.Scoped.{Under, under_start, under_next}
use Rattle.scopes.specs.Scopes.{nowhere, scope_at}
use Rattle.scopes.specs.declared.scope.Scope.{Scope}
use Rattle.direct.specs.Links.{LinkedBy, HandledBy, no_link, Linked}
use Rattle.direct.specs.declared.link.Link.{Link}
use Rattle.language.proofs.Lines.{length-lines}
use Rattle.language.proofs.Lists.{nth_below}
use Rattle.language.specs.Lines.{line, lines}
use Rattle.language.specs.declared.handler.Handler.{Handler}
use Rattle.language.specs.declared.record.Record.{Record}
use Rattle.std.proofs.lemmas.Bool.{cases_lt}
use Rattle.std.specs.List.{slice_get}

-- what is asked of the link of a line
pub record Fits (t : List Record) (r : ℕ) (h : Option Handler) (x : Record) (k : Link) : Type 0 where
  pub names : LinkedBy t r x k
  pub handler : HandledBy t r h k.handler

-- those of the first i records are made
pub record Made (t : List Record) (i : ℕ) (s : Scope) (ks : List Link) : Type 0 where
  pub under : Under t i s
  pub long : length ks ≡ i
  pub each : (j r n : ℕ) (h : Option Handler) (x : Record) → j < i → slice_get (lines t) j ≡ Some (line r n h x) → Fits t r h x (get_or ks j (no_link t))

pub none_made : (t : List Record) (s : Scope) (ks : List Link) → s ≡ nowhere → ks ≡ [] → Made t 0 s ks
none_made t s ks e none = record { under = under_start t s e; long = ap length none; each = λ j r n h x l. absurd (omega arith) }

pub one_made : (t : List Record) (i : ℕ) (s s' : Scope) (x : Record) (ks : List Link) (k : Link) → Made t i s ks → slice_get t i ≡ Some x → s' ≡ scope_at s x →
    LinkedBy t s'.routine x k → HandledBy t s'.routine s'.handler k.handler → Made t (i + 1) s' (ks ++ k ∷ [])
one_made t i s s' x ks k far is at names handler =
    let u = under_next t i s far.under x s' is at in
    record { under = u.0; long = length-append ks (k ∷ []) ∙ ap (λ n. n + 1) far.long; each = λ j r n h y l e. by j r n h y l e u.1.is (cases_lt j i) }
  where
    by : (j r n : ℕ) (h : Option Handler) (y : Record) → j < i + 1 → slice_get (lines t) j ≡ Some (line r n h y) → slice_get (lines t) i ≡ Some (line s'.routine s'.variables s'.handler x) →
        (j < i) ⊎ (i ≤ j) → Fits t r h y (get_or (ks ++ k ∷ []) j (no_link t))
    by j r n h y l e here (inl b) =
        let inside : j < length ks = omega (arith, far.long) in
        subst (Fits t r h y) (sym (get_or-append ks (k ∷ []) (no_link t) j inside)) (far.each j r n h y b e)
    by j r n h y l e here (inr b) =
        let same : j ≡ length ks = omega (arith, far.long) in
        let mine : get_or (ks ++ k ∷ []) j (no_link t) ≡ k = ap (λ v. get_or (ks ++ k ∷ []) v (no_link t)) same ∙ get_or-append_seam ks k [] (no_link t) in
        let at : j ≡ i = omega arith in
        let er : s'.routine ≡ r = cc in
        let eh : s'.handler ≡ h = cc in
        let ex : x ≡ y = cc in
        let f : Fits t s'.routine s'.handler x k = record { names = names; handler = handler } in
        subst (Fits t r h y) (sym mine) (subst (λ v. Fits t r h v k) ex (subst (λ v. Fits t r v x k) eh (subst (λ v. Fits t v s'.handler x k) er f)))

pub all_made : (t : List Record) (i : ℕ) (s : Scope) (ks : List Link) → length t ≡ i → Made t i s ks → Linked t ks
all_made t i s ks l m = record {
  long = m.long ∙ sym l;
  names = λ j r n h x e. (m.each j r n h x (below j r n h x e) e).names;
  handlers = λ j r n h x e. (m.each j r n h x (below j r n h x e) e).handler;
}
  where
    below : (j r n : ℕ) (h : Option Handler) (x : Record) → slice_get (lines t) j ≡ Some (line r n h x) → j < i
    below j r n h x e = omega (arith, nth_below (lines t) j (line r n h x) e, length-lines t 0 0 None)
