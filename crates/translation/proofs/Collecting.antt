-- The addresses of a table's records, collected one by one.
use Rattle.std.proofs.Common.{◌≡◌, ℕ, zero, suc, ◌+◌, ◌<◌, ◌≤◌, ◌⊎◌, List, [], ◌∷◌, ◌++◌, length, get_or, take, Some, None, sym, ap, ◌∙◌, inl, inr, add-one, arith, length-append, take_all}
use Rattle.std.specs.List.{slice_get}
use Rattle.std.proofs.lemmas.Bool.{cases_lt}
use Rattle.std.proofs.lemmas.List.{get_or_append_left, get_or_push}
use Rattle.few.specs.Held.{held}
use Rattle.language.specs.declared.record.Record.{Record}
use Rattle.language.specs.Lines.{Line, line, lines}
use Rattle.language.specs.WellFormed.{WellFormed}
use Rattle.language.specs.Translation.{size, total, address, translation}
use Rattle.language.proofs.Lines.{length-lines}
use Rattle.language.proofs.Words.{address_next}
use Rattle.language.proofs.Sizes.{length-translation, total_few}
use Rattle.translation.specs.declared.addresses.Addresses.{Addresses}
use Rattle.scopes.specs.declared.scope.Scope.{Scope}
use Rattle.translation.specs.Addressing.{Addressed}
use Rattle.scopes.specs.Scopes.{scope_at}
use Rattle.scopes.proofs.Scoped.{Under, under_next}

-- those of the first i records are known
pub record Collected (t : List Record) (i : ℕ) (c : Scope) (os : List ℕ) (w : ℕ) : Type 0 where
  pub under : Under t i c
  pub long : length os ≡ i
  pub each : (k : ℕ) → k < i → get_or os k 0 ≡ address t k
  pub so_far : w ≡ address t i

-- no address is beyond the whole
total_front : (ls : List Line) (i : ℕ) → total (take i ls) ≤ total ls
total_front [] zero = omega arith
total_front [] (suc i) = omega arith
total_front (line r n h x ∷ ls) zero = omega arith
total_front (line r n h x ∷ ls) (suc i) = let m = total_front ls i in omega arith

pub address_below : (t : List Record) (i : ℕ) → address t i ≤ length (translation t)
address_below t i = omega (arith, total_front (lines t) i, length-translation t)

module _ (t : List Record) (i : ℕ) (c c' : Scope) (x : Record) (under : Under t i c) (on : slice_get t i ≡ Some x) (at : c' ≡ scope_at c x) where
  pub address_more : address t (i + 1) ≡ address t i + size c'.handler x
  address_more =
      let n = under_next t i c under x c' on at in
      rw add-one (address_next t i c'.routine c'.variables c'.handler x n.1.is)

  pub room : WellFormed t → address t i + size c'.handler x ≤ 976
  room w = omega (arith, address_more, total_front (lines t) (i + 1), total_few t w)

pub one_more : (t : List Record) (i : ℕ) (c c' : Scope) (x : Record) (os os' : List ℕ) (w s : ℕ) → Collected t i c os w → os' ≡ os ++ w ∷ [] → slice_get t i ≡ Some x → c' ≡ scope_at c x → s ≡ size c'.handler x → Collected t (i + 1) c' os' (w + s)
one_more t i c c' x os os' w s f m on at e = record {
  under = (under_next t i c f.under x c' on at).0;
  long = omega (arith, ap length m, length-append os (w ∷ []), f.long);
  each = λ k l. ap (λ xs. get_or xs k 0) m ∙ by k l (cases_lt k i);
  so_far = omega (arith, address_more t i c c' x f.under on at, f.so_far, e);
}
  where
    by : (k : ℕ) → k < i + 1 → (k < i) ⊎ (i ≤ k) → get_or (os ++ w ∷ []) k 0 ≡ address t k
    by k l (inl b) = let inside : k < length os = omega (arith, f.long) in get_or_append_left os (w ∷ []) 0 k inside ∙ f.each k b
    by k l (inr b) =
        let e : k ≡ i = omega arith in
        let last : length os ≡ k = omega (arith, f.long) in
        get_or_push os w 0 k last ∙ f.so_far ∙ ap (address t) (sym e)

pub all_known : (t : List Record) (i : ℕ) (c : Scope) (a : Addresses) → WellFormed t → i ≡ length t → Collected t i c (held a.of) a.words → Addressed t a
all_known t i c a w l f = record {
  long = f.long ∙ l;
  few = w.legible.few;
  each = λ k m. f.each k (omega arith);
  all = f.so_far ∙ ap total (take_all i (lines t) (omega (arith, length-lines t 0 0 None))) ∙ sym (length-translation t);
}
