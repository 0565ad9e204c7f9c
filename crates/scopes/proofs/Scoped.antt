-- Passing over the records of a table, with what each stands under.
use Rattle.std.proofs.Common.{◌≡◌, ℕ, zero, suc, ◌+◌, List, [], ◌∷◌, drop, Some, sym, refl, ap, ◌∙◌, subst, add-one}
use Rattle.std.specs.List.{slice_get}
use Rattle.language.specs.declared.record.Record.{Record}
use Rattle.language.specs.declared.record.Record.TheVariants.{Routine, Block, Body}
use Rattle.language.specs.Lines.{line, lines, lines_after}
use Rattle.language.proofs.Lists.{clash}
use Rattle.scopes.specs.declared.scope.Scope.{Scope}
use Rattle.scopes.specs.Scopes.{nowhere, scope_at}

-- what is left from a place on begins with what stands there
pub drop_nth : {X : Type 0} (xs : List X) (p : ℕ) (x : X) → slice_get xs p ≡ Some x → drop p xs ≡ x ∷ drop (suc p) xs
drop_nth [] p x e = clash (cc)
drop_nth (y ∷ xs) zero x e = let w : y ≡ x = cc in ap (λ v. v ∷ xs) w
drop_nth (y ∷ xs) (suc p) x e = drop_nth xs p x e

nth_drop : {X : Type 0} (xs : List X) (p : ℕ) (y : X) (ys : List X) → drop p xs ≡ y ∷ ys → (slice_get xs p ≡ Some y) × (drop (suc p) xs ≡ ys)
nth_drop [] zero y ys e = clash (cc)
nth_drop [] (suc p) y ys e = clash (cc)
nth_drop (x ∷ xs) zero y ys e = (cc, cc)
nth_drop (x ∷ xs) (suc p) y ys e = nth_drop xs p y ys e

-- the lines from p on are those of the records from p on, under s
pub record Under (t : List Record) (p : ℕ) (s : Scope) : Type 0 where
  pub rest : lines_after s.routine s.variables s.handler (drop p t) ≡ drop p (lines t)

pub under_start : (t : List Record) (s : Scope) → s ≡ nowhere → Under t 0 s
under_start t s e = subst (Under t 0) (sym e) (record { rest = refl })

-- the record at p has its line under the scope that it stands in
pub record Lined (t : List Record) (p : ℕ) (s : Scope) (x : Record) : Type 0 where
  pub is : slice_get (lines t) p ≡ Some (line s.routine s.variables s.handler x)

module _ (t : List Record) (p : ℕ) (s : Scope) (far : Under t p s) where
  after : (x : Record) (s' : Scope) →
      lines_after s.routine s.variables s.handler (x ∷ drop (suc p) t) ≡ line s'.routine s'.variables s'.handler x ∷ lines_after s'.routine s'.variables s'.handler (drop (suc p) t) →
      slice_get t p ≡ Some x → Under t (p + 1) s' × Lined t p s' x
  after x s' e is =
      let d = drop_nth t p x is in
      let all : drop p (lines t) ≡ line s'.routine s'.variables s'.handler x ∷ lines_after s'.routine s'.variables s'.handler (drop (suc p) t) =
      sym far.rest ∙ ap (lines_after s.routine s.variables s.handler) d ∙ e in
      let at = nth_drop (lines t) p _ _ all in
      (subst (λ v. Under t v s') (sym (add-one p)) (record { rest = sym at.1 }), record { is = at.0 })

  under_more : (x : Record) → slice_get t p ≡ Some x → Under t (p + 1) (scope_at s x) × Lined t p (scope_at s x) x
  under_more (Routine g a b) is = after (Routine g a b) (scope_at s (Routine g a b)) refl is
  under_more (Block l k) is = after (Block l k) (scope_at s (Block l k)) refl is
  under_more (Body i) is = after (Body i) s refl is

  -- the scope at p has the line of the record there, and what comes after
  pub under_next : (x : Record) (s' : Scope) → slice_get t p ≡ Some x → s' ≡ scope_at s x → Under t (p + 1) s' × Lined t p s' x
  under_next x s' is at = subst (λ v. Under t (p + 1) v × Lined t p v x) (sym at) (under_more x is)
