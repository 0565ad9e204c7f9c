-- What is picked from a list one by one, and the lines of a table one by one.
use Rattle.std.proofs.Common.{◌≡◌, ℕ, suc, ◌+◌, List, [], ◌∷◌, ◌++◌, drop, Some, None, Option, sym, ap, ◌∙◌, subst, append_assoc, add-one}
use Rattle.std.specs.List.{slice_get}
use Rattle.language.specs.declared.handler.Handler.{Handler}
use Rattle.language.specs.declared.instruction.Instruction.{Instruction}
use Rattle.language.specs.declared.record.Record.{Record}
use Rattle.language.specs.declared.record.Record.TheVariants.{Routine, Block, Body}
use Rattle.language.specs.Lines.{line, lines}
use Rattle.scopes.specs.declared.scope.Scope.{Scope}
use Rattle.table.specs.declared.entries.RoutineEntry.{RoutineEntry}
use Rattle.table.specs.declared.entries.BlockEntry.{BlockEntry}
use Rattle.scopes.proofs.Scoped.{drop_nth, Under, Lined, under_next}
use Rattle.table.specs.Entries.{kept, picked, routine_entry, block_entry}
use Rattle.scopes.specs.Scopes.{scope_at}

module _ {X E : Type 0} (pick : ℕ → X → Option E) (xs : List X) where
  -- es are picked up to p, and the rest follows
  pub record Picked (es : List E) (p : ℕ) : Type 0 where
    pub all : es ++ picked pick p (drop p xs) ≡ picked pick 0 xs

  module _ (es : List E) (p : ℕ) (far : Picked es p) (x : X) (is : slice_get xs p ≡ Some x) where
    split : es ++ kept (pick p x) (picked pick (suc p) (drop (suc p) xs)) ≡ picked pick 0 xs
    split = ap (λ v. es ++ picked pick p v) (sym (drop_nth xs p x is)) ∙ far.all

    pub picked_one : (e : E) → pick p x ≡ Some e → Picked (es ++ e ∷ []) (p + 1)
    picked_one e at = subst (Picked (es ++ e ∷ [])) (sym (add-one p)) (record {
      all = append_assoc es (e ∷ []) (picked pick (suc p) (drop (suc p) xs)) ∙ ap (λ v. es ++ kept v (picked pick (suc p) (drop (suc p) xs))) (sym at) ∙ split;
    })

    pub picked_none : pick p x ≡ None → Picked es (p + 1)
    picked_none at = subst (Picked es) (sym (add-one p)) (record { all = ap (λ v. es ++ kept v (picked pick (suc p) (drop (suc p) xs))) (sym at) ∙ split })

-- what the loop over the records keeps
pub record Sofar (t : List Record) (p : ℕ) (s : Scope) (rs : List RoutineEntry) (bs : List BlockEntry) : Type 0 where
  pub under : Under t p s
  pub routines : Picked routine_entry t rs p
  pub blocks : Picked block_entry (lines t) bs p

module _ (t : List Record) (p : ℕ) (s : Scope) (rs : List RoutineEntry) (bs : List BlockEntry) (far : Sofar t p s rs bs)
    (x : Record) (is : slice_get t p ≡ Some x) (s' : Scope) (at : s' ≡ scope_at s x) where
  now_under : Under t (p + 1) s'
  now_under = (under_next t p s far.under x s' is at).0

  lined : Lined t p s' x
  lined = (under_next t p s far.under x s' is at).1

  module _ (rs' : List RoutineEntry) (bs' : List BlockEntry) where
    pub more_routine : (a b c : ℕ) → x ≡ Routine a b c → rs' ≡ rs ++ record { identifier = a; parameters = b; place = p } ∷ [] → bs' ≡ bs → Sofar t (p + 1) s' rs' bs'
    more_routine a b c e er eb = record {
      under = now_under;
      routines = subst (λ v. Picked routine_entry t v (p + 1)) (sym er) (picked_one routine_entry t rs p far.routines x is _ (ap (routine_entry p) e));
      blocks = subst (λ v. Picked block_entry (lines t) v (p + 1)) (sym eb) (picked_none block_entry (lines t) bs p far.blocks _ lined.is (ap (λ v. block_entry p (line s'.routine s'.variables s'.handler v)) e));
    }

    pub more_block : (l : ℕ) (k : Option Handler) → x ≡ Block l k → rs' ≡ rs → bs' ≡ bs ++ record { key = record { routine = s'.routine; label = l }; place = p } ∷ [] → Sofar t (p + 1) s' rs' bs'
    more_block l k e er eb = record {
      under = now_under;
      routines = subst (λ v. Picked routine_entry t v (p + 1)) (sym er) (picked_none routine_entry t rs p far.routines x is (ap (routine_entry p) e));
      blocks = subst (λ v. Picked block_entry (lines t) v (p + 1)) (sym eb) (picked_one block_entry (lines t) bs p far.blocks _ lined.is _ (ap (λ v. block_entry p (line s'.routine s'.variables s'.handler v)) e));
    }

    pub more_body : (i : Instruction) → x ≡ Body i → rs' ≡ rs → bs' ≡ bs → Sofar t (p + 1) s' rs' bs'
    more_body i e er eb = record {
      under = now_under;
      routines = subst (λ v. Picked routine_entry t v (p + 1)) (sym er) (picked_none routine_entry t rs p far.routines x is (ap (routine_entry p) e));
      blocks = subst (λ v. Picked block_entry (lines t) v (p + 1)) (sym eb) (picked_none block_entry (lines t) bs p far.blocks _ lined.is (ap (λ v. block_entry p (line s'.routine s'.variables s'.handler v)) e));
    }
