-- The entry of routine 0, which every well-formed table has.
use Rattle.std.proofs.Common.{◌≡◌, ◌⊎◌, List, get_or, Some, None, Option, refl, sym, ap, ◌∙◌, subst, inl, inr}
use Rattle.std.specs.Option.{IsSome}
use Rattle.language.proofs.Lists.{clash}
use Rattle.language.specs.Lines.{place}
use Rattle.language.specs.WellFormed.{WellFormed}
use Rattle.language.specs.declared.record.Record.{Record}
use Rattle.table.proofs.Links.{NoSuchRoutine, FoundRoutine, routine_linked}
use Rattle.table.specs.Entries.{of_routine, routine_entries, entry_at, routine_found, no_routine_entry}
use Rattle.table.specs.Mains.{StartsWith}
use Rattle.table.specs.declared.entries.RoutineEntry.{RoutineEntry}

module _ (t : List Record) (ok : WellFormed t) (rs : List RoutineEntry) (same : rs ≡ routine_entries t) where
  found : FoundRoutine 0 t
  found = by (routine_linked 0 t)
    where
      by : NoSuchRoutine 0 t ⊎ FoundRoutine 0 t → FoundRoutine 0 t
      by (inl n) = let a = n.here in let b = ok.named.main.1.here.first in clash (cc)
      by (inr f) = f

  pub main_there : (r : Option RoutineEntry) → r ≡ routine_found rs 0 → IsSome r
  main_there None e =
      let f = found.there in
      let s = ap (place (of_routine 0)) same in
      let at : place (of_routine 0) rs ≡ Some found.k = cc in
      let read : routine_found rs 0 ≡ Some (get_or rs found.k no_routine_entry) = ap (entry_at no_routine_entry rs) at in
      clash (cc)
  main_there (Some x) e = refl

  pub main_found : (r : Option RoutineEntry) (x : RoutineEntry) → r ≡ routine_found rs 0 → r ≡ Some x → StartsWith t (record { place = x.place; parameters = x.parameters })
  main_found r x e is =
      let f = found.there in
      let s = ap (place (of_routine 0)) same in
      let at : place (of_routine 0) rs ≡ Some found.k = cc in
      let y = get_or rs found.k no_routine_entry in
      let read : routine_found rs 0 ≡ Some y = ap (entry_at no_routine_entry rs) at in
      let one : x ≡ y = cc in
      let entry : y ≡ record { identifier = 0; parameters = found.parameters; place = found.j } = ap (λ es. get_or es found.k no_routine_entry) same ∙ found.entry in
      subst (λ (v : RoutineEntry). StartsWith t (record { place = v.place; parameters = v.parameters })) (sym (one ∙ entry)) (record { locals = found.locals; here = found.enters })
