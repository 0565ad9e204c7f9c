use Rattle.std.proofs.Common.{◌≡◌, length, get_or, Some, Err, sym, ap, ◌∙◌, subst, arith}
use Rattle.std.specs.Option.{option_map}
use Rattle.std.proofs.lemmas.Option.{slice_get-get_or}
use Rattle.std.proofs.lemmas.Result.{err_from_is_err_and}
use Rattle.few.specs.Held.{held}
use Rattle.language.specs.declared.record.Record.TheVariants.{Routine}
use Rattle.language.specs.declared.cause.NameCause.{NameCause}
use Rattle.language.specs.Causes.{name_number_of, InNames}
use Rattle.language.specs.Refusals.{First}
use Rattle.language.specs.Lines.{routine_place}
use Rattle.language.proofs.Lists.{clash}
use Rattle.table.specs.declared.entries.RoutineEntry.{RoutineEntry}
use Rattle.table.specs.declared.fault.Located.{Located}
use Rattle.table.specs.Entries.{routine_entries}
use Rattle.table.specs.Names.{Flawed, Tied}
use Rattle.table.proofs.Links.{routine_named}
use Rattle.table.proofs.Mapping.{ok_or_ok, ok_or_err}
use Rattle.table.proofs.NameLayer.{Sofar, Said, first, more, done, main_missing}
use Rattle.table.proofs.names.check_names.Goals as goal
use Rattle.table.proofs.names.check_names.Goals.{After-flaw, After-loop-place, After-routine}

-- what `flaw` said, by the entries of the table
told : (c : After-flaw) → Said c.args.records.now c.at-scope.result c.loop-place.place (get_or c.args.records.now c.loop-place.place (Routine 0 0 0)) c.flaw.result
told c =
    let t = c.args.records.now in
    let p = c.loop-place.place in
    let x = get_or t p (Routine 0 0 0) in
    subst (λ bs. Flawed (routine_entries t) bs c.at-scope.result p x c.flaw.result) c.new-index.ensures.block_list
    (subst (λ rs. Flawed rs (held c.new-index.result.blocks) c.at-scope.result p x c.flaw.result) c.new-index.ensures.routine_list c.flaw.ensures)

pub loop-place-preserved : goal.loop-place-preserved
loop-place-preserved c =
    let t = c.args.records.now in
    let p = c.loop-place.place in
    let d = Routine 0 0 0 in
    more t p _ c.loop-place.invariant (get_or t p d) (slice_get-get_or t p d c.loop-place-test.true) _ c.at-scope.ensures
    (subst (Said t c.at-scope.result p (get_or t p d)) c.in_default.is (told (goal.at.loop-place-preserved c).After-flaw))

pub returns-in-Some : goal.returns-in-Some
returns-in-Some c =
    let t = c.args.records.now in
    let p = c.loop-place.place in
    let d = Routine 0 0 0 in
    first t p _ c.loop-place.invariant (get_or t p d) (slice_get-get_or t p d c.loop-place-test.true) _ c.at-scope.ensures c.in-Some.cause
    (subst (Said t c.at-scope.result p (get_or t p d)) c.in-Some.is (told (goal.at.returns-in-Some c).After-flaw))

-- the loop has come to the end, and routine 0 was looked up
ended : (c : After-routine) → Sofar c.args.records.now (length c.args.records.now) c.loop-place.scope
ended c =
    let e : c.loop-place.place ≡ length c.args.records.now = omega arith in
    subst (λ p. Sofar c.args.records.now p c.loop-place.scope) e c.loop-place.invariant

sought : (c : After-routine) → option_map (λ (e : RoutineEntry). e.place) c.routine.result ≡ routine_place c.args.records.now 0
sought c = routine_named 0 c.args.records.now (held c.new-index.result.routines) c.routine.result c.routine.ensures c.new-index.ensures.routine_list

pub returns-in_err-ok_or : goal.returns-in_err-ok_or
returns-in_err-ok_or c =
    let w = (goal.at.returns-in_err-ok_or c).After-routine in
    let out = err_from_is_err_and c.from_residual.result c.from_residual.ensures.1 in
    let lacks = ok_or_err c.routine.result _ c.ok_or.result c.in_err-ok_or.field-0.0 c.ok_or.ensures.value c.in_err-ok_or.was in
    let missing = main_missing c.args.records.now _ (ended w) (sym (sought w) ∙ ap (option_map (λ (e : RoutineEntry). e.place)) lacks.0) in
    subst (Tied c.args.records.now) (sym (out.1 ∙ ap Err out.2))
    (subst (λ (f : Located NameCause). First name_number_of (InNames c.args.records.now) f.cause f.place) lacks.1 missing)

pub returns : goal.returns
returns c =
    let w = (goal.at.returns c).After-routine in
    let at = sought w in
    let is = ok_or_ok c.routine.result _ c.ok_or.result c.in_ok-ok_or.field-0 c.ok_or.ensures.value c.in_ok-ok_or.was in
    let there : option_map (λ (e : RoutineEntry). e.place) c.routine.result ≡ Some c.in_ok-ok_or.field-0.place = ap (option_map (λ (e : RoutineEntry). e.place)) is in
    (done c.args.records.now _ (ended w) (λ e. clash (cc)), c.new-index.ensures)
