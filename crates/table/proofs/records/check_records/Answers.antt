use Rattle.std.proofs.Common.{◌≡◌, ℕ, ◌<◌, ◌≤◌, List, [], length, get_or, Err, sym, ap, ◌∙◌, subst, rules}
use Rattle.std.proofs.lemmas.Bool.{false≢true}
use Rattle.std.proofs.lemmas.Result.{err_from_is_err_and}
use Rattle.language.specs.Causes.{record_number_of, InRecords}
use Rattle.language.specs.Refusals.{First}
use Rattle.few.specs.Held.{held}
use Rattle.language.specs.declared.cause.RecordCause.{RecordCause}
use Rattle.table.specs.declared.fault.Located.{Located}
use Rattle.table.specs.Records.{Recorded}
use Rattle.table.specs.Rows.{Missed, Decodes}
use Rattle.table.proofs.Mapping.{mapped_err}
use Rattle.table.proofs.RecordLayer.{Sofar, first, done, no_table}
use Rattle.table.proofs.records.check_records.Goals as goal

pub returns-then-not-is_whole : goal.returns-then-not-is_whole
returns-then-not-is_whole c = no_table c.args.bytes.now (λ w. false≢true (sym c.if-not-is_whole.true ∙ c.is_whole.ensures.1 w))

pub returns-in_err-made : goal.returns-in_err-made
returns-in_err-made c =
    let bs = c.args.bytes.now in
    let p = c.loop-place.place-counter in
    let t = held c.loop-place.records in
    let same = c.as_chunks.ensures.front in
    let out = err_from_is_err_and c.from_residual.result c.from_residual.ensures.1 in
    let read = mapped_err _ c.decode.result c.map_err.result c.in_err-made.field-0.0 c.map_err.ensures.cases c.in_err-made.was in
    let missed = subst (Decodes (get_or c.as_chunks.result.0.now p [])) read.1 c.decode.ensures.decodes in
    let told = first bs (c.is_whole.ensures.0 c.if-not-is_whole.false) t p (subst (λ rs. Sofar rs t p) same c.loop-place.invariant) read.0
    (subst (λ (rs : List (List ℕ)). p < length rs) same c.loop-place-test.true)
    (subst (λ rs. Missed (get_or rs p []) read.0) same missed) in
    let at : c.in_err-made.field-0.0 ≡ record { cause = read.0; place = p } = search rules in
    let said : First record_number_of (InRecords bs) c.in_err-made.field-0.0.cause c.in_err-made.field-0.0.place = subst (λ (f : Located RecordCause). First record_number_of (InRecords bs) f.cause f.place) (sym at) told in
    subst (Recorded bs) (sym (out.1 ∙ ap Err out.2)) said

pub returns : goal.returns
returns c =
    let bs = c.args.bytes.now in
    let p = c.loop-place.place-counter in
    let t = held c.loop-place.records in
    let same = c.as_chunks.ensures.front in
    done bs (c.is_whole.ensures.0 c.if-not-is_whole.false) t p (subst (λ rs. Sofar rs t p) same c.loop-place.invariant) (subst (λ (rs : List (List ℕ)). length rs ≤ p) same c.loop-place-test.false)
