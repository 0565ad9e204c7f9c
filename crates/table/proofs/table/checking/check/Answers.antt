use Rattle.std.proofs.Common.{Err, sym, ap, ◌∙◌, subst}
use Rattle.std.proofs.lemmas.Result.{err_from_is_err_and}
use Rattle.language.specs.WellFormed.{Holds}
use Rattle.few.specs.Held.{held}
use Rattle.table.specs.Indexes.{Indexes}
use Rattle.table.specs.Checked.{Accepts, Checked}
use Rattle.table.proofs.Verdicts.{few_routines, few_blocks, accepted, alone, exactly, by_layer_1, by_layer_2, by_layer_3}
use Rattle.table.proofs.table.checking.check.Goals as goal
use Rattle.table.proofs.table.checking.check.Goals.{After-as_slice-all, In_ok-index}

pub returns-in_err-records : goal.returns-in_err-records
returns-in_err-records c =
    let bs = c.args.bytes.now in
    let p = err_from_is_err_and c.from_residual.result c.from_residual.ensures.1 in
    let h : Checked bs c.from_residual.result = subst (Checked bs) (sym (p.1 ∙ ap Err p.2)) (by_layer_1 bs _ c.in_err-records.ensures) in
    record { checked = h; exactly = exactly bs c.from_residual.result h }

-- the slice holds the records of the bytes
holding : (c : After-as_slice-all) → Holds c.args.bytes.now c.as_slice-all.result.now
holding c = subst (Holds c.args.bytes.now) (sym c.as_slice-all.ensures) c.in_ok-records.ensures

pub returns-in_err-check_blocks : goal.returns-in_err-check_blocks
returns-in_err-check_blocks c =
    let bs = c.args.bytes.now in
    let r = c.from_residual-in_err-check_blocks.result in
    let p = err_from_is_err_and r c.from_residual-in_err-check_blocks.ensures.1 in
    let h : Checked bs r = subst (Checked bs) (sym (p.1 ∙ ap Err p.2)) (by_layer_2 bs _ _ (holding (goal.at.returns-in_err-check_blocks c).After-as_slice-all) c.in_err-check_blocks.ensures) in
    record { checked = h; exactly = exactly bs r h }

pub check_names-requires : goal.check_names-requires
check_names-requires c =
    let bs = c.args.bytes.now in
    let t = c.as_slice-all.result.now in
    let holds = holding (goal.at.check_names-requires c).After-as_slice-all in
    let clear = c.in_ok-check_blocks.ensures in
    record { routines = few_routines bs t holds clear; blocks = few_blocks bs t holds clear }

pub returns-in_err-index : goal.returns-in_err-index
returns-in_err-index c =
    let bs = c.args.bytes.now in
    let r = c.from_residual-in_err-index.result in
    let p = err_from_is_err_and r c.from_residual-in_err-index.ensures.1 in
    let h : Checked bs r = subst (Checked bs) (sym (p.1 ∙ ap Err p.2))
    (by_layer_3 bs _ _ (holding (goal.at.returns-in_err-index c).After-as_slice-all) c.in_ok-check_blocks.ensures c.in_err-index.ensures) in
    record { checked = h; exactly = exactly bs r h }

-- the records are accepted
accepts : (c : In_ok-index) → Accepts c.args.bytes.now (held c.in_ok-records.records)
accepts c =
    let t = c.as_slice-all.result.now in
    subst (Accepts c.args.bytes.now) c.as_slice-all.ensures
    (accepted c.args.bytes.now t (subst (Holds c.args.bytes.now) (sym c.as_slice-all.ensures) c.in_ok-records.ensures) c.in_ok-check_blocks.ensures c.in_ok-index.ensures.0)

pub invariant_of-result : goal.invariant_of-result
invariant_of-result c =
    let same = c.as_slice-all.ensures in
    let index = c.in_ok-index.ensures.1 in
    let w = (goal.at.invariant_of-result c).In_ok-index in
    record { formed = ∣ (accepts w).formed ∣₁; indexed = subst (Indexes c.in_ok-index.index) same index }

pub returns : goal.returns
returns c =
    let h = accepts (goal.at.returns c).In_ok-index in
    record { checked = h; exactly = alone c.args.bytes.now _ h }
