use Rattle.std.proofs.Common.{sym, subst}
use Rattle.script.specs.Blame.{Unread}
use Rattle.script.specs.Words.{words}
use Rattle.script.proofs.Alone.{alone}
use Rattle.script.proofs.Blame.{stopped, told}
use Rattle.script.proofs.Readings.{reads_empty, reads_comment, reads_asks, unread, unread_word, unread_form, one_told}
use Rattle.script.proofs.line.Line.read.Goals as goal

pub returns-in_default : goal.returns-in_default
returns-in_default c = record { reads = reads_empty _ c.in_default.ensures; blames = tt; once = one_told _; alone = alone _ }

pub returns-then-word-eq35 : goal.returns-then-word-eq35
returns-then-word-eq35 c =
    let first = c.in-Some.ensures in
    record { reads = reads_comment _ _ _ first.0 first.1 c.if-word-eq35.true; blames = tt; once = one_told _; alone = alone _ }

pub returns-in_err-form : goal.returns-in_err-form
returns-in_err-form c =
    let blamed = unread_form _ _ _ _ _ c.in-Some.ensures.0 c.in_ok-keyword.ensures c.in_err-form.ensures in
    record {
      reads = stopped _ _ _ _ c.from_residual-in_err-form.ensures.1 (unread _ _ blamed);
      blames = told _ _ _ c.from_residual-in_err-form.ensures.1 blamed;
      once = one_told _;
      alone = alone _;
    }

pub returns : goal.returns
returns c =
    record { reads = reads_asks _ _ _ _ _ c.in-Some.ensures.0 c.in_ok-keyword.ensures c.in_ok-form.ensures; blames = tt; once = one_told _; alone = alone _ }

pub returns-in_err-keyword : goal.returns-in_err-keyword
returns-in_err-keyword c =
    let told-so = c.in_err-keyword.ensures in
    let blamed = subst (Unread (words c.args.text.now)) (sym told-so.0) (unread_word _ _ _ c.in-Some.ensures.0 c.if-word-eq35.false told-so.1) in
    record {
      reads = stopped _ _ _ _ c.from_residual.ensures.1 (unread _ _ blamed);
      blames = told _ _ _ c.from_residual.ensures.1 blamed;
      once = one_told _;
      alone = alone _;
    }
