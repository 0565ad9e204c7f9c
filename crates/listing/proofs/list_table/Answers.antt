use Rattle.std.proofs.Common.{string_bytes, rules}
use Rattle.std.proofs.lemmas.Result.{IfOk-weaker}
use Rattle.listing.specs.Texts.{Lists}
use Rattle.listing.proofs.Listed.{listed, told}
use Rattle.listing.proofs.list_table.Goals as goal

pub returns-in-Ok : goal.returns-in-Ok
returns-in-Ok c =
    let bs = c.args.bytes.now in
    IfOk-weaker c.code_text.result _ (λ s. Lists bs (string_bytes s)) (λ s e. listed bs _ c.translate_bytes.new.out c.in-Ok.written (string_bytes s) c.in-Ok.ensures e) c.code_text.ensures

pub returns-in-Err : goal.returns-in-Err
returns-in-Err c =
    let bs = c.args.bytes.now in
    IfOk-weaker c.refusal_text.result _ (λ s. Lists bs (string_bytes s)) (λ s e. told bs _ c.translate_bytes.new.out c.in-Err.fault (string_bytes s) (search rules) c.in-Err.ensures e) c.refusal_text.ensures
