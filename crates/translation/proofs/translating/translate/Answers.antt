use Rattle.std.proofs.Common.{◌≡◌, pos, Ok, arith, w32, to_z, rules}
use Rattle.std.proofs.lemmas.Int.{ints}
use Rattle.translation.proofs.Answering.{answer_low, answer_near}
use Rattle.translation.proofs.translating.translate.Goals as goal

pub overflow_cast-result : goal.overflow_cast-result
overflow_cast-result c =
    let low = answer_low c.args.table.now c.args.out.now c.translate_bytes.new.out c.in-Ok.written c.in-Ok.ensures in
    search rules

pub refusal_number-requires : goal.refusal_number-requires
refusal_number-requires c = answer_near c.args.table.now c.args.out.now c.translate_bytes.new.out c.in-Err.fault c.in-Err.ensures

pub returns-in-Ok : goal.returns-in-Ok
returns-in-Ok c =
    let low = answer_low c.args.table.now c.args.out.now c.translate_bytes.new.out c.in-Ok.written c.in-Ok.ensures in
    let is : to_z w32 c.in-Ok.written ≡ pos c.in-Ok.written = omega (arith, ints) in
    record { answer = Ok c.in-Ok.written; fits = c.in-Ok.ensures; is = is }
