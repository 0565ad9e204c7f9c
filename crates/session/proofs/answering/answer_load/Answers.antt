use Rattle.session.proofs.Playing.{accepted, refused}
use Rattle.session.proofs.answering.answer_load.Goals as goal

pub returns-in-Ok : goal.returns-in-Ok
returns-in-Ok c s v is = accepted s v c.args.bytes.now is c.in-Ok.ensures.exactly.0

pub returns-in-Err : goal.returns-in-Err
returns-in-Err c s v is = refused s v c.args.bytes.now _ _ _ _ is c.into.ensures c.in-Err.ensures.checked
