use Rattle.std.proofs.Common.{w32, to_z, of_z, rules}
use Rattle.direct.proofs.Rules.{by_answer, by_fault}
use Rattle.direct.proofs.machine.Machine.request.Goals as goal
use Rattle.direct.specs.Machines.{state_of}
use Rattle.direct.specs.Programs.{records_in}

pub returns-in-Ok : goal.returns-in-Ok
returns-in-Ok g c =
    by_answer (records_in c.args.program.now) (state_of c.args.self.now) _ _ c.args.x c.args.operation c.args.y c.requires.here c.request.result
    (to_z w32 (of_z w32 c.from.result)) (to_z w32 (of_z w32 c.get-number.result)) (search rules) (search rules) c.request.ensures.answer c.request.ensures.after
    c.in-Ok.answer _ c.in-Ok.is (search rules)

pub returns-in-Err : goal.returns-in-Err
returns-in-Err g c =
    by_fault (records_in c.args.program.now) (state_of c.args.self.now) _ _ c.args.x c.args.operation c.args.y c.requires.here c.request.result
    (to_z w32 (of_z w32 c.from.result)) (to_z w32 (of_z w32 c.get-number.result)) (search rules) (search rules) c.request.ensures.answer c.request.ensures.after
    c.in-Err.fault (to_z w32 (of_z w32 c.number.result)) _ c.in-Err.is (search rules) c.raise.ensures.raises
