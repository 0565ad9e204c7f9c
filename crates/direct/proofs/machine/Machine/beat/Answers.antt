use Rattle.std.proofs.Common.{Ok, w32, to_z, of_z, rules}
use Rattle.direct.proofs.Programs.{formed, low}
use Rattle.direct.proofs.Rules.{at_below, instruction_at, by_constant, by_move, by_subtract, by_goto, by_raise}
use Rattle.direct.proofs.machine.Machine.beat.Goals as goal
use Rattle.direct.specs.Machines.{state_of}
use Rattle.direct.specs.Programs.{records_in}

pub instruction-requires : goal.instruction-requires
instruction-requires g c =
    let p = c.args.program.now in
    record { instruction = c.requires.stands.instruction; there = instruction_at (records_in p) (formed p) (state_of c.args.self.now) c.requires }

pub assign-requires : goal.assign-requires
assign-requires g c = low c.args.program.now (state_of c.args.self.now) c.requires

pub assign-requires-in-Move : goal.assign-requires-in-Move
assign-requires-in-Move g c = low c.args.program.now (state_of c.args.self.now) c.requires

pub assign-requires-in-Difference : goal.assign-requires-in-Difference
assign-requires-in-Difference g c = low c.args.program.now (state_of c.args.self.now) c.requires

pub link-requires : goal.link-requires
link-requires g c = let p = c.args.program.now in at_below (records_in p) (formed p) (state_of c.args.self.now) c.requires

pub returns-in-Constant : goal.returns-in-Constant
returns-in-Constant g c =
    by_constant (records_in c.args.program.now) (state_of c.args.self.now) _ _ c.in-Constant.x (to_z w32 (of_z w32 c.in-Constant.value)) c.assign.ensures c.in-Constant.value (search rules) c.in-Constant.ensures

pub returns-in-Move : goal.returns-in-Move
returns-in-Move g c =
    by_move (records_in c.args.program.now) (state_of c.args.self.now) _ _ c.in-Move.x (to_z w32 (of_z w32 c.get-value.result)) c.assign-in-Move.ensures c.in-Move.y (search rules) c.in-Move.ensures

pub returns-in-Difference : goal.returns-in-Difference
returns-in-Difference g c =
    by_subtract (records_in c.args.program.now) (state_of c.args.self.now) _ _ c.in-Difference.x (to_z w32 (of_z w32 c.difference-value.result)) c.assign-in-Difference.ensures c.in-Difference.y c.in-Difference.z (search rules) c.in-Difference.ensures

pub returns-in-Goto : goal.returns-in-Goto
returns-in-Goto g c =
    let p = c.args.program.now in
    by_goto (records_in p) (formed p) (state_of c.args.self.now) c.requires _ c.in-Goto.label c.link.result _ c.in-Goto.ensures c.link.ensures c.enter.ensures

pub returns-in_ok-raise-in-Raise : goal.returns-in_ok-raise-in-Raise
returns-in_ok-raise-in-Raise g c =
    by_raise (records_in c.args.program.now) (state_of c.args.self.now) _ _ (Ok tt) c.raise.result (search rules) c.in-Raise.x (to_z w32 (of_z w32 c.get-value-in-Raise.result)) (search rules) c.in-Raise.ensures c.raise.ensures.raises

pub returns-in_err-raise-in-Raise : goal.returns-in_err-raise-in-Raise
returns-in_err-raise-in-Raise g c =
    by_raise (records_in c.args.program.now) (state_of c.args.self.now) _ _ c.from_residual-in_err-raise-in-Raise.result c.raise.result (search rules) c.in-Raise.x (to_z w32 (of_z w32 c.get-value-in-Raise.result)) (search rules) c.in-Raise.ensures c.raise.ensures.raises
