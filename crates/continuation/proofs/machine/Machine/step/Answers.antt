use Rattle.std.proofs.Common.{Ok, refl, w32, to_z, of_z, rules}
use mathlib.Core.Logic.{∥∥₁_map}
use Rattle.continuation.proofs.Programs.{formed}
use Rattle.continuation.proofs.Rules.{fetched, few, few_passed, by_set, by_assign, by_subtract, by_save, by_enter, by_jump, by_test}
use Rattle.continuation.proofs.machine.Machine.step.Goals as goal
use Rattle.continuation.specs.Machines.{configuration}
use Rattle.continuation.specs.Programs.{records_in}

pub assign-requires : goal.assign-requires
assign-requires g c = let p = c.args.program.now in few (records_in p) (formed p) (configuration c.args.self.now) _ c.requires.going

pub assign-requires-in-Assign : goal.assign-requires-in-Assign
assign-requires-in-Assign g c = let p = c.args.program.now in few (records_in p) (formed p) (configuration c.args.self.now) _ c.requires.going

pub assign-requires-in-Subtract : goal.assign-requires-in-Subtract
assign-requires-in-Subtract g c = let p = c.args.program.now in few (records_in p) (formed p) (configuration c.args.self.now) _ c.requires.going

pub save-requires : goal.save-requires
save-requires g c = let p = c.args.program.now in few (records_in p) (formed p) (configuration c.args.self.now) _ c.requires.going

pub test-requires : goal.test-requires
test-requires g c = let p = c.args.program.now in few (records_in p) (formed p) (configuration c.args.self.now) _ c.requires.going

pub enter-requires : goal.enter-requires
enter-requires g c =
    let p = c.args.program.now in
    few_passed (records_in p) (formed p) (configuration c.args.self.now) c.args.word c.in-Enter.count c.in-Enter.address c.in-Enter.arguments c.requires.here c.in-Enter.is

pub ask-requires : goal.ask-requires
ask-requires g c = let p = c.args.program.now in record { here = fetched (records_in p) (formed p) (configuration c.args.self.now) c.args.word _ c.requires.here c.in-Ask.is; going = c.requires.going }

pub resume-requires : goal.resume-requires
resume-requires g c =
    let p = c.args.program.now in
    record { here = fetched (records_in p) (formed p) (configuration c.args.self.now) c.args.word _ c.requires.here c.in-Resume.is; going = ∥∥₁_map c.requires.going (λ w. (_, w)) }

pub throw-requires : goal.throw-requires
throw-requires g c =
    let p = c.args.program.now in
    record { here = fetched (records_in p) (formed p) (configuration c.args.self.now) c.args.word _ c.requires.here c.in-Throw.is; going = ∥∥₁_map c.requires.going (λ w. (_, w)) }

pub returns-in-Set : goal.returns-in-Set
returns-in-Set g c =
    let p = c.args.program.now in
    let s = configuration c.args.self.now in
    by_set (records_in p) (formed p) s _ _ c.in-Set.x c.in-Set.value (to_z w32 (of_z w32 c.in-Set.value)) (fetched (records_in p) (formed p) s c.args.word _ c.requires.here c.in-Set.is) (search rules) c.assign.ensures

pub returns-in-Assign : goal.returns-in-Assign
returns-in-Assign g c =
    let p = c.args.program.now in
    let s = configuration c.args.self.now in
    by_assign (records_in p) (formed p) s _ _ c.in-Assign.x c.in-Assign.y (to_z w32 (of_z w32 c.get-value.result)) (fetched (records_in p) (formed p) s c.args.word _ c.requires.here c.in-Assign.is) (search rules) c.assign-in-Assign.ensures

pub returns-in-Subtract : goal.returns-in-Subtract
returns-in-Subtract g c =
    let p = c.args.program.now in
    let s = configuration c.args.self.now in
    by_subtract (records_in p) (formed p) s _ _ c.in-Subtract.x c.in-Subtract.y c.in-Subtract.z (to_z w32 (of_z w32 c.difference-value.result)) (fetched (records_in p) (formed p) s c.args.word _ c.requires.here c.in-Subtract.is) (search rules) c.assign-in-Subtract.ensures

pub returns-in_ok-map_err-in-Save : goal.returns-in_ok-map_err-in-Save
returns-in_ok-map_err-in-Save g c =
    let p = c.args.program.now in
    let s = configuration c.args.self.now in
    by_save (records_in p) (formed p) s _ _ c.in-Save.x c.in-Save.catch c.save.result (Ok tt) (fetched (records_in p) (formed p) s c.args.word _ c.requires.here c.in-Save.is) (λ d e. search rules) (λ f e. search rules) c.save.ensures

pub returns-in_err-map_err-in-Save : goal.returns-in_err-map_err-in-Save
returns-in_err-map_err-in-Save g c =
    let p = c.args.program.now in
    let s = configuration c.args.self.now in
    by_save (records_in p) (formed p) s _ _ c.in-Save.x c.in-Save.catch c.save.result c.from_residual.result (fetched (records_in p) (formed p) s c.args.word _ c.requires.here c.in-Save.is) (λ d e. search rules) (λ f e. search rules) c.save.ensures

pub returns-in-Enter : goal.returns-in-Enter
returns-in-Enter g c =
    let p = c.args.program.now in
    let s = configuration c.args.self.now in
    by_enter (records_in p) (formed p) s _ _ c.in-Enter.count c.in-Enter.address c.in-Enter.arguments (fetched (records_in p) (formed p) s c.args.word _ c.requires.here c.in-Enter.is) c.enter.ensures

pub returns-in-Jump : goal.returns-in-Jump
returns-in-Jump g c =
    let p = c.args.program.now in
    let s = configuration c.args.self.now in
    by_jump (records_in p) (formed p) s _ _ c.in-Jump.address (fetched (records_in p) (formed p) s c.args.word _ c.requires.here c.in-Jump.is) refl

pub returns-in-Test : goal.returns-in-Test
returns-in-Test g c =
    let p = c.args.program.now in
    let s = configuration c.args.self.now in
    by_test (records_in p) (formed p) s _ _ c.in-Test.x c.in-Test.y (fetched (records_in p) (formed p) s c.args.word _ c.requires.here c.in-Test.is) c.test.ensures
