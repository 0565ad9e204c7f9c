use Rattle.std.proofs.Common.{◌≡◌, ◌≤◌, length, take, sym, subst, arith, length-take-le, rules}
use Rattle.direct.proofs.Programs.{formed, low}
use Rattle.direct.proofs.Rules.{by_called}
use Rattle.direct.proofs.machine.Machine.call_routine.Goals as goal
use Rattle.direct.proofs.machine.Machine.call_routine.Goals.{After-from}
use Rattle.direct.specs.Machines.{state_of, Called}
use Rattle.direct.specs.Programs.{records_in}
use Rattle.language.proofs.Lists.{all_nth}
use Rattle.language.specs.Bytes.{InRange}

-- as many arguments as there are places for
few : (c : After-from) → c.from.result ≤ length c.args.arguments
few c =
    let p = c.args.program.now in
    let most = (all_nth InRange (records_in p) c.args.self.now.at _ (formed p).legible.ranged c.requires.here).0 in
    let long : length c.args.arguments ≡ 4 = search rules in
    omega (arith, c.from.ensures)

pub slice_bounds-arguments-end : goal.slice_bounds-arguments-end
slice_bounds-arguments-end c = few c

pub slice_bounds-passed-end : goal.slice_bounds-passed-end
slice_bounds-passed-end c = sym (length-take-le c.from.result c.args.arguments (few (goal.at.slice_bounds-passed-end c).After-from))

pub call-requires : goal.call-requires
call-requires c =
    let w = (goal.at.call-requires c).After-from in
    let long : length c.args.arguments ≡ 4 = search rules in
    record {
      few = omega (arith, length-take-le c.from.result c.args.arguments (few w), few w);
      placed = low c.args.program.now (state_of c.args.self.now) c.requires.reached;
    }

pub returns : goal.returns
returns c b =
    let p = c.args.program.now in
    let s = state_of c.args.self.now in
    let called = subst (λ n. Called s c.args.x c.args.routine c.link-at.result.goes.at (take n c.args.arguments) c.call.result (state_of c.call.new.self)) c.from.ensures c.call.ensures in
    by_called (records_in p) (formed p) s c.requires.reached b c.args.x c.args.routine c.args.count c.args.arguments c.link-at.result c.call.result c.map_err.result _ c.requires.here c.link-at.ensures
    (λ d e. search rules) (λ f e. search rules) called
