use Rattle.std.proofs.Common.{◌≡◌, w32, to_z, of_z, rules}
use Rattle.direct.proofs.Rules.{by_resumed}
use Rattle.direct.proofs.machine.Machine.give_back.Goals as goal
use Rattle.direct.specs.Machines.{state_of}

pub returns : goal.returns
returns c t b e =
    by_resumed t (state_of c.args.self.now) _ b c.args.x (to_z w32 (of_z w32 c.get-value.result)) (search rules) e c.resume.result c.ok_or.result (λ d is. search rules) (λ is. search rules) c.resume.ensures
