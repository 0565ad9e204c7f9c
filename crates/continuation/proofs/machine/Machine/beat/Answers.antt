use Rattle.std.proofs.Common.{arith}
use Rattle.continuation.proofs.Beating.{follows_on, midway_first, whole}
use Rattle.continuation.proofs.Programs.{formed}
use Rattle.continuation.proofs.Rules.{low}
use Rattle.continuation.proofs.machine.Machine.beat.Goals as goal
use Rattle.continuation.specs.Machines.{configuration}
use Rattle.continuation.specs.Programs.{records_in}

pub word-word-requires : goal.word-word-requires
word-word-requires g c =
    let p = c.args.program.now in
    let s = configuration c.args.self.now in
    low (records_in p) (formed p) s (g.B.Bench.state c.args.bench.now) (follows_on (records_in p) (formed p) s _ c.requires)

pub step-opened-requires : goal.step-opened-requires
step-opened-requires g c =
    let p = c.args.program.now in
    record { here = c.word-word.ensures; going = follows_on (records_in p) (formed p) (configuration c.args.self.now) _ c.requires }

pub settle-progress-requires : goal.settle-progress-requires
settle-progress-requires g c = let p = c.args.program.now in midway_first (records_in p) (formed p) (configuration c.args.self.now) _ _ _ c.requires c.step-opened.ensures

pub returns : goal.returns
returns g c =
    let p = c.args.program.now in
    record {
      beat = whole (records_in p) (formed p) (configuration c.args.self.now) _ _ _ c.word-word.result _ _ c.settle-progress.result.1 c.requires c.word-word.ensures c.step-opened.ensures c.settle-progress.ensures.rest;
      few = omega (arith, c.settle-progress.ensures.few);
    }
