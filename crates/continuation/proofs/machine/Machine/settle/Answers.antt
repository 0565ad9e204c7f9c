use Rattle.std.proofs.Common.{Result, subst, arith}
use Rattle.continuation.proofs.Beating.{Settling, midway_on, none_made, one_more, closes, ends, few}
use Rattle.continuation.proofs.Programs.{formed}
use Rattle.continuation.proofs.Rules.{low}
use Rattle.continuation.proofs.machine.Machine.settle.Given.{Over}
use Rattle.continuation.proofs.machine.Machine.settle.Goals as goal
use Rattle.continuation.proofs.machine.Machine.settle.Goals.{In_default}
use Rattle.continuation.specs.Machines.{configuration}
use Rattle.continuation.specs.Programs.{records_in}
use Rattle.language.specs.Configurations.{Configuration}
use Rattle.language.specs.Progress.{progressed}
use Rattle.language.specs.Runs.{Run, running, ended}
use Rattle.language.specs.declared.ending.Ending.{Ending}

-- what is made, where the run is at z
abbrev Made : (g : Over) → In_default g → Run Configuration → Type 0
Made g c z =
    let p = c.args.program.now in
    Settling (records_in p) (formed p) (progressed c.args.opened (configuration c.args.self.now)) (g.B.Bench.state c.args.bench.now) c.loop-made.made z (g.B.Bench.state c.loop-made.bench)

-- the run has not ended
still : (g : Over) (c : In_default g) → Made g c (running (configuration c.loop-made.self))
still g c = subst (λ (q : Result (Unit {0}) Ending). Made g c (progressed q (configuration c.loop-made.self))) c.in_default.is c.loop-made.invariant

pub loop-made-init : goal.loop-made-init
loop-made-init g c = let p = c.args.program.now in none_made (records_in p) (formed p) _ _ c.requires

pub returns-in-Err : goal.returns-in-Err
returns-in-Err g c =
    let p = c.args.program.now in
    let r = progressed c.args.opened (configuration c.args.self.now) in
    let b = g.B.Bench.state c.args.bench.now in
    let d = g.B.Bench.state c.loop-made.bench in
    let e = c.in-Err.ending in
    let made = subst (λ (q : Result (Unit {0}) Ending). Settling (records_in p) (formed p) r b c.loop-made.made (progressed q (configuration c.loop-made.self)) d) c.in-Err.is c.loop-made.invariant in
    record { rest = ends (records_in p) (formed p) r b c.loop-made.made e d made; few = few (records_in p) (formed p) r b c.loop-made.made (ended e) d made }

pub word-word-requires : goal.word-word-requires
word-word-requires g c =
    let p = c.args.program.now in
    let s = configuration c.loop-made.self in
    low (records_in p) (formed p) s _ (midway_on (records_in p) (formed p) _ s _ (still g c).midway)

pub returns-then-word : goal.returns-then-word
returns-then-word g c =
    let p = c.args.program.now in
    let s = configuration c.loop-made.self in
    let made = still g (goal.at.returns-then-word g c).In_default in
    record {
      rest = closes (records_in p) (formed p) _ _ c.loop-made.made s _ made c.word-word.result c.word-word.ensures c.if-word.true;
      few = few (records_in p) (formed p) _ _ c.loop-made.made (running s) _ made;
    }

pub step-progress-requires : goal.step-progress-requires
step-progress-requires g c =
    let p = c.args.program.now in
    let made = still g (goal.at.step-progress-requires g c).In_default in
    record { here = c.word-word.ensures; going = midway_on (records_in p) (formed p) _ (configuration c.loop-made.self) _ made.midway }

pub loop-made-preserved : goal.loop-made-preserved
loop-made-preserved g c =
    let p = c.args.program.now in
    let made = still g (goal.at.loop-made-preserved g c).In_default in
    one_more (records_in p) (formed p) _ _ c.loop-made.made (configuration c.loop-made.self) _ made c.word-word.result c.word-word.ensures _ _ c.if-word.false c.step-progress.ensures

pub unreachable-requires : goal.unreachable-requires
unreachable-requires g c =
    let p = c.args.program.now in
    let most = few (records_in p) (formed p) _ _ c.loop-made.made _ _ c.loop-made.invariant in
    omega (arith, most, c.loop-made-test.false)
