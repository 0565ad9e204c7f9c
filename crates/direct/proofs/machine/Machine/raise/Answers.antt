use Rattle.std.proofs.Common.{◌≡◌, [], Some, None, refl, subst, suc, ◌-◌, ◌<◌, length, arith, rules}
use Rattle.direct.proofs.Programs.{formed}
use Rattle.direct.proofs.Rules.{at_below, by_own, by_frame, by_nobody, resumes_below}
use Rattle.direct.proofs.machine.Machine.raise.Goals as goal
use Rattle.direct.proofs.machine.Machine.raise.Goals.{In_ok-frame}
use Rattle.direct.specs.Frames.{Caught}
use Rattle.direct.specs.Machines.{state_of}
use Rattle.direct.specs.Programs.{records_in}
use Rattle.direct.specs.Views.{frame_of, standing}
use Rattle.language.specs.Runs.{Catcher, catcher}

pub link-requires : goal.link-requires
link-requires c = let p = c.args.program.now in at_below (records_in p) (formed p) (state_of c.args.self.now) c.requires

pub returns-in-Some-clause-raises : goal.returns-in-Some-clause-raises
returns-in-Some-clause-raises c =
    let p = c.args.program.now in
    by_own (records_in p) (formed p) (state_of c.args.self.now) c.requires c.args.value c.in-Some.handler c.link.result c.set.new.self.values _ (search rules) c.link.ensures (search rules) c.enter.ensures

pub returns-in_err-frame-clause-raises : goal.returns-in_err-frame-clause-raises
returns-in_err-frame-clause-raises c =
    let none : c.catch.result ≡ None = search rules in
    let d = subst (λ r. Caught (state_of c.args.self.now).frames r (standing c.catch.new.frames)) none c.catch.ensures in
    by_nobody (records_in c.args.program.now) (state_of c.args.self.now) _ c.args.value c.args.value _ (search rules) d.0 (search rules) refl

pub returns-in_err-frame-clause-left : goal.returns-in_err-frame-clause-left
returns-in_err-frame-clause-left c =
    let none : c.catch.result ≡ None = search rules in
    let d = subst (λ r. Caught (state_of c.args.self.now).frames r (standing c.catch.new.frames)) none c.catch.ensures in
    let left : standing c.catch.new.frames ≡ [] = d.1 in
    search rules

-- the frame that is caught, and the call that it goes on after
catching : In_ok-frame → Catcher
catching c = record { frame = frame_of c.in_ok-frame.frame; handler = c.in_ok-frame.handler; below = standing c.catch.new.frames }

found : (c : In_ok-frame) → catcher (state_of c.args.self.now).frames ≡ Some (catching c)
unfolding catching
found c =
    let some : c.catch.result ≡ Some (c.in_ok-frame.frame, c.in_ok-frame.handler) = search rules in
    subst (λ r. Caught (state_of c.args.self.now).frames r (standing c.catch.new.frames)) some c.catch.ensures

after_call : (c : In_ok-frame) → (c.in_ok-frame.frame.next - 1 < length (records_in c.args.program.now)) × (c.in_ok-frame.frame.next ≡ suc (c.in_ok-frame.frame.next - 1))
unfolding catching
after_call c =
    let p = c.args.program.now in
    let d = resumes_below (records_in p) (formed p) (state_of c.args.self.now) c.requires (catching c) (found c) in
    let low = d.0 in let is = d.1 in
    (omega arith, omega arith)

pub overflow_sub-frame : goal.overflow_sub-frame
overflow_sub-frame c = omega (arith, (after_call (goal.at.overflow_sub-frame c).In_ok-frame).1)

pub link-requires-2 : goal.link-requires-2
link-requires-2 c = (after_call (goal.at.link-requires-2 c).In_ok-frame).0

pub returns-clause-raises : goal.returns-clause-raises
unfolding catching
returns-clause-raises c =
    let p = c.args.program.now in
    let w = (goal.at.returns-clause-raises c).In_ok-frame in
    by_frame (records_in p) (formed p) (state_of c.args.self.now) c.requires c.args.value (catching w) (c.in_ok-frame.frame.next - 1) c.link-2.result c.set-2.new.self.values _
    (search rules) (found w) (after_call w).1 c.link-2.ensures (search rules) c.enter-2.ensures
