use Rattle.std.proofs.Common.{rules}
use Rattle.direct.proofs.Standing.{newest}
use Rattle.direct.proofs.machine.Machine.resume.Goals as goal
use Rattle.direct.specs.Views.{frame_of, standing}

pub returns : goal.returns
returns c = (frame_of c.in_ok-frame.frame, standing c.pop.new.self, newest c.pop.new.self c.args.self.now.frames c.in_ok-frame.frame c.in_ok-frame.ensures, search rules)
