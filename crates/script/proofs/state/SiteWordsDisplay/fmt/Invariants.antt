use Rattle.std.proofs.Common.{take}
use Rattle.std.specs.Fmt.{HasWritten, IsPlainFormatter}
use Rattle.script.specs.Answers.{taken_text_of}
use Rattle.script.proofs.state.SiteWordsDisplay.fmt.Given as goal

abbrev pub invariant-loop-site : goal.invariant-loop-site
invariant-loop-site g l =
    IsPlainFormatter l.initial.f → HasWritten g.W.Write.write_str_gives l.initial.f (taken_text_of 0 (take l.site-counter l.spot-items)) l.f
