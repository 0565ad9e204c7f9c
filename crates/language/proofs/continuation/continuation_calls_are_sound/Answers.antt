use Rattle.language.proofs.ContinuationCalls.{never_stuck, some_go, one_call}
use Rattle.language.proofs.continuation.continuation_calls_are_sound.Goals as goal

pub returns : goal.returns
returns c = record { stuck = never_stuck; go = some_go; one = one_call }
