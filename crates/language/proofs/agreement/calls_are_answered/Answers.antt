use Rattle.language.proofs.ContinuationCalls.{one_answer as continuation_answer}
use Rattle.language.proofs.DirectCalls.{one_answer as direct_answer}
use Rattle.language.proofs.agreement.calls_are_answered.Goals as goal

pub returns : goal.returns
returns c = record { direct = direct_answer; continuation = continuation_answer }
