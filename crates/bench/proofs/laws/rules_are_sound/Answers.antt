use Rattle.bench.proofs.Rules.{one_response, respond_responds, fault_keeps, asked_for}
use Rattle.bench.proofs.Validity.{stays_valid}
use Rattle.bench.proofs.laws.rules_are_sound.Goals as goal

pub returns : goal.returns
returns c = record { one = one_response; function = respond_responds; valid = stays_valid; fault = fault_keeps; asked = asked_for }
