use Rattle.language.proofs.TwoHistories.{histories_agree_lem, histories_exist}
use Rattle.language.proofs.agreement.histories_agree.Goals as goal

pub returns : goal.returns
returns c = record { agree = histories_agree_lem; exist = histories_exist }
