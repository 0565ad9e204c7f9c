use Rattle.language.proofs.Near.{refused_near}
use Rattle.language.proofs.theorems.refusals_are_near.Goals as goal

pub returns : goal.returns
returns c = refused_near
