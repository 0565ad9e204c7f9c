use Rattle.language.proofs.Refusals.{refused_once}
use Rattle.language.proofs.theorems.one_refusal_fits.Goals as goal

pub returns : goal.returns
returns c = refused_once
