use Rattle.std.proofs.Common.{refl, rules}
use Rattle.std.proofs.lemmas.Slice.Eq.{text_from_reads}
use Rattle.script.proofs.Hexes.{dash, decides_hex}
use Rattle.script.proofs.hex.is_hex.Goals as goal

pub returns-in-45 : goal.returns-in-45
returns-in-45 c = (λ t. dash _ (text_from_reads _ _ (search rules) (search rules)), λ x. refl)

pub returns-in_default : goal.returns-in_default
returns-in_default c = decides_hex _ _ (search rules) c.is_pairs.ensures
