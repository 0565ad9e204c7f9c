use Rattle.std.proofs.Common.{rules}
use Rattle.script.specs.Tables.{HexIs}
use Rattle.script.proofs.Told.{field_by}
use Rattle.script.proofs.field.table.Goals as goal

pub returns : goal.returns
returns c = field_by _ _ HexIs _ _ c.field.result c.field.ensures (λ w x t. search rules) (λ w t x p. search rules)
