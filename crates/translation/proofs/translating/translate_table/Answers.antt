use Rattle.std.proofs.Common.{refl, arith}
use Rattle.language.proofs.Props.{known_formed}
use Rattle.table.specs.Checked.{records_of}
use Rattle.translation.specs.Layouts.{laid_out}
use Rattle.translation.proofs.Answering.{too_short}
use Rattle.translation.proofs.translating.translate_table.Goals as goal

pub returns-then-out-bytes : goal.returns-then-out-bytes
returns-then-out-bytes c =
    too_short (records_of c.args.table.now) (laid_out c.of-layout.result) c.of-layout.ensures (known_formed (records_of c.args.table.now) c.args.table.now.formed) c.args.out.now _ (omega (arith, c.if-out-bytes.true, c.bytes.ensures)) refl
