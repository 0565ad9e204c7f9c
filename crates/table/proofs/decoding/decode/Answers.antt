use Rattle.std.proofs.Common.{◌≡◌, length, rules}
use Rattle.table.proofs.Rows.{decodes, inverse}
use Rattle.table.proofs.decoding.decode.Goals as goal

pub returns-clause-inverse : goal.returns-clause-inverse
returns-clause-inverse c =
    let n : length c.args.bytes ≡ 8 = search rules in
    inverse c.args.bytes c.read.result (decodes c.args.bytes c.read.result n c.read.ensures)
