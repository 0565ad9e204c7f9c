use Rattle.std.proofs.Common.{sym, subst}
use Rattle.language.specs.WellFormed.{WellFormed}
use Rattle.language.proofs.Props.{known_formed}
use Rattle.table.specs.Checked.{records_of}
use Rattle.table.proofs.table.Table.records.Goals as goal

pub returns-clause-formed : goal.returns-clause-formed
returns-clause-formed c =
    let m = c.args.self.now in
    subst WellFormed (sym c.as_slice.ensures) (known_formed (records_of m) m.formed)
