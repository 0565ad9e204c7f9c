use Rattle.language.proofs.Props.{known_formed}
use Rattle.few.specs.Held.{held}
use Rattle.table.proofs.Mains.{main_there, main_found}
use Rattle.table.proofs.table.Table.main.Goals as goal
use Rattle.table.specs.Checked.{records_of}

pub unwrap-entry-requires : goal.unwrap-entry-requires
unwrap-entry-requires c =
    let m = c.args.self.now in
    main_there (records_of m) (known_formed (records_of m) m.formed) (held m.index.routines) m.indexed.routine_list c.routine.result c.routine.ensures

pub returns : goal.returns
returns c =
    let m = c.args.self.now in
    main_found (records_of m) (known_formed (records_of m) m.formed) (held m.index.routines) m.indexed.routine_list c.routine.result c.unwrap-entry.result c.routine.ensures c.unwrap-entry.ensures
