use Rattle.std.proofs.Common.{◌≡◌, ◌∙◌, rules}
use Rattle.std.specs.Option.{option_map}
use Rattle.few.specs.Held.{held}
use Rattle.table.specs.declared.entries.RoutineEntry.{RoutineEntry}
use Rattle.table.specs.Checked.{records_of}
use Rattle.table.proofs.Links.{routine_named}
use Rattle.table.proofs.table.Table.routine.Goals as goal

pub returns : goal.returns
returns c =
    let m = c.args.self.now in
    let mapped : c.map.result ≡ option_map (λ (e : RoutineEntry). e.place) c.routine.result = search rules in
    mapped ∙ routine_named c.args.identifier (records_of m) (held m.index.routines) c.routine.result c.routine.ensures m.indexed.routine_list
