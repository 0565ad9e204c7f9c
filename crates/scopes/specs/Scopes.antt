-- What a record stands under, after what the records before it say.
use Rattle.std.specs.Prelude.{◌+◌, None}
use Rattle.language.specs.declared.record.Record.{Record}
use Rattle.language.specs.declared.record.Record.TheVariants.{Routine, Block, Body}
use Rattle.scopes.specs.declared.scope.Scope.{Scope}

abbrev pub nowhere : Scope
nowhere = record { routine = 0; variables = 0; handler = None }

abbrev pub scope_at : Scope → Record → Scope
scope_at s (Routine g p q) = record { routine = g; variables = p + q; handler = None }
scope_at s (Block l h) = record { routine = s.routine; variables = s.variables; handler = h }
scope_at s (Body i) = s
