-- The entries by which a table is looked up: those of its headings, in their order.
use Rattle.std.specs.Prelude.{ℕ, suc, Bool, ◌&&◌, List, [], ◌∷◌, Some, None, Option, ◌==◌, slice_index_or}
use Rattle.std.specs.Option.{option_map}
use Rattle.language.specs.declared.record.Record.{Record}
use Rattle.language.specs.declared.record.Record.TheVariants.{Routine, Block, Body}
use Rattle.language.specs.Lines.{Line, line, lines, place}
use Rattle.table.specs.declared.entries.RoutineEntry.{RoutineEntry}
use Rattle.table.specs.declared.entries.BlockEntry.{BlockEntry}

-- what is picked from the elements of a list, the first of which has the place i
abbrev pub kept : {E : Type 0} → Option E → List E → List E
kept None es = es
kept (Some e) es = e ∷ es

abbrev pub picked : {X E : Type 0} → (ℕ → X → Option E) → ℕ → List X → List E
picked pick i [] = []
picked pick i (x ∷ xs) = kept (pick i x) (picked pick (suc i) xs)

-- the entry that a record at place i gives
abbrev pub routine_entry : ℕ → Record → Option RoutineEntry
routine_entry i (Routine g p q) = Some (record { identifier = g; parameters = p; place = i })
routine_entry i (Block l h) = None
routine_entry i (Body b) = None

abbrev pub block_entry : ℕ → Line → Option BlockEntry
block_entry i (line r n h (Routine g p q)) = None
block_entry i (line r n h (Block l k)) = Some (record { key = record { routine = r; label = l }; place = i })
block_entry i (line r n h (Body b)) = None

abbrev pub routine_entries : List Record → List RoutineEntry
routine_entries t = picked routine_entry 0 t

abbrev pub block_entries : List Record → List BlockEntry
block_entries t = picked block_entry 0 (lines t)

-- the entry is that of routine g; of the block l of routine r
abbrev pub of_routine : ℕ → RoutineEntry → Bool
of_routine g e = g == e.identifier

abbrev pub of_block : ℕ → ℕ → BlockEntry → Bool
of_block r l e = r == e.key.routine && l == e.key.label

-- the entry that a place stands for
abbrev pub entry_at : {E : Type 0} → E → List E → Option ℕ → Option E
entry_at none es None = None
entry_at none es (Some k) = Some (slice_index_or es k none)

abbrev pub no_routine_entry : RoutineEntry
no_routine_entry = record { identifier = 0; parameters = 0; place = 0 }

abbrev pub no_block_entry : BlockEntry
no_block_entry = record { key = record { routine = 0; label = 0 }; place = 0 }

-- the first entry of a routine, of a block
abbrev pub routine_found : List RoutineEntry → ℕ → Option RoutineEntry
routine_found rs g = entry_at no_routine_entry rs (place (of_routine g) rs)

abbrev pub block_found : List BlockEntry → ℕ → ℕ → Option BlockEntry
block_found bs r l = entry_at no_block_entry bs (place (of_block r l) bs)

-- the place of its heading
abbrev pub routine_at_of : List RoutineEntry → ℕ → Option ℕ
routine_at_of rs g = option_map (λ (e : RoutineEntry). e.place) (routine_found rs g)

abbrev pub block_at : List BlockEntry → ℕ → ℕ → Option ℕ
block_at bs r l = option_map (λ (e : BlockEntry). e.place) (block_found bs r l)
