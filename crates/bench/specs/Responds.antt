-- The request rules: what a bench in state s answers to a request, an operation and a number, and
-- the state it is left in. One constructor is one rule. A fault leaves the state as it was.
use Rattle.std.specs.Prelude.{◌≡◌, ℕ, suc, ℤ, pos, Some, None, Ok, Err, Result, slice_index, slice_index_or}
use Rattle.bench.specs.Bounds.{site_count, feeder_count, full_turn}
use Rattle.bench.specs.Ranges.{Site, Angle, Feeder, Outside}
use Rattle.bench.specs.Sight.{sight}
use Rattle.bench.specs.States.{at_site, at_angle, picked, placed, dropped}
use Rattle.bench.specs.declared.fault.Fault.{Fault}
use Rattle.bench.specs.declared.fault.Fault.TheVariants.{NoOperation, NoSite, NoAngle, NoFeeder, NozzleFull, FeederEmpty, NozzleEmpty, SiteTaken}
use Rattle.bench.specs.declared.part.Part.{Part}
use Rattle.bench.specs.declared.state.State.{State}

-- a number, or a fault
abbrev pub Answer : Type 0
Answer = Result ℤ Fault

pub data Responds (s : State) : ℤ → ℤ → Answer → State → Type 0 where
  -- operation 0 moves the head over a site, and answers 0
  moves : (p : Site) → Responds s (pos 0) (pos p.value) (Ok (pos 0)) (at_site s p)
  -- it asks for a site
  moves_nowhere : {y : ℤ} → Outside site_count y → Responds s (pos 0) y (Err NoSite) s
  -- operation 1 turns the nozzle to an angle, and answers 0
  turns : (a : Angle) → Responds s (pos 1) (pos a.value) (Ok (pos 0)) (at_angle s a)
  -- it asks for an angle
  turns_nowhere : {y : ℤ} → Outside full_turn y → Responds s (pos 1) y (Err NoAngle) s
  -- operation 2 picks a part from a feeder that has n + 1, into an empty nozzle, and answers n
  picks : (f : Feeder) {n : ℕ} → s.nozzle ≡ None → slice_index s.counts f.value ≡ suc n → Responds s (pos 2) (pos f.value) (Ok (pos n)) (picked s f n)
  -- it asks first for a feeder, then for an empty nozzle, then for a part in the feeder
  picks_nowhere : {y : ℤ} → Outside feeder_count y → Responds s (pos 2) y (Err NoFeeder) s
  picks_twice : (f : Feeder) {g : Feeder} → s.nozzle ≡ Some g → Responds s (pos 2) (pos f.value) (Err NozzleFull) s
  picks_none : (f : Feeder) → s.nozzle ≡ None → slice_index s.counts f.value ≡ 0 → Responds s (pos 2) (pos f.value) (Err FeederEmpty) s
  -- operation 3 places the held part on the current site, at the current angle, and answers the site
  places : {f : Feeder} {y : ℤ} → s.nozzle ≡ Some f → slice_index_or s.sites s.site.value None ≡ None → Responds s (pos 3) y (Ok (pos s.site.value)) (placed s f)
  -- it asks first for a held part, then for a free site
  places_none : {y : ℤ} → s.nozzle ≡ None → Responds s (pos 3) y (Err NozzleEmpty) s
  places_twice : {f : Feeder} {q : Part} {y : ℤ} → s.nozzle ≡ Some f → slice_index_or s.sites s.site.value None ≡ Some q → Responds s (pos 3) y (Err SiteTaken) s
  -- operation 4 looks at a site, and answers what is there
  looks : (p : Site) → Responds s (pos 4) (pos p.value) (Ok (sight (slice_index_or s.sites p.value None))) s
  -- it asks for a site
  looks_nowhere : {y : ℤ} → Outside site_count y → Responds s (pos 4) y (Err NoSite) s
  -- operation 5 drops the held part into the bin, and answers 0
  drops : {f : Feeder} {y : ℤ} → s.nozzle ≡ Some f → Responds s (pos 5) y (Ok (pos 0)) (dropped s)
  -- it asks for a held part
  drops_none : {y : ℤ} → s.nozzle ≡ None → Responds s (pos 5) y (Err NozzleEmpty) s
  -- there is no other operation
  unknown : {op y : ℤ} → Outside 6 op → Responds s op y (Err NoOperation) s
