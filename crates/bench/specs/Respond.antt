-- The request rules once more, as a function, by which contracts state an answer as an equation.
-- A theorem ties it to the rules: see Laws.
use Rattle.std.specs.Prelude.{ℕ, zero, suc, ℤ, pos, Some, None, Ok, Err, Option, Result, slice_index, slice_index_or}
use Rattle.bench.specs.Actions.{action_of}
use Rattle.bench.specs.Ranges.{Feeder}
use Rattle.bench.specs.Responds.{Answer}
use Rattle.bench.specs.Sight.{Spot, sight}
use Rattle.bench.specs.States.{at_site, at_angle, picked, placed, dropped}
use Rattle.bench.specs.declared.action.Action.{Action}
use Rattle.bench.specs.declared.action.Action.TheVariants.{Move, Turn, Pick, Place, Look, Discard}
use Rattle.bench.specs.declared.fault.Fault.{Fault}
use Rattle.bench.specs.declared.fault.Fault.TheVariants.{NozzleFull, FeederEmpty, NozzleEmpty, SiteTaken}
use Rattle.bench.specs.declared.state.State.{State}

-- what is answered, and the state left
abbrev pub Outcome : Type 0
Outcome = Answer × State

abbrev pub pick_into : State → Feeder → Option Feeder → ℕ → Outcome
pick_into s f (Some g) n = (Err NozzleFull, s)
pick_into s f None zero = (Err FeederEmpty, s)
pick_into s f None (suc n) = (Ok (pos n), picked s f n)

abbrev pub place_on : State → Option Feeder → Spot → Outcome
place_on s None p = (Err NozzleEmpty, s)
place_on s (Some f) (Some q) = (Err SiteTaken, s)
place_on s (Some f) None = (Ok (pos s.site.value), placed s f)

abbrev pub drop_from : State → Option Feeder → Outcome
drop_from s None = (Err NozzleEmpty, s)
drop_from s (Some f) = (Ok (pos 0), dropped s)

abbrev pub perform : State → Action → Outcome
perform s (Move p) = (Ok (pos 0), at_site s p)
perform s (Turn a) = (Ok (pos 0), at_angle s a)
perform s (Pick f) = pick_into s f s.nozzle (slice_index s.counts f.value)
perform s Place = place_on s s.nozzle (slice_index_or s.sites s.site.value None)
perform s (Look p) = (Ok (sight (slice_index_or s.sites p.value None)), s)
perform s Discard = drop_from s s.nozzle

abbrev pub attempt : State → Result Action Fault → Outcome
attempt s (Ok act) = perform s act
attempt s (Err f) = (Err f, s)

abbrev pub respond : State → ℤ → ℤ → Outcome
respond s op y = attempt s (action_of op y)
