-- What a request asks for, by its operation and its number; and the request that asks for an action.
use Rattle.std.specs.Prelude.{ℕ, zero, suc, ℤ, pos, negsuc, Some, None, Ok, Err, Option, Result}
use Rattle.bench.specs.Ranges.{site_at, angle_at, feeder_at}
use Rattle.bench.specs.declared.action.Action.{Action}
use Rattle.bench.specs.declared.action.Action.TheVariants.{Move, Turn, Pick, Place, Look, Discard}
use Rattle.bench.specs.declared.fault.Fault.{Fault}
use Rattle.bench.specs.declared.fault.Fault.TheVariants.{NoOperation, NoSite, NoAngle, NoFeeder}
use Rattle.bench.specs.declared.request.Request.{Request}

-- an action on what the number stands for, or the fault that it stands for nothing
abbrev pub on : {X : Type 0} → (X → Action) → Fault → Option X → Result Action Fault
on act f None = Err f
on act f (Some x) = Ok (act x)

abbrev pub numbered : ℕ → ℤ → Result Action Fault
numbered zero y = on Move NoSite (site_at y)
numbered (suc zero) y = on Turn NoAngle (angle_at y)
numbered (suc (suc zero)) y = on Pick NoFeeder (feeder_at y)
numbered (suc (suc (suc zero))) y = Ok Place
numbered (suc (suc (suc (suc zero)))) y = on Look NoSite (site_at y)
numbered (suc (suc (suc (suc (suc zero))))) y = Ok Discard
numbered (suc (suc (suc (suc (suc (suc n)))))) y = Err NoOperation

abbrev pub action_of : ℤ → ℤ → Result Action Fault
action_of (pos n) y = numbered n y
action_of (negsuc n) y = Err NoOperation

-- an action that needs no number is asked for with the number 0
abbrev pub request_of : Action → Request
request_of (Move p) = record { operation = pos 0; number = pos p.value }
request_of (Turn a) = record { operation = pos 1; number = pos a.value }
request_of (Pick f) = record { operation = pos 2; number = pos f.value }
request_of Place = record { operation = pos 3; number = pos 0 }
request_of (Look p) = record { operation = pos 4; number = pos p.value }
request_of Discard = record { operation = pos 5; number = pos 0 }
