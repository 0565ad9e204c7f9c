-- What an event does to a bench, and how it is answered.
use Rattle.std.specs.Prelude.{ℕ, vec_items, Vec}
use Rattle.std.specs.declared.alloc.Global.{Global}
use Rattle.bench.specs.Responds.{Answer as Reply, Responds}
use Rattle.bench.specs.declared.request.Request.{Request}
use Rattle.bench.specs.declared.state.State.{State as Standing}
use Rattle.language.specs.Refusals.{Refused}
use Rattle.language.specs.WellFormed.{WellFormedBytes}
use Rattle.script.specs.declared.answer.Answer.{Answer}
use Rattle.script.specs.declared.answer.Answer.TheVariants.{Done, TableRefused}
use Rattle.session.specs.Answering.{reply}
use Rattle.session.specs.declared.event.Event.{Event}
use Rattle.session.specs.declared.event.Event.TheVariants.{Load, Jog}

pub data Does (s : Standing) : Event → Answer → Standing → Type 0 where
  -- the bytes of a well-formed table are accepted
  accepts : {v : Vec ℕ Global} → WellFormedBytes (vec_items v) → Does s (Load v) Done s
  -- other bytes are refused, by layer, cause and place
  refuses : {v : Vec ℕ Global} {l c p : ℕ} → Refused (vec_items v) l c p → Does s (Load v) (TableRefused l c p) s
  -- a request is answered as the bench's rules say
  jogs : {q : Request} {r : Reply} {t : Standing} → Responds s q.operation q.number r t → Does s (Jog q) (reply r) t
