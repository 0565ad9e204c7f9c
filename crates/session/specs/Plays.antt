-- Events given to two benches, and their answers in slots.
use Rattle.std.specs.Prelude.{◌≡◌, List, map, length, take, drop}
use Rattle.bench.specs.Histories.{History, Agreement}
use Rattle.bench.specs.declared.state.State.{State}
use Rattle.script.specs.declared.answer.Answer.{Answer}
use Rattle.session.specs.Events.{Does}
use Rattle.session.specs.declared.event.Event.{Event}
use Rattle.session.specs.declared.exchange.Exchange.{Exchange}

-- what the first, and what the second bench answered, by these exchanges
abbrev pub first_answers : List Exchange → List Answer
first_answers xs = map (λ x. x.first) xs

abbrev pub second_answers : List Exchange → List Answer
second_answers xs = map (λ x. x.second) xs

-- of these events, those that are given: as many as there are slots
abbrev pub given : List Event → List Exchange → List Event
given es slots = take (length slots) es

-- of these slots, those that are filled: as many as there are events
abbrev pub filled : List Event → List Exchange → List Exchange
filled es slots = take (length es) slots

-- two benches, in the states s and s', were given events; the slots, which held the old exchanges, hold
-- the new ones; and the benches are in the states t and t'
pub record BothPlayed (es : List Event) (old new : List Exchange) (s s' t t' : State) : Type 0 where
  -- each bench answers and ends as the rules say
  pub first : History Does s (given es old) (first_answers (filled es new)) t
  pub second : History Does s' (given es old) (second_answers (filled es new)) t'
  -- benches that start equal answer alike, and are equal after each event
  pub agree : s ≡ s' → Agreement Does s s' (given es old) (first_answers (filled es new)) (second_answers (filled es new)) t t'
  -- slots for which there was no event are as they were
  pub rest : drop (length es) new ≡ drop (length es) old
