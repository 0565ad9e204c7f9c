-- What is claimed of the calls of any kind of stand.
use Rattle.std.specs.Prelude.{ℕ, ◌⊎◌}
use Rattle.bench.specs.Laws.{ExactlyOne}
use Rattle.language.specs.Calls.{Event, load, start, go, jog, Answer, Stand}
use Rattle.language.specs.Refusals.{Refused}
use Rattle.language.specs.WellFormed.{WellFormedBytes}

-- of the bytes that are to be loaded it is settled whether they are a well-formed table or refused
abbrev pub Settled : Event → Type 0
Settled (load bs) = WellFormedBytes bs ⊎ ((layer : ℕ) × (cause : ℕ) × (place : ℕ) × Refused bs layer cause place)
Settled (start vs) = Unit {0}
Settled (go z) = Unit {0}
Settled (jog op y) = Unit {0}

-- on a stand that calls lead to, an event has exactly one answer, and leaves one stand
abbrev pub OneAnswer : {S : Type 0} → (Stand S → Type 0) → (Stand S → Event → Answer → Stand S → Type 0) → Type 0
OneAnswer {S} Reached Does = (x : Stand S) → Reached x → (e : Event) → Settled e → ExactlyOne (λ (o : Answer × Stand S). Does x e o.0 o.1)
