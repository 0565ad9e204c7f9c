-- The text of each answer.
use Rattle.std.specs.Prelude.{◌≡◌, ℕ, suc, List, [], ◌∷◌, ◌++◌, Some, None, Option, codes, decimal, ◌≢◌}
use Rattle.bench.specs.Ranges.{Feeder}
use Rattle.bench.specs.Sight.{Spot}
use Rattle.bench.specs.Numbers.{fault_number, set_up_number, shift_number}
use Rattle.bench.specs.declared.state.State as bench
use Rattle.std.specs.List.{flat_map}
use Rattle.std.specs.Fmt.{signed_decimal}
use Rattle.table.specs.Faults.{numbers_text}
use Rattle.script.specs.declared.answer.Answer.{Answer}
use Rattle.script.specs.declared.answer.Answer.TheVariants.{Done, SetUpRefused, ShiftRefused, TableRefused, Number, Fault, State}

-- a dash where the nozzle is empty
abbrev pub nozzle_text_of : Option Feeder → List ℕ
nozzle_text_of None = codes "-"
nozzle_text_of (Some f) = decimal f.value

abbrev pub spaced : ℕ → List ℕ
spaced n = codes " " ++ decimal n

-- a site that is taken: site, feeder and angle
abbrev pub spot_text_of : ℕ → Spot → List ℕ
spot_text_of i None = []
spot_text_of i (Some p) = codes " " ++ (decimal i ++ (codes ":" ++ (decimal p.feeder.value ++ (codes ":" ++ decimal p.angle.value))))

-- those that are taken of the sites from i on
abbrev pub taken_text_of : ℕ → List Spot → List ℕ
taken_text_of i [] = []
taken_text_of i (p ∷ ps) = spot_text_of i p ++ taken_text_of (suc i) ps

abbrev pub or_none : List ℕ → List ℕ
or_none [] = codes " none"
or_none (b ∷ bs) = b ∷ bs

abbrev pub sites_text_of : List Spot → List ℕ
sites_text_of ps = or_none (taken_text_of 0 ps)

abbrev pub state_text_of : bench.State → List ℕ
state_text_of s =
    codes "state " ++ (decimal s.site.value ++ (codes " " ++ (decimal s.angle.value ++ (codes " " ++ (nozzle_text_of s.nozzle ++ (codes " counts" ++ (flat_map spaced s.counts ++ (codes " bin " ++ (decimal s.bin ++ (codes " sites" ++ sites_text_of s.sites))))))))))

abbrev pub answer_text : Answer → List ℕ
answer_text Done = codes "ok"
answer_text (SetUpRefused r) = codes "refused " ++ signed_decimal (set_up_number r)
answer_text (ShiftRefused r) = codes "refused " ++ signed_decimal (shift_number r)
answer_text (TableRefused layer cause place) = codes "refused " ++ numbers_text layer cause place
answer_text (Number n) = codes "number " ++ signed_decimal n
answer_text (Fault f) = codes "fault " ++ signed_decimal (fault_number f)
answer_text (State s) = state_text_of s

-- the line for two answers, whose texts are a and b
pub record Paired (a b line : List ℕ) : Type 0 where
  pub same : a ≡ b → line ≡ a
  pub differ : (a ≢ b) → line ≡ codes "DIFFER " ++ (a ++ (codes " | " ++ b))
