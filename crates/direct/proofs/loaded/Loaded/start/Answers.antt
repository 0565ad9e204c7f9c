use Rattle.std.proofs.Common.{◌<◌, sym, refl, ◌∙◌, rules}
use Rattle.direct.proofs.Calling.{by_start, start_reached, by_miscount, few_arguments, main_below}
use Rattle.direct.proofs.loaded.Loaded.start.Goals as goal
use Rattle.direct.proofs.loaded.Loaded.start.Goals.{After-main-main}
use Rattle.direct.specs.Machines.{state_of}
use Rattle.direct.specs.Stands.{stand_with}
use Rattle.std.specs.Prelude.{Some}

pub returns-then-arguments-from : goal.returns-then-arguments-from
returns-then-arguments-from c b =
    by_miscount c.args.self.now.program c.main-main.result c.args.arguments.now c.main-main.ensures (stand_with (Some c.args.self.now) b) refl (λ e. absurd (c.if-arguments-from.true (e ∙ sym c.from.ensures)))

pub begin-requires : goal.begin-requires
begin-requires c = few_arguments c.args.self.now.program c.main-main.result c.args.arguments.now c.main-main.ensures (c.if-arguments-from.false ∙ c.from.ensures)

pub invariant_of-self : goal.invariant_of-self
invariant_of-self c = record { kept = ∣ start_reached c.args.self.now.program c.main-main.result c.args.arguments.now c.main-main.ensures (state_of c.begin.result) c.begin.ensures ∣₁ }

pub returns : goal.returns
returns c b = by_start c.args.self.now.program c.main-main.result c.args.arguments.now c.main-main.ensures (state_of c.begin.result) c.begin.ensures (stand_with (Some c.args.self.now) b) refl (c.if-arguments-from.false ∙ c.from.ensures)

-- the place of routine 0's heading
small : (c : After-main-main) → c.main-main.result.place < 256
small c = main_below c.args.self.now.program c.main-main.result c.args.arguments.now c.main-main.ensures

pub overflow_cast-main : goal.overflow_cast-main
overflow_cast-main c = let l = small (goal.at.overflow_cast-main c).After-main-main in search rules

pub overflow_add-main : goal.overflow_add-main
overflow_add-main c = let l = small (goal.at.overflow_add-main c).After-main-main in search rules
