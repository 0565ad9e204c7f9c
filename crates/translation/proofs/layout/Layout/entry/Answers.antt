use Rattle.std.proofs.Common.{ℕ, ◌+◌, ◌<◌, List, length, get_or, sym, ap, subst, add-one, arith}
use Rattle.language.proofs.Props.{known_formed}
use Rattle.language.specs.WellFormed.{WellFormed}
use Rattle.translation.proofs.Starting.{entry_below, entry_is}
use Rattle.translation.specs.Addressing.{EntryAddress}
use Rattle.translation.specs.Layouts.{laid_out}
use Rattle.translation.proofs.layout.Layout.entry.Goals as goal
use Rattle.translation.proofs.layout.Layout.entry.Goals.{After-main}

-- the table is well formed
formed : (c : After-main) → WellFormed (laid_out c.args.self.now)
formed c = known_formed (laid_out c.args.self.now) c.args.self.now.table.now.formed

low : (c : After-main) → c.main.result.place + 1 < 256
low c =
    let t = laid_out c.args.self.now in
    let m = c.main.result in
    omega (arith, add-one m.place, entry_below t (formed c) m.place m.parameters c.main.ensures.locals c.main.ensures.here, (formed c).legible.few)

pub bounds-as_slice-main : goal.bounds-as_slice-main
bounds-as_slice-main c =
    let t = laid_out c.args.self.now in
    let m = c.main.result in
    let w = (goal.at.bounds-as_slice-main c).After-main in
    let below = entry_below t (formed w) m.place m.parameters c.main.ensures.locals c.main.ensures.here in
    omega (arith, add-one m.place, below, ap length c.as_slice.ensures, c.args.self.now.addressed.long)

pub returns : goal.returns
returns c =
    let t = laid_out c.args.self.now in
    let m = c.main.result in
    let w = (goal.at.returns c).After-main in
    let is = entry_is t (formed w) m.place m.parameters c.main.ensures.locals c.main.ensures.here c.args.self.now.addresses c.args.self.now.addressed in
    subst (λ (of : List ℕ). EntryAddress t (get_or of (m.place + 1) 0)) (sym c.as_slice.ensures) is
