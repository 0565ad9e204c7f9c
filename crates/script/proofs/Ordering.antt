-- Which line may come at a position, and where it leads.
use Rattle.std.proofs.Common.{◌≡◌, ℤ}
use Rattle.bench.specs.declared.request.Request.{Request}
use Rattle.script.specs.Order.{Open, Next, begins, turns, loads, jogs, ends}
use Rattle.script.specs.declared.line.Line.{Line}
use Rattle.script.specs.declared.line.Line.TheVariants.{Bench, Turn, Load, Jog, State}
use Rattle.script.specs.declared.pairing.Pairing.{Pairing}
use Rattle.script.specs.declared.position.Position.{Position}
use Rattle.script.specs.declared.position.Position.TheVariants.{Opened, Within, Closed}

module _ (p : Position) (l : Line) where
  pub begun : (b : Pairing) → l ≡ Bench b → Next p l Opened
  begun b e = rw e begins

  pub turned : (z : ℤ) → l ≡ Turn z → p ≡ Opened → Next p l Within
  turned z e o = rw (e, o) turns

  pub loaded : l ≡ Load → Open p → Next p l Within
  loaded e o = rw e (loads o)

  pub jogged : (r : Request) → l ≡ Jog r → Open p → Next p l Within
  jogged r e o = rw e (jogs o)

  pub ended : l ≡ State → Open p → Next p l Closed
  ended e o = rw e (ends o)

pub opened : (p : Position) → p ≡ Opened → Open p
opened p e = rw e tt

pub within : (p : Position) → p ≡ Within → Open p
within p e = rw e tt
