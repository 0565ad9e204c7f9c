-- The fields of a line, put together.
use Rattle.std.proofs.Common.{◌≡◌, List, [], length, ℤ, sym, subst}
use Rattle.script.specs.Fields.{Takes}
use Rattle.script.specs.Lines.{Numbers, Says, bench, turn, load, jog, state}
use Rattle.script.specs.Names.{Names}
use Rattle.script.specs.Numbers.{Writes}
use Rattle.script.specs.Tables.{HexIs}
use Rattle.script.specs.Words.{Word}
use Rattle.script.specs.declared.keyword.Keyword.TheVariants.{Bench, Turn, Load, Jog, State}
use Rattle.script.specs.declared.kind.Kind.{Kind}
use Rattle.script.specs.declared.line.Line.TheVariants as line

pub state_said : (ws : List Word) → ws ≡ [] → Says State ws line.State
state_said ws e = subst (λ vs. Says State vs line.State) (sym e) state

pub turn_said : (ws rest : List Word) (z : ℤ) → Takes Writes ws z rest → rest ≡ [] → Says Turn ws (line.Turn z)
turn_said ws rest z t e = rw (t.cut, e) (turn t.says)

pub load_said : (ws rest : List Word) → Takes HexIs ws tt rest → rest ≡ [] → Says Load ws line.Load
load_said ws rest t e = rw (t.cut, e) (load t.says)

pub jog_said : (ws vs rest : List Word) (o y : ℤ) → Takes Writes ws o vs → Takes Writes vs y rest → rest ≡ [] → Says Jog ws (line.Jog (record { operation = o; number = y }))
jog_said ws vs rest o y t u e = rw (t.cut, u.cut, e) (jog t.says u.says)

pub bench_said : (ws vs rest : List Word) (k l : Kind) (cs : List ℤ) → Takes Names ws k vs → Takes Names vs l rest → Numbers rest cs × (length cs ≡ 8) → Says Bench ws (line.Bench (record { first = k; second = l; counts = cs }))
bench_said ws vs rest k l cs t u h = rw (t.cut, u.cut) (bench t.says u.says h.0 h.1)
