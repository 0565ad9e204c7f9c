-- What a line of a script says, by its words.
use Rattle.std.specs.Prelude.{◌≡◌, ℕ, List, [], ◌∷◌, length, ℤ, Some, None, Option}
use Rattle.script.specs.Names.{keyword_name, Names}
use Rattle.script.specs.Numbers.{Writes}
use Rattle.script.specs.Tables.{Hex}
use Rattle.script.specs.Words.{Word}
use Rattle.script.specs.declared.keyword.Keyword.{Keyword}
use Rattle.script.specs.declared.keyword.Keyword.TheVariants.{Bench, Turn, Load, Jog, State}
use Rattle.script.specs.declared.kind.Kind.{Kind}
use Rattle.script.specs.declared.line.Line.{Line}
use Rattle.script.specs.declared.line.Line.TheVariants as line

-- each word writes the number at its place
abbrev pub Numbers : List Word → List ℤ → Type 0
Numbers [] [] = Unit {0}
Numbers [] (z ∷ zs) = ⊥
Numbers (w ∷ ws) [] = ⊥
Numbers (w ∷ ws) (z ∷ zs) = Writes w z × Numbers ws zs

-- what the words after a keyword say with it
pub data Says : Keyword → List Word → Line → Type 0 where
  -- bench KIND KIND c0 … c7
  bench : {v w : Word} {ws : List Word} {k l : Kind} {cs : List ℤ} → Names v k → Names w l → Numbers ws cs → length cs ≡ 8 → Says Bench (v ∷ w ∷ ws) (line.Bench (record { first = k; second = l; counts = cs }))
  -- turn z
  turn : {w : Word} {z : ℤ} → Writes w z → Says Turn (w ∷ []) (line.Turn z)
  -- load HEX
  load : {w : Word} → Hex w → Says Load (w ∷ []) line.Load
  -- jog o y
  jog : {v w : Word} {o y : ℤ} → Writes v o → Writes w y → Says Jog (v ∷ w ∷ []) (line.Jog (record { operation = o; number = y }))
  -- state
  state : Says State [] line.State

-- the byte with which a comment begins
abbrev pub number_sign : ℕ
number_sign = 35

-- what the words of a line say: nothing, or what the line asks for
pub data Reads : List Word → Option Line → Type 0 where
  -- blanks alone
  empty : Reads [] None
  -- a comment
  comment : {w : Word} {ws : List Word} → Reads ((number_sign ∷ w) ∷ ws) None
  -- a keyword and its words
  asks : {k : Keyword} {ws : List Word} {x : Line} → Says k ws x → Reads (keyword_name k ∷ ws) (Some x)
