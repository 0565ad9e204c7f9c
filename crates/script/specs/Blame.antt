-- What is told of a line that says nothing: what was expected at the first word that does not fit.
use Rattle.std.specs.Prelude.{List, [], ◌∷◌, replicate, ℤ, ◌≢◌, slice_index}
use Rattle.script.specs.Lines.{number_sign}
use Rattle.script.specs.Names.{keyword_name, Names}
use Rattle.script.specs.Numbers.{Writes}
use Rattle.script.specs.Tables.{Hex}
use Rattle.script.specs.Words.{Word}
use Rattle.script.specs.declared.expected.Expected.{Expected}
use Rattle.script.specs.declared.expected.Expected.TheVariants as expected
use Rattle.script.specs.declared.keyword.Keyword.{Keyword}
use Rattle.script.specs.declared.keyword.Keyword.TheVariants.{Bench, Turn, Load, Jog, State}
use Rattle.script.specs.declared.kind.Kind as kind

-- what is expected after a keyword, word by word
abbrev pub fields : Keyword → List Expected
fields Bench = expected.Kind ∷ expected.Kind ∷ replicate 8 expected.Counts
fields Turn = expected.Number ∷ []
fields Load = expected.Table ∷ []
fields Jog = expected.Number ∷ expected.Number ∷ []
fields State = []

-- the word w is what is expected; only kinds, numbers and tables are expected of a single word
abbrev pub Meets : Expected → Word → Type 0
Meets expected.Keyword w = ⊥
Meets expected.Kind w = (k : kind.Kind) × Names w k
Meets expected.Number w = (z : ℤ) × Writes w z
Meets expected.Counts w = (z : ℤ) × Writes w z
Meets expected.Table w = Hex w
Meets expected.End w = ⊥
Meets expected.Bench w = ⊥
Meets expected.Event w = ⊥

-- of words that are to be what is expected one by one, the first that is not
pub data Blames : List Expected → List Word → Expected → Type 0 where
  -- it is missing
  missing : {e : Expected} {es : List Expected} → Blames (e ∷ es) [] e
  -- it is something else
  wrong : {e : Expected} {es : List Expected} {w : Word} {ws : List Word} → (Meets e w → ⊥) → Blames (e ∷ es) (w ∷ ws) e
  -- it is one too many
  extra : {w : Word} {ws : List Word} → Blames [] (w ∷ ws) expected.End
  -- it comes later
  later : {e d : Expected} {es : List Expected} {w : Word} {ws : List Word} → Meets e w → Blames es ws d → Blames (e ∷ es) (w ∷ ws) d

-- what is told of the words of a line that says nothing
pub data Unread : List Word → Expected → Type 0 where
  -- the line is no comment, and its first word is no keyword
  unknown : {w : Word} {ws : List Word} → (slice_index w 0 ≢ number_sign) → ((k : Keyword) → w ≢ keyword_name k) → Unread (w ∷ ws) expected.Keyword
  -- the words after the keyword are not what it wants
  misfit : (k : Keyword) {ws : List Word} {e : Expected} → Blames (fields k) ws e → Unread (keyword_name k ∷ ws) e
