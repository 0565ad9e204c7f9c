-- The words by which a script names things.
use Rattle.std.specs.Prelude.{◌≡◌, codes}
use Rattle.script.specs.Words.{Word}
use Rattle.script.specs.declared.keyword.Keyword.{Keyword}
use Rattle.script.specs.declared.keyword.Keyword.TheVariants.{Bench, Turn, Load, Jog, State}
use Rattle.script.specs.declared.kind.Kind.{Kind}
use Rattle.script.specs.declared.kind.Kind.TheVariants.{Site, Log}

abbrev pub keyword_name : Keyword → Word
keyword_name Bench = codes "bench"
keyword_name Turn = codes "turn"
keyword_name Load = codes "load"
keyword_name Jog = codes "jog"
keyword_name State = codes "state"

abbrev pub kind_name : Kind → Word
kind_name Site = codes "site"
kind_name Log = codes "log"

-- the word w names the kind k
abbrev pub Names : Word → Kind → Type 0
Names w k = w ≡ kind_name k
