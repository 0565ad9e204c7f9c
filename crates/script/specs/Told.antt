-- What a closure that reads a word told of it.
use Rattle.std.specs.Prelude.{List, [], ◌∷◌, Some, None, Option}
use Rattle.std.specs.Borrow.{Bor}
use Rattle.std.specs.Fn.{FnOnceReturnsAt}
use denote.Param.Members.{Once}
use Rattle.script.specs.Words.{Word}

-- the closure f reads x in the word w
pub record Told {F X : Type 0} (g : Once F (Bor Word × Unit {0}) (Option X)) (f : F) (w : Word) (x : X) : Type 0 where
  pub said : FnOnceReturnsAt g f w (Some x)

-- there is no first word, or f reads nothing in it
pub data Misses {F X : Type 0} (g : Once F (Bor Word × Unit {0}) (Option X)) (f : F) : List Word → Type 0 where
  wordless : Misses g f []
  silent : {w : Word} {ws : List Word} → FnOnceReturnsAt g f w None → Misses g f (w ∷ ws)
