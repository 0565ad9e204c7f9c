-- What two benches answer through a section.
use Rattle.std.specs.Prelude.{◌≡◌, List}
use Rattle.session.specs.Performs.{Performs}
use Rattle.session.specs.Plays.{first_answers, second_answers}
use Rattle.session.specs.declared.exchange.Exchange.{Exchange}
use Rattle.session.specs.declared.section.Section.{Section}

-- each bench answers as the rules say, and both alike
pub record BothPerform (x : Section) (es : List Exchange) : Type 0 where
  pub first : Performs x (first_answers es)
  pub second : Performs x (second_answers es)
  pub alike : first_answers es ≡ second_answers es
