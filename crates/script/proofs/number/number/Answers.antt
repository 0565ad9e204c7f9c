use Rattle.std.proofs.Common.{◌≡◌, None, Ok, Err, Result, MatchResult, sym, ◌∙◌}
use Rattle.std.specs.Result.{result_ok}
use Rattle.script.proofs.Numerals.{writes_text}
use Rattle.script.proofs.number.number.Goals as goal

no_text : {X E : Type 0} (P : X → Type 0) (Q R : E → Type 0) (r : Result X E) → MatchResult r P (λ e. Q e × R e) → result_ok r ≡ None → (e : E) × Q e
no_text P Q R (Ok x) h e = cc
no_text P Q R (Err d) h e = (d, h.0)

pub returns-in_err-text : goal.returns-in_err-text
returns-in_err-text c = rw c.from_residual.ensures (λ z h. (no_text _ _ _ c.from_utf8.result c.from_utf8.ensures.cases (sym c.ok.ensures.value ∙ c.in_err-text.was)).1 (writes_text _ z h))
