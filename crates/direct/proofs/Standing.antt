-- The frames that stand, the newest first, where the newest is the last of a list.
use Rattle.std.proofs.Common.{◌≡◌, [], ◌∷◌, ◌++◌, map, ap, ◌∙◌}
use Rattle.std.proofs.lemmas.List.{reverse-append}
use Rattle.direct.specs.Views.{frame_of, standing}
use Rattle.direct.specs.declared.frame.Frame.{Frame}
use Rattle.few.specs.Held.{held}
use Rattle.few.specs.declared.few.Few.{Few}
use Rattle.std.specs.Prelude.{reverse}

-- one more is the newest
pub newest : (xs : Few Frame 32) (ys : Few Frame 32) (f : Frame) → held ys ≡ held xs ++ f ∷ [] → standing ys ≡ frame_of f ∷ standing xs
newest xs ys f e = ap (λ l. map frame_of (reverse l)) e ∙ ap (map frame_of) (reverse-append (held xs) (f ∷ []))

-- none stands where nothing is held
pub none_stand : (xs : Few Frame 32) → held xs ≡ [] → standing xs ≡ []
none_stand xs e = ap (λ l. map frame_of (reverse l)) e
