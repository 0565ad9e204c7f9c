-- What catching does to the frames that stand.
use Rattle.std.specs.Prelude.{◌≡◌, List, [], Some, None, Option}
use Rattle.direct.specs.Views.{frame_of}
use Rattle.direct.specs.declared.frame.Frame.{Frame}
use Rattle.language.specs.Runs.{Frame as Saved, catcher}
use Rattle.language.specs.declared.handler.Handler.{Handler}

-- the frame that takes what is raised, with its handler, and the frames below; or none, and no frame
abbrev pub Caught : List Saved → Option (Frame × Handler) → List Saved → Type 0
Caught fs None gs = (catcher fs ≡ None) × (gs ≡ [])
Caught fs (Some p) gs = catcher fs ≡ Some (record { frame = frame_of p.0; handler = p.1; below = gs })
