-- Which frame takes what is raised.
use Rattle.std.proofs.Common.{◌≡◌, ◌<◌, List, [], ◌∷◌, length, Some, None, Option, refl, subst, arith}
use Rattle.language.specs.Reachable.{Resumes, Resumed}
use Rattle.language.specs.Runs.{Frame, Catcher, or_catcher, catcher}
use Rattle.language.specs.declared.handler.Handler.{Handler}
use Rattle.language.specs.declared.record.Record.{Record}
use Rattle.language.proofs.Lists.{clash}

module _ (t : List Record) where
  -- the frame that takes it has the handler, the frames below it stand, and they are fewer
  pub record Catches (fs : List Frame) (c : Catcher) : Type 0 where
    pub resumes : Resumes t c.frame.routine (Some c.handler) c.frame.next
    pub below : Resumed t c.below
    pub fewer : length c.below < length fs

  pub catches : (fs : List Frame) (c : Catcher) → Resumed t fs → catcher fs ≡ Some c → Catches fs c
  catches [] c k e = clash cc
  catches (f ∷ fs) c k e = by f.handler refl e (catches fs c k.1)
    where
      by : (h : Option Handler) → f.handler ≡ h → or_catcher h f fs (catcher fs) ≡ Some c → (catcher fs ≡ Some c → Catches fs c) → Catches (f ∷ fs) c
      by (Some h) eh d ih =
          let here : Catcher = record { frame = f; handler = h; below = fs } in
          let same : here ≡ c = cc in
          subst (Catches (f ∷ fs)) same (record { resumes = subst (λ g. Resumes t f.routine g f.next) eh k.0; below = k.1; fewer = omega arith })
      by None eh d ih = let r = ih d in record { resumes = r.resumes; below = r.below; fewer = omega (arith, r.fewer) }
