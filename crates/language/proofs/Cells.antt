-- The cells that frames become: which one a frame has, and what is left below it.
use Rattle.std.proofs.Common.{◌≡◌, ℕ, zero, suc, ◌<◌, List, [], ◌∷◌, ◌++◌, length, take, Some, None, Option, refl, ap, ◌∙◌, subst, arith}
use Rattle.std.specs.List.{slice_get}
use Rattle.std.proofs.lemmas.List.{take_at, take-append-le, length_push}
use Rattle.language.specs.Matching.{or_catching, catching, cell, cells}
use Rattle.language.specs.Runs.{Frame, Catcher, or_catcher, catcher}
use Rattle.language.specs.declared.handler.Handler.{Handler}
use Rattle.language.specs.declared.record.Record.{Record}
use Rattle.language.proofs.Lists.{clash}

nth_push : {X : Type 0} (xs : List X) (y : X) (n : ℕ) → length xs ≡ n → slice_get (xs ++ y ∷ []) n ≡ Some y
nth_push [] y zero e = refl
nth_push [] y (suc n) e = absurd (omega arith)
nth_push (x ∷ xs) y zero e = absurd (omega arith)
nth_push (x ∷ xs) y (suc n) e = nth_push xs y n (omega arith)

nth_front : {X : Type 0} (xs ys : List X) (i : ℕ) → i < length xs → slice_get (xs ++ ys) i ≡ slice_get xs i
nth_front [] ys i l = absurd (omega arith)
nth_front (x ∷ xs) ys zero l = refl
nth_front (x ∷ xs) ys (suc i) l = nth_front xs ys i (omega arith)

module _ (t : List Record) where
  pub length-cells : (fs : List Frame) → length (cells t fs) ≡ length fs
  length-cells [] = refl
  length-cells (f ∷ fs) = let e = length-cells fs in let d = length_push (cells t fs) (cell t f fs) in omega arith

  pub nth_cell : (f : Frame) (fs : List Frame) → slice_get (cells t (f ∷ fs)) (length fs) ≡ Some (cell t f fs)
  nth_cell f fs = nth_push (cells t fs) (cell t f fs) (length fs) (length-cells fs)

  pub take_cells : (f : Frame) (fs : List Frame) → take (length fs) (cells t (f ∷ fs)) ≡ cells t fs
  take_cells f fs = take_at (cells t fs) (cell t f fs ∷ []) (length fs) (length-cells fs)

  -- the cell of the frame that catches, and the cells below it
  pub record Catching (fs : List Frame) (c : Catcher) : Type 0 where
    pub handler : catching fs ≡ Some (length c.below)
    pub there : slice_get (cells t fs) (length c.below) ≡ Some (cell t c.frame c.below)
    pub below : take (length c.below) (cells t fs) ≡ cells t c.below
    pub by : c.frame.handler ≡ Some c.handler
    pub fewer : length c.below < length fs

  pub catching_cell : (fs : List Frame) (c : Catcher) → catcher fs ≡ Some c → Catching fs c
  catching_cell [] c e = clash cc
  catching_cell (f ∷ fs) c e = by f.handler refl e (catching_cell fs c)
    where
      by : (h : Option Handler) → f.handler ≡ h → or_catcher h f fs (catcher fs) ≡ Some c → (catcher fs ≡ Some c → Catching fs c) → Catching (f ∷ fs) c
      by (Some h) eh d rest =
          let here : Catcher = record { frame = f; handler = h; below = fs } in
          let same : here ≡ c = cc in
          subst (Catching (f ∷ fs)) same (record { handler = ap (λ k. or_catching k (length fs) (catching fs)) eh; there = nth_cell f fs; below = take_cells f fs; by = eh; fewer = omega arith })
      by None eh d rest =
          let r = rest d in
          let l : length c.below < length (cells t fs) = omega (arith, length-cells fs, r.fewer) in
          record {
            handler = ap (λ k. or_catching k (length fs) (catching fs)) eh ∙ r.handler;
            there = nth_front (cells t fs) (cell t f fs ∷ []) (length c.below) l ∙ r.there;
            below = take-append-le (length c.below) (cells t fs) (cell t f fs ∷ []) (omega arith) ∙ r.below;
            by = r.by;
            fewer = omega (arith, r.fewer);
          }

-- where no frame catches, no cell does
pub catching_none : (fs : List Frame) → catcher fs ≡ None → catching fs ≡ None
catching_none [] e = refl
catching_none (f ∷ fs) e = by f.handler refl e (catching_none fs)
  where
    by : (h : Option Handler) → f.handler ≡ h → or_catcher h f fs (catcher fs) ≡ None → (catcher fs ≡ None → catching fs ≡ None) → catching (f ∷ fs) ≡ None
    by (Some h) eh d rest = clash cc
    by None eh d rest = ap (λ k. or_catching k (length fs) (catching fs)) eh ∙ rest d
