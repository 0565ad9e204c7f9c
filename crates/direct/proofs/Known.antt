-- What is known to hold, with nothing said of why, can be had where there is only one way for it to hold.
use Rattle.std.proofs.Common.{◌≡◌, ℕ, zero, suc, List, [], ◌∷◌, get_or, Some, None, Option, refl, ap, arith}
use mathlib.Core.Logic.{∥∥₁_elim, ∥∥₁_map}
use native.Mathlib.Bridge.{le_prop}
use native.Mathlib.Nat.{ℕ_set}
use Rattle.direct.specs.Links.{Leads, EntersAt, LinkedBy, HandledBy, no_link, Linked}
use Rattle.direct.specs.declared.link.Link.{Link}
use Rattle.direct.specs.declared.link.Target.{Target}
use Rattle.language.proofs.Lists.{clash}
use Rattle.language.specs.Lines.{Line, line, lines}
use Rattle.language.specs.Reachable.{Stands, Resumes, Resumed, Reachable}
use Rattle.language.specs.Runs.{Frame, State}
use Rattle.language.specs.declared.handler.Handler.{Handler}
use Rattle.language.specs.declared.instruction.Instruction.TheVariants.{Constant, Move, Difference, Request, Call, Goto, Return, Branch, Raise}
use Rattle.language.specs.declared.record.Record.{Record}
use Rattle.language.specs.declared.record.Record.TheVariants.{Routine, Block, Body}
use Rattle.std.specs.List.{slice_get}

pub no_prop : IsProp ⊥
no_prop a b = absurd a

never : {X : Type 0} → ∥ ⊥ ∥₁ → X
never k = absurd (∥∥₁_elim k no_prop (λ e. e))

-- an equation of numbers, and of handlers
known_number : {m n : ℕ} → ∥ m ≡ n ∥₁ → m ≡ n
known_number {m} {n} k = ∥∥₁_elim k (ℕ_set m n) (λ e. e)

same_handler : (h g : Handler) → h.label ≡ g.label → h.catch ≡ g.catch → h ≡ g
same_handler h g a b i = record { label = a i; catch = b i }

known_handler : (h g : Option Handler) → ∥ h ≡ g ∥₁ → h ≡ g
known_handler None None k = refl
known_handler None (Some g) k = never (∥∥₁_map k (λ e. clash cc))
known_handler (Some h) None k = never (∥∥₁_map k (λ e. clash cc))
known_handler (Some h) (Some g) k =
    let one : (h ≡ g) → h.label ≡ g.label = λ e. ap (λ (v : Handler). v.label) e in
    let two : (h ≡ g) → h.catch ≡ g.catch = λ e. ap (λ (v : Handler). v.catch) e in
    ap (λ (v : Handler). Some v) (same_handler h g (known_number (∥∥₁_map k (λ e. one cc))) (known_number (∥∥₁_map k (λ e. two cc))))

module _ (t : List Record) where
  known_leads : (r l : ℕ) (k : Target) → ∥ Leads t r l k ∥₁ → Leads t r l k
  known_leads r l k w = record {
    at = λ j h d. known_number (∥∥₁_map w (λ v. v.at j h d));
    under = λ j h d. known_handler k.handler h (∥∥₁_map w (λ v. v.under j h d));
  }

  known_enters : (g : ℕ) (k : Target) → ∥ EntersAt t g k ∥₁ → EntersAt t g k
  known_enters g k w = record { at = λ j p q d. known_number (∥∥₁_map w (λ v. v.at j p q d)) }

  known_names : (r : ℕ) (x : Record) (k : Link) → ∥ LinkedBy t r x k ∥₁ → LinkedBy t r x k
  known_names r (Routine g p q) k w = tt
  known_names r (Block l h) k w = tt
  known_names r (Body (Constant x i)) k w = tt
  known_names r (Body (Move x y)) k w = tt
  known_names r (Body (Difference x y z)) k w = tt
  known_names r (Body (Request x op y)) k w = tt
  known_names r (Body (Call x g n ys)) k w = known_enters g k.goes w
  known_names r (Body (Goto l)) k w = known_leads r l k.goes w
  known_names r (Body (Return x)) k w = tt
  known_names r (Body (Branch x y l m)) k w = (known_leads r l k.goes (∥∥₁_map w (λ v. v.0)), known_leads r m k.otherwise (∥∥₁_map w (λ v. v.1)))
  known_names r (Body (Raise x)) k w = tt

  known_handles : (r : ℕ) (h : Option Handler) (k : Target) → ∥ HandledBy t r h k ∥₁ → HandledBy t r h k
  known_handles r None k w = tt
  known_handles r (Some h) k w = known_leads r h.label k w

  pub known_linked : (ks : List Link) → ∥ Linked t ks ∥₁ → Linked t ks
  known_linked ks w = record {
    long = known_number (∥∥₁_map w (λ v. v.long));
    names = λ i r n h x e. known_names r x (get_or ks i (no_link t)) (∥∥₁_map w (λ v. v.names i r n h x e));
    handlers = λ i r n h x e. known_handles r h (get_or ks i (no_link t)).handler (∥∥₁_map w (λ v. v.handlers i r n h x e));
  }

  -- the line at a place is under r and h
  known_stands : (r : ℕ) (h : Option Handler) (i : ℕ) → ∥ Stands t r h i ∥₁ → Stands t r h i
  known_stands r h i w = by (slice_get (lines t) i) refl
    where
      by : (o : Option Line) → slice_get (lines t) i ≡ o → Stands t r h i
      by None e = never (∥∥₁_map w (λ v. let z = v.is in clash cc))
      by (Some (line g n k (Routine a b c))) e = never (∥∥₁_map w (λ v. let z = v.is in clash cc))
      by (Some (line g n k (Block l m))) e = never (∥∥₁_map w (λ v. let z = v.is in clash cc))
      by (Some (line g n k (Body y))) e =
          let er : g ≡ r = known_number (∥∥₁_map w (λ v. let z = v.is in cc)) in
          let eh : k ≡ h = known_handler k h (∥∥₁_map w (λ v. let z = v.is in cc)) in
          record { size = n; instruction = y; is = cc }

  -- the line before a place is a call under r and h
  known_resumes : (r : ℕ) (h : Option Handler) (i : ℕ) → ∥ Resumes t r h i ∥₁ → Resumes t r h i
  known_resumes r h zero w = never (∥∥₁_map w (λ v. let z = v.after in absurd (omega arith)))
  known_resumes r h (suc i) w = by (slice_get (lines t) i) refl
    where
      -- the call stands at i
      there : (o : Option Line) → slice_get (lines t) i ≡ o → (v : Resumes t r h (suc i)) → o ≡ Some (line r v.size h (Body (Call v.result v.routine v.count v.arguments)))
      there o e v = let z = v.after in let s : v.call ≡ i = omega arith in let q = v.is in cc

      by : (o : Option Line) → slice_get (lines t) i ≡ o → Resumes t r h (suc i)
      by None e = never (∥∥₁_map w (λ v. let z = there None e v in clash cc))
      by (Some (line g n k (Routine a b c))) e = never (∥∥₁_map w (λ v. let z = there _ e v in clash cc))
      by (Some (line g n k (Block l m))) e = never (∥∥₁_map w (λ v. let z = there _ e v in clash cc))
      by (Some (line g n k (Body (Constant x y)))) e = never (∥∥₁_map w (λ v. let z = there _ e v in clash cc))
      by (Some (line g n k (Body (Move x y)))) e = never (∥∥₁_map w (λ v. let z = there _ e v in clash cc))
      by (Some (line g n k (Body (Difference x y z)))) e = never (∥∥₁_map w (λ v. let q = there _ e v in clash cc))
      by (Some (line g n k (Body (Request x op y)))) e = never (∥∥₁_map w (λ v. let z = there _ e v in clash cc))
      by (Some (line g n k (Body (Goto l)))) e = never (∥∥₁_map w (λ v. let z = there _ e v in clash cc))
      by (Some (line g n k (Body (Return x)))) e = never (∥∥₁_map w (λ v. let z = there _ e v in clash cc))
      by (Some (line g n k (Body (Branch x y l m)))) e = never (∥∥₁_map w (λ v. let z = there _ e v in clash cc))
      by (Some (line g n k (Body (Raise x)))) e = never (∥∥₁_map w (λ v. let z = there _ e v in clash cc))
      by (Some (line g n k (Body (Call x f m ys)))) e =
          let er : g ≡ r = known_number (∥∥₁_map w (λ v. let z = there _ e v in cc)) in
          let eh : k ≡ h = known_handler k h (∥∥₁_map w (λ v. let z = there _ e v in cc)) in
          record { call = i; size = n; result = x; routine = f; count = m; arguments = ys; after = refl; is = cc }

  known_resumed : (fs : List Frame) → ∥ Resumed t fs ∥₁ → Resumed t fs
  known_resumed [] w = tt
  known_resumed (f ∷ fs) w = (known_resumes f.routine f.handler f.next (∥∥₁_map w (λ v. v.0)), known_resumed fs (∥∥₁_map w (λ v. v.1)))

  pub known_reachable : (s : State) → ∥ Reachable t s ∥₁ → Reachable t s
  known_reachable s w = record {
    stands = known_stands s.routine s.handler s.at (∥∥₁_map w (λ v. v.stands));
    resumed = known_resumed s.frames (∥∥₁_map w (λ v. v.resumed));
    few = ∥∥₁_elim w le_prop (λ v. v.few);
  }
