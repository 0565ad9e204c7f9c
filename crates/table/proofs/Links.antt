-- What is looked up among the entries of a table is what its records say.
use Rattle.std.proofs.Common.{◌≡◌, ℕ, suc, ◌+◌, Bool, true, false, ◌⊎◌, List, [], ◌∷◌, get_or, Some, None, Option, sym, refl, ap, ◌∙◌, inl, inr, arith}
use Rattle.std.specs.List.{slice_get}
use Rattle.std.specs.Option.{option_map}
use Rattle.std.proofs.lemmas.Option.{get_or_from_slice_get}
use Rattle.language.specs.declared.record.Record.{Record}
use Rattle.language.specs.declared.record.Record.TheVariants.{Routine, Block, Body}
use Rattle.language.specs.Forms.{Called, called}
use Rattle.language.specs.Lines.{Line, line, lines, place, heads_routine, heads_block, routine_place, block_place, Enters}
use Rattle.language.specs.Causes.{Absent, Miscounted}
use Rattle.language.proofs.Lists.{clash, place_in}
use Rattle.language.proofs.Lines.{routine_of, BlockOf, block_of}
use Rattle.table.specs.declared.entries.RoutineEntry.{RoutineEntry}
use Rattle.table.specs.declared.entries.BlockEntry.{BlockEntry}
use Rattle.table.specs.Entries.{picked, routine_entry, block_entry, routine_entries, block_entries, of_routine, of_block, entry_at, routine_found, block_found, routine_at_of, block_at, no_routine_entry, no_block_entry}
use Rattle.table.specs.Names.{Unknown, Misfit}

-- a test of entries that says what a test of the elements does that they are picked from
module _ {X E : Type 0} (pick : ℕ → X → Option E) (test : X → Bool) (entry-test : E → Bool)
    (alike : (i : ℕ) (x : X) (e : E) → pick i x ≡ Some e → entry-test e ≡ test x)
    (none : (i : ℕ) (x : X) → pick i x ≡ None → test x ≡ false) where
  -- both find something, and the one is picked from the other
  pub record Both (i : ℕ) (xs : List X) : Type 0 where
    pub j : ℕ
    pub k : ℕ
    pub x : X
    pub e : E
    pub here : place test xs ≡ Some j
    pub there : place entry-test (picked pick i xs) ≡ Some k
    pub at : slice_get xs j ≡ Some x
    pub entry : slice_get (picked pick i xs) k ≡ Some e
    pub is : pick (i + j) x ≡ Some e

  pub record Neither (i : ℕ) (xs : List X) : Type 0 where
    pub here : place test xs ≡ None
    pub there : place entry-test (picked pick i xs) ≡ None

  pub linked : (i : ℕ) (xs : List X) → Neither i xs ⊎ Both i xs
  linked i [] = inl (record { here = refl; there = refl })
  linked i (x ∷ xs) = by (linked (suc i) xs) (pick i x) refl (test x) refl
    where
      by : Neither (suc i) xs ⊎ Both (suc i) xs → (o : Option E) → pick i x ≡ o → (b : Bool) → test x ≡ b → Neither i (x ∷ xs) ⊎ Both i (x ∷ xs)
      by rest None eo true et = let n = none i x eo in let z : true ≡ false = cc in clash (cc)
      by (inl r) None eo false et = let a = r.here in let b = r.there in inl (record { here = cc; there = cc })
      by (inr r) None eo false et =
          let a = r.here in let b = r.there in let c = r.entry in let d = r.is in
          let n : i + suc r.j ≡ suc i + r.j = omega arith in
          inr (record { j = suc r.j; k = r.k; x = r.x; e = r.e; here = cc; there = cc; at = r.at; entry = cc; is = ap (λ v. pick v r.x) n ∙ d })
      by rest (Some e) eo true et =
          let s = alike i x e eo in
          let n : i + 0 ≡ i = omega arith in
          inr (record { j = 0; k = 0; x = x; e = e; here = cc; there = cc; at = refl; entry = cc; is = ap (λ v. pick v x) n ∙ eo })
      by (inl r) (Some e) eo false et = let s = alike i x e eo in let a = r.here in let b = r.there in inl (record { here = cc; there = cc })
      by (inr r) (Some e) eo false et =
          let s = alike i x e eo in
          let a = r.here in let b = r.there in let c = r.entry in let d = r.is in
          let n : i + suc r.j ≡ suc i + r.j = omega arith in
          inr (record { j = suc r.j; k = suc r.k; x = r.x; e = r.e; here = cc; there = cc; at = r.at; entry = cc; is = ap (λ v. pick v r.x) n ∙ d })

some_same : {X : Type 0} (x y : X) → Some x ≡ Some y → x ≡ y
some_same x y e = cc

module _ (g : ℕ) where
  routine_alike : (i : ℕ) (x : Record) (e : RoutineEntry) → routine_entry i x ≡ Some e → of_routine g e ≡ heads_routine g x
  routine_alike i (Routine a b c) e h = ap (of_routine g) (sym (some_same _ _ h))
  routine_alike i (Block l k) e h = clash (cc)
  routine_alike i (Body y) e h = clash (cc)

  routine_none : (i : ℕ) (x : Record) → routine_entry i x ≡ None → heads_routine g x ≡ false
  routine_none i (Routine a b c) h = clash (cc)
  routine_none i (Block l k) h = refl
  routine_none i (Body y) h = refl

  -- routine g is found in neither, or in both: by an entry that has its parameters and its place
  pub record FoundRoutine (t : List Record) : Type 0 where
    pub j : ℕ
    pub k : ℕ
    pub parameters : ℕ
    pub locals : ℕ
    pub enters : Enters t g j parameters locals
    pub there : place (of_routine g) (routine_entries t) ≡ Some k
    pub entry : get_or (routine_entries t) k no_routine_entry ≡ record { identifier = g; parameters = parameters; place = j }

  pub record NoSuchRoutine (t : List Record) : Type 0 where
    pub here : routine_place t g ≡ None
    pub there : place (of_routine g) (routine_entries t) ≡ None

  pub routine_linked : (t : List Record) → NoSuchRoutine t ⊎ FoundRoutine t
  routine_linked t = by (linked routine_entry (heads_routine g) (of_routine g) routine_alike routine_none 0 t)
    where
      by : Neither routine_entry (heads_routine g) (of_routine g) routine_alike routine_none 0 t ⊎ Both routine_entry (heads_routine g) (of_routine g) routine_alike routine_none 0 t → NoSuchRoutine t ⊎ FoundRoutine t
      by (inl n) = inl (record { here = n.here; there = n.there })
      by (inr b) =
          let at = place_in (heads_routine g) t b.j b.here in
          let r = routine_of g at.0 at.2 in
          let e1 = at.1 in let e2 = r.2 in let e3 = b.at in
          let x : b.x ≡ Routine g r.0 r.1 = cc in
          let n : 0 + b.j ≡ b.j = omega arith in
          let is : Some (record { identifier = g; parameters = r.0; place = b.j }) ≡ Some b.e = (λ i. routine_entry (sym n i) (sym x i)) ∙ b.is in
          inr (record {
            j = b.j;
            k = b.k;
            parameters = r.0;
            locals = r.1;
            enters = record { first = b.here; there = cc };
            there = b.there;
            entry = get_or_from_slice_get (routine_entries t) b.k b.e no_routine_entry b.entry ∙ sym (some_same _ _ is);
          })

  pub routine_at_is : (t : List Record) → routine_at_of (routine_entries t) g ≡ routine_place t g
  routine_at_is t = by (routine_linked t)
    where
      found : Option ℕ → Option ℕ
      found o = option_map (λ (e : RoutineEntry). e.place) (entry_at no_routine_entry (routine_entries t) o)

      by : NoSuchRoutine t ⊎ FoundRoutine t → routine_at_of (routine_entries t) g ≡ routine_place t g
      by (inl n) = ap found n.there ∙ sym n.here
      by (inr f) = ap found f.there ∙ ap (λ (e : RoutineEntry). Some e.place) f.entry ∙ sym f.enters.first

  -- the same of an entry that was found in a table's index
  pub routine_named : (t : List Record) (rs : List RoutineEntry) (r : Option RoutineEntry) → r ≡ routine_found rs g → rs ≡ routine_entries t → option_map (λ (e : RoutineEntry). e.place) r ≡ routine_place t g
  routine_named t rs r is same = ap (option_map (λ (e : RoutineEntry). e.place)) is ∙ ap (λ es. routine_at_of es g) same ∙ routine_at_is t

module _ (r l : ℕ) where
  block_alike : (i : ℕ) (x : Line) (e : BlockEntry) → block_entry i x ≡ Some e → of_block r l e ≡ heads_block r l x
  block_alike i (line g n h (Routine a b c)) e s = clash (cc)
  block_alike i (line g n h (Block m k)) e s = ap (of_block r l) (sym (some_same _ _ s))
  block_alike i (line g n h (Body y)) e s = clash (cc)

  block_none : (i : ℕ) (x : Line) → block_entry i x ≡ None → heads_block r l x ≡ false
  block_none i (line g n h (Routine a b c)) s = refl
  block_none i (line g n h (Block m k)) s = clash (cc)
  block_none i (line g n h (Body y)) s = refl

  pub block_at_is : (t : List Record) → block_at (block_entries t) r l ≡ block_place t r l
  block_at_is t = by (linked block_entry (heads_block r l) (of_block r l) block_alike block_none 0 (lines t))
    where
      found : Option ℕ → Option ℕ
      found o = option_map (λ (e : BlockEntry). e.place) (entry_at no_block_entry (block_entries t) o)

      entry_place : (x : Line) (e : BlockEntry) (j : ℕ) → BlockOf r l x → block_entry (0 + j) x ≡ Some e → e.place ≡ j
      entry_place x e j b h =
          let n : 0 + j ≡ j = omega arith in
          let is : Some (record { key = record { routine = r; label = l }; place = j }) ≡ Some e = (λ i. block_entry (sym n i) (sym b.is i)) ∙ h in
          ap (λ (v : BlockEntry). v.place) (sym (some_same _ _ is))

      by : Neither block_entry (heads_block r l) (of_block r l) block_alike block_none 0 (lines t) ⊎ Both block_entry (heads_block r l) (of_block r l) block_alike block_none 0 (lines t) → block_at (block_entries t) r l ≡ block_place t r l
      by (inl n) = ap found n.there ∙ sym n.here
      by (inr b) =
          let at = place_in (heads_block r l) (lines t) b.j b.here in
          let e1 = at.1 in let e3 = b.at in
          let x : at.0 ≡ b.x = cc in
          let is = entry_place b.x b.e b.j (block_of r l b.x (ap (heads_block r l) (sym x) ∙ at.2)) b.is in
          ap found b.there ∙ ap (λ (e : BlockEntry). Some e.place) (get_or_from_slice_get (block_entries t) b.k b.e no_block_entry b.entry) ∙ ap Some is ∙ sym b.here

  pub block_named : (t : List Record) (bs : List BlockEntry) (b : Option BlockEntry) → b ≡ block_found bs r l → bs ≡ block_entries t → option_map (λ (e : BlockEntry). e.place) b ≡ block_place t r l
  block_named t bs b is same = ap (option_map (λ (e : BlockEntry). e.place)) is ∙ ap (λ es. block_at es r l) same ∙ block_at_is t

module _ (t : List Record) where
  pub unknown_absent : (c : Called) → Unknown (routine_entries t) c → Absent t c
  unknown_absent (called g n) h = by (routine_linked g t)
    where
      by : NoSuchRoutine g t ⊎ FoundRoutine g t → routine_place t g ≡ None
      by (inl s) = s.here
      by (inr f) = let e = f.there in clash (cc)

  pub absent_unknown : (c : Called) → Absent t c → Unknown (routine_entries t) c
  absent_unknown (called g n) h = by (routine_linked g t)
    where
      by : NoSuchRoutine g t ⊎ FoundRoutine g t → place (of_routine g) (routine_entries t) ≡ None
      by (inl s) = s.there
      by (inr f) = let e = f.enters.first in clash (cc)

  pub misfit_miscounted : (c : Called) → Misfit (routine_entries t) c → Miscounted t c
  misfit_miscounted (called g n) (k, is, apart) = by (routine_linked g t)
    where
      by : NoSuchRoutine g t ⊎ FoundRoutine g t → Miscounted t (called g n)
      by (inl s) = let e = s.there in clash (cc)
      by (inr f) =
          let e = f.there in
          let same : f.k ≡ k = cc in
          (f.j, f.parameters, f.locals, f.enters, λ z. apart (ap (λ v. (get_or (routine_entries t) v no_routine_entry).parameters) (sym same) ∙ ap (λ (v : RoutineEntry). v.parameters) f.entry ∙ z))

  pub miscounted_misfit : (c : Called) → Miscounted t c → Misfit (routine_entries t) c
  miscounted_misfit (called g n) (j, p, q, enters, apart) = by (routine_linked g t)
    where
      by : NoSuchRoutine g t ⊎ FoundRoutine g t → Misfit (routine_entries t) (called g n)
      by (inl s) = let e = s.here in let d = enters.first in clash (cc)
      by (inr f) =
          let a = f.enters.first in let b = enters.first in
          let same : f.j ≡ j = cc in
          let c = f.enters.there in let d = enters.there in
          let p-same : f.parameters ≡ p = cc in
          (f.k, f.there, λ z. apart (sym p-same ∙ sym (ap (λ (v : RoutineEntry). v.parameters) f.entry) ∙ z))
