-- The words of a table, written record by record.
use Rattle.std.proofs.Common.{◌≡◌, ℕ, zero, suc, ◌+◌, ◌*◌, ◌≤◌, List, [], ◌∷◌, ◌++◌, length, take, Some, None, sym, refl, ap, ◌∙◌, append_assoc, append-nil, add-one, arith, take_all}
use Rattle.std.specs.List.{slice_get, flat_map}
use Rattle.std.proofs.lemmas.Grind.{flat_map-append}
use Rattle.language.specs.declared.record.Record.{Record}
use Rattle.language.specs.Lines.{lines}
use Rattle.language.specs.Code.{word_bytes, code}
use Rattle.language.specs.Translation.{size, address, words, line_words, translation}
use Rattle.language.proofs.Lists.{clash}
use Rattle.language.proofs.Lines.{length-lines}
use Rattle.scopes.specs.declared.scope.Scope.{Scope}
use Rattle.translation.specs.Buffers.{over, Appends}
use Rattle.scopes.specs.Scopes.{scope_at}
use Rattle.translation.proofs.Appending.{then_appends}
use Rattle.translation.proofs.Collecting.{address_more, address_below}
use Rattle.scopes.proofs.Scoped.{Under, under_next}

joined_next : {X Y : Type 0} (f : X → List Y) (xs : List X) (i : ℕ) (x : X) → slice_get xs i ≡ Some x → flat_map f (take (suc i) xs) ≡ flat_map f (take i xs) ++ f x
joined_next f [] i x e = clash (cc)
joined_next f (y ∷ xs) zero x e = let d : y ≡ x = cc in append-nil (f y) ∙ ap f d
joined_next f (y ∷ xs) (suc i) x e = ap (λ zs. f y ++ zs) (joined_next f xs i x e) ∙ sym (append_assoc (f y) (flat_map f (take i xs)) (f x))

-- the bytes of the first i records
abbrev pub front_code : List Record → ℕ → List ℕ
front_code t i = flat_map word_bytes (flat_map (line_words t) (take i (lines t)))

pub record Tabled (t : List Record) (i : ℕ) (c : Scope) (at : ℕ) (out out' : List ℕ) : Type 0 where
  pub under : Under t i c
  pub place : at ≡ 8 * address t i
  pub appends : Appends 0 (front_code t i) out out' at

module _ (t : List Record) (i : ℕ) (c c' : Scope) (x : Record) (at : ℕ) (out out' : List ℕ) (so_far : Tabled t i c at out out') (on : slice_get t i ≡ Some x) (is : c' ≡ scope_at c x) where
  pub record_room : (n : ℕ) → 8 * length (translation t) ≤ n → at + 8 * size c'.handler x ≤ n
  record_room n l = omega (arith, so_far.place, address_more t i c c' x so_far.under on is, address_below t (i + 1))

  pub tabled_more : (out'' : List ℕ) (m : ℕ) → m ≡ at + 8 * size c'.handler x → Appends at (flat_map word_bytes (words t c'.routine c'.handler x)) out' out'' m → Tabled t (i + 1) c' m out out''
  tabled_more out'' m e a =
      let n = under_next t i c so_far.under x c' on is in
      let w = words t c'.routine c'.handler x in
      let f : front_code t (i + 1) ≡ front_code t i ++ flat_map word_bytes w =
      ap (λ k. front_code t k) (add-one i) ∙ ap (flat_map word_bytes) (joined_next (line_words t) (lines t) i _ n.1.is) ∙ flat_map-append word_bytes (flat_map (line_words t) (take i (lines t))) w in
      record {
        under = n.0;
        place = omega (arith, so_far.place, address_more t i c c' x so_far.under on is);
        appends = rw f (then_appends 0 at m (front_code t i) (flat_map word_bytes w) out out' out'' so_far.appends a);
      }

module _ (t : List Record) (i : ℕ) (c : Scope) (at : ℕ) (out out' : List ℕ) (so_far : Tabled t i c at out out') (end : length t ≤ i) where
  whole : front_code t i ≡ code t
  unfolding code translation
  whole = ap (λ ls. flat_map word_bytes (flat_map (line_words t) ls)) (take_all i (lines t) (omega (arith, length-lines t 0 0 None)))

  pub tabled_count : at ≡ length (code t)
  tabled_count = omega (arith, so_far.appends.next, ap length whole)

  pub tabled_after : out' ≡ over (code t) out
  tabled_after = so_far.appends.after [] out refl refl ∙ ap (λ bs. over bs out) whole
