-- From the first word of a line to what the line says.
use Rattle.std.proofs.Common.{◌≡◌, ℕ, ◌<◌, ◌⊎◌, List, [], ◌∷◌, length, get_or, Some, None, Option, sym, refl, ap, ◌∙◌, subst, inl, inr, arith, false-eqb}
use Rattle.script.specs.Blame.{fields, Blames, Unread, unknown, misfit}
use Rattle.script.specs.Lines.{Says, number_sign, Reads, empty, comment, asks}
use Rattle.script.specs.Names.{keyword_name}
use Rattle.script.specs.Words.{Word}
use Rattle.script.specs.declared.expected.Expected.{Expected}
use Rattle.script.specs.declared.expected.Expected.TheVariants as expected
use Rattle.script.specs.declared.keyword.Keyword.{Keyword}
use Rattle.script.specs.declared.line.Line.{Line}
use Rattle.script.proofs.Alone.{same_key, no_sign}
use Rattle.script.proofs.Blame.{unsaid, same_blame}

pub reads_empty : (ws : List Word) → ws ≡ [] → Reads ws None
reads_empty ws e = rw e empty

pub reads_comment : (ws : List Word) (w : Word) (rest : List Word) → ws ≡ w ∷ rest → 0 < length w → get_or w 0 0 ≡ number_sign → Reads ws None
reads_comment ws [] rest e l h = absurd (omega arith)
reads_comment ws (b ∷ w) rest e l h = rw (e, h) comment

pub reads_asks : (ws : List Word) (w : Word) (rest : List Word) (k : Keyword) (x : Line) → ws ≡ w ∷ rest → w ≡ keyword_name k → Says k rest x → Reads ws (Some x)
reads_asks ws w rest k x e f s = rw (e, f) (asks s)

-- the first word of a line that is no comment and says something is a keyword
first_word : (w : Word) (rest : List Word) → (get_or w 0 0 ≡ number_sign → ⊥) → (ws : List Word) (x : Option Line) → Reads ws x → ws ≡ w ∷ rest → (k : Keyword) × (w ≡ keyword_name k) × ((y : Line) × Says k rest y)
first_word w rest plain ws x empty e = let z : ◌≡◌ {A = ℕ} 0 1 = cc in absurd (omega arith)
first_word w rest plain ws x (comment {w = v}) e = let f : w ≡ number_sign ∷ v = cc in absurd (plain (ap (λ u. get_or u 0 0) f))
first_word w rest plain ws x (asks {k = k} {ws = vs} {x = y} s) e =
    let f : w ≡ keyword_name k = cc in let g : vs ≡ rest = cc in (k, f, (y, subst (λ us. Says k us y) g s))

plain_key : (k : Keyword) → get_or (keyword_name k) 0 0 ≡ number_sign → ⊥
plain_key k = false-eqb _ _ (sym (no_sign k))

-- what is told of words holds of words that say nothing
pub unread : (ws : List Word) (e : Expected) → Unread ws e → (x : Option Line) → Reads ws x → ⊥
unread ws e (unknown plain h) x r = let p = first_word _ _ plain _ x r refl in h p.0 p.1
unread ws e (misfit k {ws = rest} b) x r =
    let p = first_word (keyword_name k) rest (plain_key k) _ x r refl in
    unsaid k rest e b p.2.0 (subst (λ j. Says j rest p.2.0) (sym (same_key k p.0 p.1)) p.2.1)

pub unread_word : (ws : List Word) (w : Word) (rest : List Word) → ws ≡ w ∷ rest → (get_or w 0 0 ≡ number_sign → ⊥) → ((k : Keyword) → w ≡ keyword_name k → ⊥) → Unread ws expected.Keyword
unread_word ws w rest e plain h = rw e (unknown plain h)

pub unread_form : (ws : List Word) (w : Word) (rest : List Word) (k : Keyword) (d : Expected) → ws ≡ w ∷ rest → w ≡ keyword_name k → Blames (fields k) rest d → Unread ws d
unread_form ws w rest k d e f b = rw (e, f) (misfit k b)

-- why words are unread, by their first word w
abbrev Why : Word → List Word → Expected → Type 0
Why w rest e = (((k : Keyword) → w ≡ keyword_name k → ⊥) × (e ≡ expected.Keyword)) ⊎ ((k : Keyword) × (w ≡ keyword_name k) × Blames (fields k) rest e)

by_first : (w : Word) (rest ws : List Word) (e : Expected) → Unread ws e → ws ≡ w ∷ rest → Why w rest e
by_first w rest ws e (unknown {w = v} plain h) f = let g : w ≡ v = cc in inl (λ k i. h k (sym g ∙ i), refl)
by_first w rest ws e (misfit k {ws = vs} b) f =
    let g : w ≡ keyword_name k = cc in let i : vs ≡ rest = cc in inr (k, g, subst (λ us. Blames (fields k) us e) i b)

one_way : (w : Word) (rest : List Word) (c d : Expected) → Why w rest c → Why w rest d → c ≡ d
one_way w rest c d (inl a) (inl b) = a.1 ∙ sym b.1
one_way w rest c d (inl a) (inr b) = absurd (a.0 b.0 b.1)
one_way w rest c d (inr a) (inl b) = absurd (b.0 a.0 a.1)
one_way w rest c d (inr a) (inr b) =
    let e : b.0 ≡ a.0 = same_key b.0 a.0 (sym b.1 ∙ a.1) in
    same_blame (fields a.0) rest c d a.2 (subst (λ k. Blames (fields k) rest d) e b.2)

-- of the words of a line one thing is told
pub one_told : (ws : List Word) (c d : Expected) → Unread ws c → Unread ws d → c ≡ d
one_told [] c d a b = absurd (none [] c a refl)
  where
    none : (ws : List Word) (e : Expected) → Unread ws e → ws ≡ [] → ⊥
    none ws e (unknown plain h) f = let z : ◌≡◌ {A = ℕ} 0 1 = cc in omega arith
    none ws e (misfit k b) f = let z : ◌≡◌ {A = ℕ} 0 1 = cc in omega arith
one_told (w ∷ rest) c d a b = one_way w rest c d (by_first w rest _ c a refl) (by_first w rest _ d b refl)
