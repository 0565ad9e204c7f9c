-- Words that are blamed say nothing.
use Rattle.std.proofs.Common.{◌≡◌, ◌⊎◌, List, [], ◌∷◌, length, replicate, ℤ, IsErrAnd, IfErr, Ok, Err, Result, sym, refl, ◌∙◌, subst, inl, inr, MatchResult}
use Rattle.script.specs.Blame.{fields, Meets, Blames, missing, wrong, extra, later}
use Rattle.script.specs.Fields.{Takes, Lacks}
use Rattle.script.specs.Lines.{Numbers, Says, bench, turn, load, jog, state}
use Rattle.script.specs.Names.{Names}
use Rattle.script.specs.Numbers.{Writes}
use Rattle.script.specs.Tables.{HexIs}
use Rattle.script.specs.Words.{Word}
use Rattle.script.specs.declared.expected.Expected.{Expected}
use Rattle.script.specs.declared.expected.Expected.TheVariants.{Kind, Number, Counts, Table, End}
use Rattle.script.specs.declared.keyword.Keyword.{Keyword}
use Rattle.script.specs.declared.kind.Kind as kind
use Rattle.script.specs.declared.line.Line.{Line}

-- each word is what is expected at its place
abbrev Fit : List Expected → List Word → Type 0
Fit [] [] = Unit {0}
Fit [] (w ∷ ws) = ⊥
Fit (e ∷ es) [] = ⊥
Fit (e ∷ es) (w ∷ ws) = Meets e w × Fit es ws

unfit : (es : List Expected) (ws : List Word) (d : Expected) → Blames es ws d → Fit es ws → ⊥
unfit es ws d missing f = f
unfit es ws d (wrong h) f = h f.0
unfit es ws d extra f = f
unfit es ws d (later m b) f = unfit _ _ d b f.1

numbers_fit : (ws : List Word) (zs : List ℤ) → Numbers ws zs → Fit (replicate (length zs) Counts) ws
numbers_fit [] [] n = tt
numbers_fit [] (z ∷ zs) n = absurd n
numbers_fit (w ∷ ws) [] n = absurd n
numbers_fit (w ∷ ws) (z ∷ zs) n = ((z, n.0), numbers_fit ws zs n.1)

said_fits : (k : Keyword) (ws : List Word) (x : Line) → Says k ws x → Fit (fields k) ws
said_fits k ws x (bench {ws = vs} {cs = cs} m n c l) = ((_, m), ((_, n), subst (λ i. Fit (replicate i Counts) vs) l (numbers_fit vs cs c)))
said_fits k ws x (turn n) = ((_, n), tt)
said_fits k ws x (load h) = (h, tt)
said_fits k ws x (jog m n) = ((_, m), ((_, n), tt))
said_fits k ws x state = tt

pub unsaid : (k : Keyword) (ws : List Word) (e : Expected) → Blames (fields k) ws e → (x : Line) → Says k ws x → ⊥
unsaid k ws e b x s = unfit (fields k) ws e b (said_fits k ws x s)

-- the word that is to blame, by recursion on both lists
abbrev Blamed : List Expected → List Word → Expected → Type 0
Blamed [] [] d = ⊥
Blamed [] (w ∷ ws) d = d ≡ End
Blamed (e ∷ es) [] d = d ≡ e
Blamed (e ∷ es) (w ∷ ws) d = ((Meets e w → ⊥) × (d ≡ e)) ⊎ (Meets e w × Blamed es ws d)

by_lists : (es : List Expected) (ws : List Word) (d : Expected) → Blames es ws d → Blamed es ws d
by_lists es ws d missing = refl
by_lists es ws d (wrong h) = inl (h, refl)
by_lists es ws d extra = refl
by_lists es ws d (later m b) = inr (m, by_lists _ _ d b)

same_blamed : (es : List Expected) (ws : List Word) (c d : Expected) → Blamed es ws c → Blamed es ws d → c ≡ d
same_blamed [] [] c d a b = absurd a
same_blamed [] (w ∷ ws) c d a b = a ∙ sym b
same_blamed (e ∷ es) [] c d a b = a ∙ sym b
same_blamed (e ∷ es) (w ∷ ws) c d (inl a) (inl b) = a.1 ∙ sym b.1
same_blamed (e ∷ es) (w ∷ ws) c d (inl a) (inr b) = absurd (a.0 b.0)
same_blamed (e ∷ es) (w ∷ ws) c d (inr a) (inl b) = absurd (b.0 a.0)
same_blamed (e ∷ es) (w ∷ ws) c d (inr a) (inr b) = same_blamed es ws c d a.1 b.1

pub same_blame : (es : List Expected) (ws : List Word) (c d : Expected) → Blames es ws c → Blames es ws d → c ≡ d
same_blame es ws c d a b = same_blamed es ws c d (by_lists es ws c a) (by_lists es ws d b)

-- at the exit of a `?` with the error e
pub stopped : {X : Type 0} (Q : X → Type 0) (P : Expected → Type 0) (e : Expected) (r : Result X Expected) → IsErrAnd r (λ d. d ≡ e) → P e → MatchResult r Q P
stopped Q P e (Ok x) h p = absurd h
stopped Q P e (Err d) h p = subst P (sym h) p

pub told : {X : Type 0} (P : Expected → Type 0) (e : Expected) (r : Result X Expected) → IsErrAnd r (λ d. d ≡ e) → P e → IfErr r P
told P e (Ok x) h p = absurd h
told P e (Err d) h p = subst P (sym h) p

-- a field is lacking
lacking : {X : Type 0} (P : Word → X → Type 0) (f : Expected) (es : List Expected) (ws : List Word) (e : Expected) → ((w : Word) → Meets f w → (x : X) × P w x) → (e ≡ f) × Lacks P ws → Blames (f ∷ es) ws e
lacking P f es [] e meets h = rw h.0 missing
lacking P f es (w ∷ ws) e meets h = rw h.0 (wrong (λ m. let p = meets w m in h.1 w p.0 ws refl p.1))

-- a field is taken, and what is to blame comes later
taken : (f : Expected) (es : List Expected) (ws : List Word) (w : Word) (rest : List Word) (d : Expected) → ws ≡ w ∷ rest → Meets f w → Blames es rest d → Blames (f ∷ es) ws d
taken f es ws w rest d e m b = rw e (later m b)

-- a word is one too many
pub one_too_many : (ws : List Word) (e : Expected) → (e ≡ End) × (ws ≡ [] → ⊥) → Blames [] ws e
one_too_many [] e h = absurd (h.1 refl)
one_too_many (w ∷ ws) e h = rw h.0 extra

module _ (es : List Expected) (ws : List Word) where
  pub kind_lacking : (e : Expected) → (e ≡ Kind) × Lacks Names ws → Blames (Kind ∷ es) ws e
  kind_lacking e h = lacking Names Kind es ws e (λ w m. m) h

  pub number_lacking : (e : Expected) → (e ≡ Number) × Lacks Writes ws → Blames (Number ∷ es) ws e
  number_lacking e h = lacking Writes Number es ws e (λ w m. m) h

  pub count_lacking : Lacks Writes ws → Blames (Counts ∷ es) ws Counts
  count_lacking h = lacking Writes Counts es ws Counts (λ w m. m) (refl, h)

  pub table_lacking : (e : Expected) → (e ≡ Table) × Lacks HexIs ws → Blames (Table ∷ es) ws e
  table_lacking e h = lacking HexIs Table es ws e (λ w m. (tt, m)) h

  pub table_taken : (rest : List Word) (d : Expected) → Takes HexIs ws tt rest → Blames es rest d → Blames (Table ∷ es) ws d
  table_taken rest d t b = taken Table es ws t.word rest d t.cut t.says b

  pub kind_taken : (k : kind.Kind) (rest : List Word) (d : Expected) → Takes Names ws k rest → Blames es rest d → Blames (Kind ∷ es) ws d
  kind_taken k rest d t b = taken Kind es ws t.word rest d t.cut (k, t.says) b

  pub number_taken : (z : ℤ) (rest : List Word) (d : Expected) → Takes Writes ws z rest → Blames es rest d → Blames (Number ∷ es) ws d
  number_taken z rest d t b = taken Number es ws t.word rest d t.cut (z, t.says) b

  pub count_taken : (z : ℤ) (rest : List Word) (d : Expected) → Takes Writes ws z rest → Blames es rest d → Blames (Counts ∷ es) ws d
  count_taken z rest d t b = taken Counts es ws t.word rest d t.cut (z, t.says) b
