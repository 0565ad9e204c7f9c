-- Words say one thing at most: what that is, as a function.
use Rattle.std.proofs.Common.{◌≡◌, false, cond, eqb, List, [], ◌∷◌, map, get_or, ℤ, Some, None, codes, Option, sym, refl, ap, ◌∙◌}
use Rattle.std.specs.Str.Parse.{signed_digits_value}
use Rattle.std.specs.Str.{bytes_eq}
use Rattle.script.specs.Lines.{Numbers, Says, bench, turn, load, jog, state, number_sign, Reads, empty, comment, asks}
use Rattle.script.specs.Names.{keyword_name, kind_name, Names}
use Rattle.script.specs.Words.{Word}
use Rattle.script.specs.declared.keyword.Keyword.{Keyword}
use Rattle.script.specs.declared.keyword.Keyword.TheVariants.{Bench, Turn, Load, Jog, State}
use Rattle.script.specs.declared.kind.Kind.{Kind}
use Rattle.script.specs.declared.kind.Kind.TheVariants.{Site, Log}
use Rattle.script.specs.declared.line.Line.{Line}
use Rattle.script.specs.declared.line.Line.TheVariants as line

abbrev key_of : Word → Keyword
key_of w = cond (bytes_eq w (codes "bench")) Bench (cond (bytes_eq w (codes "turn")) Turn (cond (bytes_eq w (codes "load")) Load (cond (bytes_eq w (codes "jog")) Jog State)))

key_is : (k : Keyword) → key_of (keyword_name k) ≡ k
key_is Bench = refl
key_is Turn = refl
key_is Load = refl
key_is Jog = refl
key_is State = refl

pub same_key : (j k : Keyword) → keyword_name j ≡ keyword_name k → j ≡ k
same_key j k e = sym (key_is j) ∙ ap key_of e ∙ key_is k

-- no keyword begins as a comment does
pub no_sign : (k : Keyword) → eqb (get_or (keyword_name k) 0 0) number_sign ≡ false
no_sign Bench = refl
no_sign Turn = refl
no_sign Load = refl
no_sign Jog = refl
no_sign State = refl

abbrev kind_of : Word → Kind
kind_of w = cond (bytes_eq w (codes "site")) Site Log

kind_is : (k : Kind) → kind_of (kind_name k) ≡ k
kind_is Site = refl
kind_is Log = refl

named : {w : Word} {k : Kind} → Names w k → k ≡ kind_of w
named {w} {k} e = sym (ap kind_of e ∙ kind_is k)

numbers_are : (ws : List Word) (zs : List ℤ) → Numbers ws zs → zs ≡ map (signed_digits_value 10) ws
numbers_are [] [] n = refl
numbers_are [] (z ∷ zs) n = absurd n
numbers_are (w ∷ ws) [] n = absurd n
numbers_are (w ∷ ws) (z ∷ zs) n = let e = n.0.value in let f = numbers_are ws zs n.1 in cc

abbrev the_form : Keyword → List Word → Line
the_form Bench [] = line.State
the_form Bench (v ∷ []) = line.State
the_form Bench (v ∷ w ∷ ws) = line.Bench (record { first = kind_of v; second = kind_of w; counts = map (signed_digits_value 10) ws })
the_form Turn [] = line.State
the_form Turn (w ∷ ws) = line.Turn (signed_digits_value 10 w)
the_form Load ws = line.Load
the_form Jog [] = line.State
the_form Jog (v ∷ []) = line.State
the_form Jog (v ∷ w ∷ ws) = line.Jog (record { operation = signed_digits_value 10 v; number = signed_digits_value 10 w })
the_form State ws = line.State

said_is : (k : Keyword) (ws : List Word) (x : Line) → Says k ws x → x ≡ the_form k ws
said_is k ws x (bench {ws = vs} {cs = cs} m n c l) = λ i. line.Bench (record { first = named m i; second = named n i; counts = numbers_are vs cs c i })
said_is k ws x (turn n) = ap line.Turn n.value
said_is k ws x (load h) = refl
said_is k ws x (jog m n) = λ i. line.Jog (record { operation = m.value i; number = n.value i })
said_is k ws x state = refl

abbrev the_line : List Word → Option Line
the_line [] = None
the_line (w ∷ ws) = cond (eqb (get_or w 0 0) number_sign) None (Some (the_form (key_of w) ws))

read_is : (ws : List Word) (x : Option Line) → Reads ws x → x ≡ the_line ws
read_is ws x empty = refl
read_is ws x comment = refl
read_is ws x (asks {k = k} s) = rw (no_sign k, key_is k) (ap (λ y. Some y) (said_is k _ _ s))

pub alone : (ws : List Word) (x y : Option Line) → Reads ws x → Reads ws y → x ≡ y
alone ws x y r s = read_is ws x r ∙ sym (read_is ws y s)
