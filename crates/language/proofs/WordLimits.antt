-- The words of a well-formed table's translation name variables below 16.
use Rattle.std.proofs.Common.{◌≡◌, ℕ, zero, suc, ◌+◌, ◌<◌, ◌≤◌, List, Some, None, Option, arith}
use Rattle.std.specs.List.{slice_get, AllByRecursion}
use Rattle.language.specs.Bytes.{InRange}
use Rattle.language.specs.CodeWords.{Limited}
use Rattle.language.specs.Forms.{variables}
use Rattle.language.specs.Lines.{line, lines}
use Rattle.language.specs.Runs.{variable_count}
use Rattle.language.specs.Translation.{clears, words, translation}
use Rattle.language.specs.WellFormed.{WellFormed}
use Rattle.language.specs.declared.handler.Handler.{Handler}
use Rattle.language.specs.declared.instruction.Instruction.TheVariants.{Constant, Move, Difference, Request, Call, Goto, Return, Branch, Raise}
use Rattle.language.specs.declared.record.Record.{Record}
use Rattle.language.specs.declared.record.Record.TheVariants.{Routine, Block, Body}
use Rattle.language.specs.declared.word.Word.{Word}
use Rattle.language.proofs.Limits.{variables_below, catch_below}
use Rattle.language.proofs.Lines.{line_record}
use Rattle.language.proofs.Lists.{all_nth}
use Rattle.language.proofs.Words.{from_line}

abbrev LimitedWord : Word → Type 0
LimitedWord w = Limited w.operation

limited_clears : (p q : ℕ) → p + q ≤ variable_count → AllByRecursion LimitedWord (clears p q)
limited_clears p zero l = tt
limited_clears p (suc q) l = (omega arith, limited_clears (suc p) q (omega arith))

-- the catch variable of a handler in force
abbrev Caught : Option Handler → Type 0
Caught None = Unit {0}
Caught (Some h) = h.catch < variable_count

limited_words : (t : List Record) (r : ℕ) (h : Option Handler) (x : Record) → InRange x → AllByRecursion (λ v. v < variable_count) (variables x) → Caught h → AllByRecursion LimitedWord (words t r h x)
limited_words t r h (Routine g p q) f v c = limited_clears p q f.1
limited_words t r h (Block l k) f v c = tt
limited_words t r h (Body (Constant x i)) f v c = (v.0, tt)
limited_words t r h (Body (Move x y)) f v c = ((v.0, v.1.0), tt)
limited_words t r h (Body (Difference x y z)) f v c = ((v.0, v.1.0, v.1.1.0), tt)
limited_words t r None (Body (Request x o y)) f v c = ((v.0, f, v.1.0, omega arith), (omega arith, tt))
limited_words t r (Some h) (Body (Request x o y)) f v c = ((v.0, f, v.1.0, omega arith), (tt, tt))
limited_words t r None (Body (Call x g n ys)) f v c = (v.0, ((f.0, v.1), tt))
limited_words t r (Some h) (Body (Call x g n ys)) f v c = ((v.0, c), ((f.0, v.1), (tt, tt)))
limited_words t r h (Body (Goto l)) f v c = (tt, tt)
limited_words t r h (Body (Return x)) f v c = (v.0, tt)
limited_words t r h (Body (Branch x y l m)) f v c = ((v.0, v.1.0), (tt, (tt, tt)))
limited_words t r None (Body (Raise x)) f v c = (let l = v.0 in omega arith, tt)
limited_words t r (Some h) (Body (Raise x)) f v c = ((c, v.0), (tt, tt))

caught : (t : List Record) → WellFormed t → (i r n : ℕ) (h : Option Handler) (x : Record) → slice_get (lines t) i ≡ Some (line r n h x) → Caught h
caught t ok i r n None x e = tt
caught t ok i r n (Some h) x e = catch_below t ok i r n h x e

pub limited : (t : List Record) → WellFormed t → (a : ℕ) (w : Word) → slice_get (translation t) a ≡ Some w → Limited w.operation
unfolding translation
limited t ok a w e =
    let f = from_line t (lines t) a w e in
    let x = all_nth InRange t f.i f.x ok.legible.ranged (line_record t 0 0 None f.i f.r f.n f.h f.x f.here) in
    let v = variables_below t ok f.i f.r f.n f.h f.x f.here in
    all_nth LimitedWord (words t f.r f.h f.x) f.k w (limited_words t f.r f.h f.x x v (caught t ok f.i f.r f.n f.h f.x f.here)) f.word
