-- The listing of a table: the text of its translation, or of the refusal.
use Rattle.std.specs.Prelude.{ℕ, suc, List, [], ◌∷◌, ◌++◌, take, drop, codes, decimal}
use Rattle.std.proofs.Math.Utf8.{encode}
use Rattle.std.specs.List.{flat_map}
use Rattle.language.specs.declared.record.Record.{Record}
use Rattle.language.specs.Code.{code}
use Rattle.language.specs.Refusals.{Refused}
use Rattle.language.specs.Rows.{rows, byte}
use Rattle.table.specs.Checked.{Accepts}
use Rattle.table.specs.Faults.{numbers_text}

abbrev pub spaced : ℕ → List ℕ
spaced n = codes " " ++ decimal n

-- a word at its address: the address, the letter, and the seven bytes after it
abbrev pub word_text_of : ℕ → List ℕ → List ℕ
word_text_of a row = decimal a ++ (codes " " ++ (encode (byte row 0) ++ (flat_map spaced (take 7 (drop 1 row)) ++ codes "\n")))

-- the words from address a on, eight bytes to a row
abbrev pub words_text : ℕ → List (List ℕ) → List ℕ
words_text a [] = []
words_text a (row ∷ rs) = word_text_of a row ++ words_text (suc a) rs

abbrev pub code_text_of : List ℕ → List ℕ
code_text_of bs = words_text 0 (rows bs)

-- layer, cause and place
abbrev pub refusal_text_of : ℕ → ℕ → ℕ → List ℕ
refusal_text_of l c p = codes "refused " ++ (numbers_text l c p ++ codes "\n")

-- the listing of bytes
pub data Lists (bs : List ℕ) : List ℕ → Type 0 where
  translated : (t : List Record) → Accepts bs t → Lists bs (code_text_of (code t))
  refused : (l c p : ℕ) → Refused bs l c p → Lists bs (refusal_text_of l c p)
