-- A buffer that is written from its front.
use Rattle.std.specs.Prelude.{◌≡◌, ℕ, ◌+◌, List, ◌++◌, length, drop}

-- the buffer with the bytes at its front, and what comes after them as it was
abbrev pub over : List ℕ → List ℕ → List ℕ
over bs out = bs ++ drop (length bs) out

-- the bytes bs are written at a place, which goes on to r: where a front was written, it goes on with bs
pub record Appends (at : ℕ) (bs out out' : List ℕ) (r : ℕ) : Type 0 where
  pub next : r ≡ at + length bs
  pub after : (front base : List ℕ) → at ≡ length front → out ≡ over front base → out' ≡ over (front ++ bs) base
