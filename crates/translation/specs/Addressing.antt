-- What is known of the addresses of a table.
use Rattle.std.specs.Prelude.{◌≡◌, ℕ, suc, ◌<◌, ◌≤◌, List, length, slice_index}
use Rattle.few.specs.Held.{held}
use Rattle.language.specs.declared.record.Record.{Record}
use Rattle.language.specs.Lines.{Enters}
use Rattle.language.specs.Translation.{address, translation}
use Rattle.translation.specs.declared.addresses.Addresses.{Addresses}

-- a has the address of each record of t, and the number of all words
pub record Addressed (t : List Record) (a : Addresses) : Type 0 where
  pub long : length (held a.of) ≡ length t
  pub few : length t ≤ 256
  pub each : (i : ℕ) → i < length t → slice_index (held a.of) i ≡ address t i
  pub all : a.words ≡ length (translation t)

-- a is the address of the first instruction of routine 0
pub record EntryAddress (t : List Record) (a : ℕ) : Type 0 where
  pub is : (j p q : ℕ) → Enters t 0 j p q → a ≡ address t (suc j)
