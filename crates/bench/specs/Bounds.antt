-- How many sites and feeders a bench has, the most that a feeder holds, the most parts that a bench
-- holds in all, and the hundredths of a degree in a full turn.
use Rattle.std.specs.Prelude.{ℕ}

abbrev pub site_count : ℕ
site_count = 32

abbrev pub feeder_count : ℕ
feeder_count = 8

abbrev pub most_in_feeder : ℕ
most_in_feeder = 999

abbrev pub most_parts : ℕ
most_parts = 7992

abbrev pub full_turn : ℕ
full_turn = 36000
