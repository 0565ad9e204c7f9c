use Rattle.std.proofs.Common.{ℕ, ◌≤◌, List, length, Ok, Err, Result, refl, arith}
use Rattle.continuation.proofs.program.Program.new.Goals as goal
use Rattle.language.proofs.Props.{known_formed}
use Rattle.language.proofs.Sizes.{held}
use Rattle.language.specs.Code.{code}
use Rattle.language.specs.declared.record.Record.{Record}
use Rattle.std.specs.Result.{IsOk}
use Rattle.table.specs.Checked.{records_of}
use Rattle.translation.specs.Answers.{Translates}
use Rattle.translation.specs.declared.fault.ShortBuffer.{ShortBuffer}

-- with room enough a table is translated
room : (t : List Record) (out out' : List ℕ) (r : Result ℕ ShortBuffer) → Translates t out out' r → length (code t) ≤ length out → IsOk r
room t out out' (Ok n) w h = refl
room t out out' (Err e) w h = absurd (omega (arith, w.short, h))

pub unwrap-requires : goal.unwrap-requires
unwrap-requires c =
    let t = records_of c.args.table in
    let h = held t (known_formed t c.args.table.formed) in
    room t _ c.translate_table.new.out c.translate_table.result c.translate_table.ensures (omega (arith, h.words, h.bytes))
