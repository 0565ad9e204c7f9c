use Rattle.std.proofs.Common.{◌≡◌, ◌/◌, length, map, vec_items, refl, ◌∙◌, rules}
use Rattle.std.specs.Simd.{first_chunks}
use Rattle.std.proofs.lemmas.Iterator.{YieldsList-from_slice, YieldsList-from_map, items_from_collect}
use Rattle.std.proofs.lemmas.Result.{IfOk-weaker}
use Rattle.script.specs.Tables.{pair_value, hex_bytes}
use Rattle.script.proofs.Hexes.{bytes_of}
use Rattle.script.proofs.hex.bytes.Goals as goal

pub returns : goal.returns
returns c =
    let w = c.args.word.now in
    let chain = YieldsList-from_map _ pair_value (YieldsList-from_slice (first_chunks 2 (length w / 2) w) (search rules)) refl (λ x r q k. search rules) in
    IfOk-weaker c.collect.result (λ v. vec_items v ≡ map pair_value (first_chunks 2 (length w / 2) w)) (λ v. vec_items v ≡ hex_bytes w)
    (λ v is. is ∙ bytes_of w (length w / 2) refl) (items_from_collect c.collect.result c.collect.ensures.ran chain)
