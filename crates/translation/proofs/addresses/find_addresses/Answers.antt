use Rattle.std.proofs.Common.{◌+◌, ◌≤◌, get_or, arith, rules}
use Rattle.std.proofs.lemmas.Option.{slice_get-get_or}
use Rattle.few.proofs.Pushing.{pushed}
use Rattle.few.specs.Held.{held}
use Rattle.language.specs.declared.record.Record.TheVariants.{Routine}
use Rattle.translation.proofs.Collecting.{one_more, room, all_known}
use Rattle.translation.proofs.addresses.find_addresses.Goals as goal

pub overflow_add-words : goal.overflow_add-words
overflow_add-words c =
    let t = c.args.records.now in
    let i = c.loop-next.next-index in
    let x = get_or t i (Routine 0 0 0) in
    let on = slice_get-get_or t i (Routine 0 0 0) c.loop-next-test.true in
    let far = room t i c.loop-next.scope c.at-scope.result x c.loop-next.invariant.under on c.at-scope.ensures c.requires in
    let fits : c.loop-next.words + c.size-words.result ≤ 976 = omega (arith, c.loop-next.invariant.so_far, c.size-words.ensures) in
    search rules

pub loop-next-preserved : goal.loop-next-preserved
loop-next-preserved c =
    let t = c.args.records.now in
    let i = c.loop-next.next-index in
    let x = get_or t i (Routine 0 0 0) in
    let on = slice_get-get_or t i (Routine 0 0 0) c.loop-next-test.true in
    let more = pushed 256 (held c.loop-next.of) c.loop-next.words c.push.result c.unwrap.result (held c.push.new.self) c.unwrap.ensures c.push.ensures in
    one_more t i c.loop-next.scope c.at-scope.result x (held c.loop-next.of) (held c.push.new.self) c.loop-next.words c.size-words.result c.loop-next.invariant more on c.at-scope.ensures c.size-words.ensures

pub returns : goal.returns
returns c = all_known c.args.records.now c.loop-next.next-index c.loop-next.scope (record { of = c.loop-next.of; words = c.loop-next.words }) c.requires (omega arith) c.loop-next.invariant
