use Rattle.std.proofs.Common.{◌≡◌, [], ◌∷◌, Some, None, vec_items, sym, subst, w32, SFits, rules}
use Rattle.std.proofs.lemmas.Result.{IfOk-weaker}
use Rattle.std.proofs.lemmas.Int.{to_z-of_z}
use Rattle.bench.specs.SetUps.{SetsUp, TurnsBy}
use Rattle.session.specs.Answering.{set_up_answer_of, turn_answer_of}
use Rattle.session.specs.Plays.{first_answers, second_answers}
use Rattle.session.proofs.Performing.{plain_performs, turned_performs, both_perform}
use Rattle.session.proofs.section.Section.perform_on.Goals as goal

pub returns-in_default : goal.returns-in_default
returns-in_default g c =
    let x = c.args.self.now in
    let before = vec_items c.in_ok-vec.field-0 in
    let unturned : x.turn ≡ None = search rules in
    let first : first_answers before ≡ set_up_answer_of c.args.first.1 ∷ [] = search rules in
    let second : second_answers before ≡ set_up_answer_of c.args.second.1 ∷ [] = search rules in
    let h = IfOk-weaker _ _ _ (λ v. plain_performs x _ _ (first_answers before) (first_answers (vec_items v)) unturned c.requires.first first) c.go_on.ensures.first in
    let k = IfOk-weaker _ _ _ (λ v. plain_performs x _ _ (second_answers before) (second_answers (vec_items v)) unturned c.requires.second second) c.go_on.ensures.second in
    both_perform x _ h k

pub returns : goal.returns
returns g c =
    let x = c.args.self.now in
    let before = vec_items c.in_ok-vec-2.field-0 in
    let by : x.turn ≡ Some c.in-Some.shift = search rules in
    let first : first_answers before ≡ set_up_answer_of c.args.first.1 ∷ turn_answer_of c.new-first.result.1 ∷ [] = search rules in
    let second : second_answers before ≡ set_up_answer_of c.args.second.1 ∷ turn_answer_of c.new-second.result.1 ∷ [] = search rules in
    let z = c.in-Some.shift in
    let fits : SFits w32 z = search rules in
    let same = to_z-of_z w32 z fits in
    let first-turn = subst (λ n. TurnsBy n c.new-first.result.1 c.new-first.result.0.shift) same c.new-first.ensures.shift in
    let second-turn = subst (λ n. TurnsBy n c.new-second.result.1 c.new-second.result.0.shift) same c.new-second.ensures.shift in
    let first-set = subst (λ b. SetsUp x.pairing.counts c.args.first.1 (g.P.Bench.state b)) (sym c.new-first.ensures.below) c.requires.first in
    let second-set = subst (λ b. SetsUp x.pairing.counts c.args.second.1 (g.Q.Bench.state b)) (sym c.new-second.ensures.below) c.requires.second in
    let h = IfOk-weaker _ _ _ (λ v. turned_performs x z _ _ _ _ (first_answers before) (first_answers (vec_items v)) by first-set first-turn first) c.go_on-2.ensures.first in
    let k = IfOk-weaker _ _ _ (λ v. turned_performs x z _ _ _ _ (second_answers before) (second_answers (vec_items v)) by second-set second-turn second) c.go_on-2.ensures.second in
    both_perform x _ h k
