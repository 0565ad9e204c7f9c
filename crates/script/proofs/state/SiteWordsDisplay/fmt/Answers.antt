use Rattle.std.proofs.Common.{◌≡◌, [], sym, ap, ◌∙◌, rules}
use Rattle.std.specs.List.{list_all}
use Rattle.std.proofs.lemmas.List.{take_all}
use Rattle.script.specs.Answers.{spot_text_of, taken_text_of}
use Rattle.std.proofs.Output.{has_written_of_eq, has_written_append}
use Rattle.std.proofs.lemmas.Iterator.{YieldsList-from_slice}
use Rattle.std.proofs.lemmas.Iterator.Search.{all_from_yields_List}
use Rattle.script.proofs.Texts.{free, no_sites, some_sites, taken_more}
use Rattle.script.proofs.state.SiteWordsDisplay.fmt.Goals as goal
use Rattle.script.proofs.state.SiteWordsDisplay.fmt.Goals.{in-Some+in_ok-write, in_default}

pub returns-then-all-clause-writes : goal.returns-then-all-clause-writes
returns-then-all-clause-writes g c = λ plain done.
    let spots = c.args.self.now.0.now in
    let all : c.all.result ≡ list_all free spots = all_from_yields_List free _ _ c.all.result c.all.ensures.ran (YieldsList-from_slice spots cc) (λ x b q k. search rules) in
    has_written_of_eq _ _ _ _ _ (no_sites spots (sym all ∙ c.if-all.true)) (c.write_str.ensures.writes plain done)

pub loop-site-preserved : goal.loop-site-preserved
loop-site-preserved g c = λ plain.
    let spots = c.args.self.now.0.now in
    let i = c.loop-site.site-counter in
    let before = c.loop-site.invariant plain in
    elim c.match-spot.branch [
      | in-Some+in_ok-write w ↦ has_written_of_eq _ _ _ _ _ (taken_more spots i c.spot-item.result _ c.loop-site-test.true c.spot-item.is (ap (spot_text_of i) w.in-Some.is)) (has_written_append _ _ _ _ _ _ before (search rules))
      | in_default w ↦ has_written_of_eq _ _ _ _ _ (taken_more spots i c.spot-item.result [] c.loop-site-test.true c.spot-item.is (ap (spot_text_of i) w.in_default.is)) (has_written_append _ _ _ _ _ _ before (search rules))
    ]

pub returns-clause-writes : goal.returns-clause-writes
returns-clause-writes g c = λ plain done.
    let spots = c.args.self.now.0.now in
    let all : c.all.result ≡ list_all free spots = all_from_yields_List free _ _ c.all.result c.all.ensures.ran (YieldsList-from_slice spots cc) (λ x b q k. search rules) in
    has_written_of_eq _ _ _ _ _ (ap (taken_text_of 0) (take_all c.loop-site.site-counter spots c.loop-site-test.false) ∙ some_sites spots (sym all ∙ c.if-all.false)) (c.loop-site.invariant plain)
