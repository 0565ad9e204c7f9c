use Rattle.std.proofs.Common.{◌≡◌, None, reverse, ◌∙◌, sym, ap, rules}
use Rattle.std.proofs.lemmas.List.{get_or-replicate}
use Rattle.std.specs.List.{find}
use Rattle.bench.specs.Bounds.{site_count}
use Rattle.std.specs.Option.{option_map}
use Rattle.std.proofs.lemmas.Iterator.Search.{find_from_yields_List}
use Rattle.std.proofs.lemmas.Iterator.Adapters.{YieldsList-from_rev_slice}
use Rattle.few.specs.Held.{held}
use Rattle.benches.specs.Spots.{all_free}
use Rattle.benches.proofs.Found.{on, found_or, found}
use Rattle.benches.proofs.log.record.LogSites.at.Goals as goal

pub returns : goal.returns
returns c =
    let ps = held c.args.self.now.placements in
    let got = find_from_yields_List (on c.args.site.value) _ _ c.find.result c.find.ensures.ran (YieldsList-from_rev_slice ps (search rules)) (λ x b q k. search rules) in
    let part : c.map.result ≡ found_or None (option_map (λ x. x.now) c.find.result) = search rules in
    part
    ∙ ap (found_or None) got
    ∙ ap (λ was. found_or was (find (on c.args.site.value) (reverse ps))) (sym (get_or-replicate site_count c.args.site.value None None c.args.site.within))
    ∙ found c.args.site.value ps all_free c.args.site.within
