use Rattle.std.proofs.Common.{◌≡◌, ◌<◌, ◌∷◌, [], ◌++◌, length, get_or, sum_by, Some, None, sym, ap, ◌∙◌, subst, arith}
use Rattle.std.proofs.lemmas.List.{length_push}
use Rattle.std.proofs.lemmas.List.Sums.{sum_by-set}
use Rattle.bench.specs.Bounds.{site_count}
use Rattle.bench.specs.Ranges.{Site}
use Rattle.bench.specs.States.{on_spot}
use Rattle.few.specs.Held.{held}
use Rattle.few.proofs.Pushing.{push_fits, push_adds}
use Rattle.benches.specs.Spots.{all_free}
use Rattle.benches.specs.declared.placement.Placement.{Placement}
use Rattle.benches.specs.Laid.{after}
use Rattle.benches.specs.LaidLemmas.{laid_push, length_after, room}
use Rattle.benches.specs.declared.log.Log.{Log}
use Rattle.benches.proofs.log.record.LogSites.put.Goals as goal

-- a log of which a site is free has room
has_room : (l : Log) (site : Site) → get_or (after (held l.placements)) site.value None ≡ None → length (held l.placements) < site_count
has_room l site e =
    let long = length_after (held l.placements) in
    omega (arith, l.apart, long, room (after (held l.placements)) site.value (omega (arith, long, site.within)) e)

-- one placement more, on a free site, takes one site more
one_more : (l : Log) (p : Placement) → get_or (after (held l.placements)) p.site.value None ≡ None → sum_by on_spot (after (held l.placements ++ p ∷ [])) ≡ length (held l.placements ++ p ∷ [])
one_more l p e =
    let ps = held l.placements in
    let long = length_after ps in
    let here : p.site.value < length (after ps) = omega (arith, long, p.site.within) in
    let none : on_spot (get_or (after ps) p.site.value None) ≡ 0 = ap on_spot e in
    subst (λ s. sum_by on_spot s ≡ length (ps ++ p ∷ [])) (sym (laid_push ps p all_free)) (omega (arith, l.apart, length_push ps p, sum_by-set on_spot (after ps) p.site.value (Some p.part) None here))

pub unwrap-requires : goal.unwrap-requires
unwrap-requires c =
    let l = c.args.self.now in
    push_fits site_count (held l.placements) _ c.push.result _ (has_room l c.args.site c.requires) c.push.ensures

pub invariant_of-self : goal.invariant_of-self
invariant_of-self c =
    let l = c.args.self.now in
    let p : Placement = record { site = c.args.site; part = c.args.part } in
    let is = push_adds site_count (held l.placements) _ c.push.result _ (has_room l c.args.site c.requires) c.push.ensures in
    record { apart = subst (λ ps. sum_by on_spot (after ps) ≡ length ps) (sym is) (one_more l p c.requires) }

pub returns : goal.returns
returns c =
    let l = c.args.self.now in
    let is = push_adds site_count (held l.placements) _ c.push.result _ (has_room l c.args.site c.requires) c.push.ensures in
    ap after is ∙ laid_push (held l.placements) (record { site = c.args.site; part = c.args.part }) all_free
