-- The rules and their function agree; so each request has exactly one response.
use Rattle.std.proofs.Common.{◌≡◌, ℕ, zero, suc, ◌≤◌, get_or, ℤ, pos, negsuc, Some, None, Ok, Err, Option, sym, refl, ap, ◌∙◌, subst, inl, inr, arith}
use Rattle.std.proofs.lemmas.Int.{ints}
use Rattle.bench.specs.Bounds.{site_count, feeder_count, full_turn}
use Rattle.bench.specs.Ranges.{Site, Angle, Feeder, Outside, below_at, site_at, angle_at, feeder_at}
use Rattle.bench.specs.Sight.{Spot}
use Rattle.bench.specs.Actions.{on, numbered, action_of}
use Rattle.bench.specs.Respond.{Outcome, pick_into, place_on, drop_from, perform, attempt, respond}
use Rattle.bench.specs.Responds.{Answer, Responds}
use Rattle.bench.specs.Responds.Responds.{moves, moves_nowhere, turns, turns_nowhere, picks, picks_nowhere, picks_twice, picks_none, places, places_none, places_twice, looks, looks_nowhere, drops, drops_none, unknown}
use Rattle.bench.specs.Laws.{OneResponse, RespondResponds, FaultKeeps, AskedFor}
use Rattle.bench.specs.declared.action.Action.{Action}
use Rattle.bench.specs.declared.action.Action.TheVariants.{Move, Turn, Pick, Place, Look, Discard}
use Rattle.bench.specs.declared.fault.Fault.{Fault}
use Rattle.bench.specs.declared.fault.Fault.TheVariants.{NoOperation, NoSite, NoAngle, NoFeeder}
use Rattle.bench.specs.declared.state.State.{State}
use Rattle.bench.specs.declared.below.Below.{Below}
use Rattle.bench.proofs.Ranges.{below_in, below_out, Ranging, ranging}
use Rattle.bench.proofs.Ranges.Ranging.{inside, outside}

-- a request whose number is in range is tried; one whose number is not gets its fault
attempt_in : (s : State) (n : ℕ) (act : Below n → Action) (e : Fault) (x : Below n) → attempt s (on act e (below_at n (pos x.value))) ≡ perform s (act x)
attempt_in s n act e x = ap (λ o. attempt s (on act e o)) (sym (below_in n x.value x.within))

attempt_out : (s : State) (n : ℕ) (act : Below n → Action) (e : Fault) (y : ℤ) → Outside n y → attempt s (on act e (below_at n y)) ≡ (Err e, s)
attempt_out s n act e y h = ap (λ o. attempt s (on act e o)) (below_out n y h)

six : (m : ℕ) (y : ℤ) → 6 ≤ m → numbered m y ≡ Err NoOperation
six zero y k = absurd (omega arith)
six (suc zero) y k = absurd (omega arith)
six (suc (suc zero)) y k = absurd (omega arith)
six (suc (suc (suc zero))) y k = absurd (omega arith)
six (suc (suc (suc (suc zero)))) y k = absurd (omega arith)
six (suc (suc (suc (suc (suc zero))))) y k = absurd (omega arith)
six (suc (suc (suc (suc (suc (suc m)))))) y k = refl

no_action : (op y : ℤ) → Outside 6 op → action_of op y ≡ Err NoOperation
no_action (negsuc n) y h = refl
no_action (pos n) y (inl h) = absurd (omega (arith, ints, h))
no_action (pos n) y (inr h) = six n y (omega (arith, ints, h))

-- what a rule says, the function says
pub by_rule : (s : State) (op y : ℤ) (r : Answer) (t : State) → Responds s op y r t → respond s op y ≡ (r, t)
by_rule s op y r t (moves p) = attempt_in s site_count Move NoSite p
by_rule s op y r t (moves_nowhere h) = attempt_out s site_count Move NoSite y h
by_rule s op y r t (turns a) = attempt_in s full_turn Turn NoAngle a
by_rule s op y r t (turns_nowhere h) = attempt_out s full_turn Turn NoAngle y h
by_rule s op y r t (picks f e c) = attempt_in s feeder_count Pick NoFeeder f ∙ cc
by_rule s op y r t (picks_nowhere h) = attempt_out s feeder_count Pick NoFeeder y h
by_rule s op y r t (picks_twice f e) = attempt_in s feeder_count Pick NoFeeder f ∙ cc
by_rule s op y r t (picks_none f e c) = attempt_in s feeder_count Pick NoFeeder f ∙ cc
by_rule s op y r t (places e c) = cc
by_rule s op y r t (places_none e) = cc
by_rule s op y r t (places_twice e c) = cc
by_rule s op y r t (looks p) = attempt_in s site_count Look NoSite p
by_rule s op y r t (looks_nowhere h) = attempt_out s site_count Look NoSite y h
by_rule s op y r t (drops e) = cc
by_rule s op y r t (drops_none e) = cc
by_rule s op y r t (unknown h) = ap (attempt s) (no_action op y h)

abbrev Follows : State → ℤ → ℤ → Outcome → Type 0
Follows s op y o = Responds s op y o.0 o.1

move_follows : (s : State) (y : ℤ) (o : Option Site) → Ranging site_count y o → Follows s (pos 0) y (attempt s (on Move NoSite o))
move_follows s y o (inside p) = moves p
move_follows s y o (outside h) = moves_nowhere h

turn_follows : (s : State) (y : ℤ) (o : Option Angle) → Ranging full_turn y o → Follows s (pos 1) y (attempt s (on Turn NoAngle o))
turn_follows s y o (inside a) = turns a
turn_follows s y o (outside h) = turns_nowhere h

pick_into_follows : (s : State) (f : Feeder) (z : Option Feeder) (n : ℕ) → s.nozzle ≡ z → get_or s.counts f.value 0 ≡ n → Follows s (pos 2) (pos f.value) (pick_into s f z n)
pick_into_follows s f (Some g) n e c = picks_twice f e
pick_into_follows s f None zero e c = picks_none f e c
pick_into_follows s f None (suc n) e c = picks f e c

pick_follows : (s : State) (y : ℤ) (o : Option Feeder) → Ranging feeder_count y o → Follows s (pos 2) y (attempt s (on Pick NoFeeder o))
pick_follows s y o (inside f) = pick_into_follows s f s.nozzle (get_or s.counts f.value 0) refl refl
pick_follows s y o (outside h) = picks_nowhere h

place_follows : (s : State) (y : ℤ) (z : Option Feeder) (p : Spot) → s.nozzle ≡ z → get_or s.sites s.site.value None ≡ p → Follows s (pos 3) y (place_on s z p)
place_follows s y None p e c = places_none e
place_follows s y (Some f) (Some q) e c = places_twice e c
place_follows s y (Some f) None e c = places e c

look_follows : (s : State) (y : ℤ) (o : Option Site) → Ranging site_count y o → Follows s (pos 4) y (attempt s (on Look NoSite o))
look_follows s y o (inside p) = looks p
look_follows s y o (outside h) = looks_nowhere h

drop_follows : (s : State) (y : ℤ) (z : Option Feeder) → s.nozzle ≡ z → Follows s (pos 5) y (drop_from s z)
drop_follows s y None e = drops_none e
drop_follows s y (Some f) e = drops e

operation_follows : (s : State) (n : ℕ) (y : ℤ) → Follows s (pos n) y (attempt s (numbered n y))
operation_follows s zero y = move_follows s y (site_at y) (ranging site_count y)
operation_follows s (suc zero) y = turn_follows s y (angle_at y) (ranging full_turn y)
operation_follows s (suc (suc zero)) y = pick_follows s y (feeder_at y) (ranging feeder_count y)
operation_follows s (suc (suc (suc zero))) y = place_follows s y s.nozzle (get_or s.sites s.site.value None) refl refl
operation_follows s (suc (suc (suc (suc zero)))) y = look_follows s y (site_at y) (ranging site_count y)
operation_follows s (suc (suc (suc (suc (suc zero))))) y = drop_follows s y s.nozzle refl
operation_follows s (suc (suc (suc (suc (suc (suc n)))))) y = unknown (inr (omega (arith, ints)))

pub respond_responds : RespondResponds
respond_responds s (pos n) y = operation_follows s n y
respond_responds s (negsuc n) y = unknown (inl (omega (arith, ints)))

pub one_response : OneResponse
one_response s op y = (respond s op y, respond_responds s op y, λ o h. sym (by_rule s op y o.0 o.1 h))

-- what the function says is a rule's
pub from_respond : (s : State) (op y : ℤ) (r : Answer) (t : State) → r ≡ (respond s op y).0 → t ≡ (respond s op y).1 → Responds s op y r t
from_respond s op y r t e f = subst (λ q. Responds s op y q t) (sym e) (subst (Responds s op y (respond s op y).0) (sym f) (respond_responds s op y))

-- two responses to one request are one
pub same_answer : (s : State) (op y : ℤ) (r r' : Answer) (t t' : State) → Responds s op y r t → Responds s op y r' t' → r ≡ r'
same_answer s op y r r' t t' a b = ap (λ (o : Outcome). o.0) (sym (by_rule s op y r t a) ∙ by_rule s op y r' t' b)

pub same_after : (s : State) (op y : ℤ) (r r' : Answer) (t t' : State) → Responds s op y r t → Responds s op y r' t' → t ≡ t'
same_after s op y r r' t t' a b = ap (λ (o : Outcome). o.1) (sym (by_rule s op y r t a) ∙ by_rule s op y r' t' b)

pub fault_keeps : FaultKeeps
fault_keeps s op y f t (moves_nowhere h) = refl
fault_keeps s op y f t (turns_nowhere h) = refl
fault_keeps s op y f t (picks_nowhere h) = refl
fault_keeps s op y f t (picks_twice g e) = refl
fault_keeps s op y f t (picks_none g e c) = refl
fault_keeps s op y f t (places_none e) = refl
fault_keeps s op y f t (places_twice e c) = refl
fault_keeps s op y f t (looks_nowhere h) = refl
fault_keeps s op y f t (drops_none e) = refl
fault_keeps s op y f t (unknown h) = refl

-- the request for an action asks for it
asked_in : (n : ℕ) (act : Below n → Action) (e : Fault) (x : Below n) → on act e (below_at n (pos x.value)) ≡ Ok (act x)
asked_in n act e x = ap (on act e) (sym (below_in n x.value x.within))

pub asked_for : AskedFor
asked_for (Move p) = asked_in site_count Move NoSite p
asked_for (Turn a) = asked_in full_turn Turn NoAngle a
asked_for (Pick f) = asked_in feeder_count Pick NoFeeder f
asked_for Place = refl
asked_for (Look p) = asked_in site_count Look NoSite p
asked_for Discard = refl
