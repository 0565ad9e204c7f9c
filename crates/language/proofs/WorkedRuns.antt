-- The worked runs: each table is well formed, its beats are those of the rules, and the steps follow by
-- the simulation.
use Rattle.std.proofs.Common.{◌≡◌, ℕ, zero, suc, ◌+◌, ◌<◌, ◌≤◌, List, [], ◌∷◌, length, get_or, replicate, ℤ, pos, negsuc, Some, Ok, sym, refl, ap, ◌∙◌, inr, arith, rules}
use Rattle.std.specs.List.{slice_get}
use Rattle.std.specs.Int.{int_wrap}
use Rattle.std.proofs.lemmas.List.{get_or-map, length-map}
use Rattle.std.proofs.lemmas.Int.{ints}
use Rattle.bench.specs.Bounds.{feeder_count}
use Rattle.bench.specs.Histories.History.{done as no_more, next}
use Rattle.bench.specs.Responds.{Responds, picks, picks_nowhere}
use Rattle.bench.specs.SetUps.{SetsUp, taken_over}
use Rattle.bench.specs.States.{picked}
use Rattle.bench.specs.declared.state.State.{State as Standing}
use Rattle.language.specs.Beats.{constant, request, fault, call, exhaust, goto, return, finish, raise, own, nobody}
use Rattle.language.specs.Bytes.{bytes}
use Rattle.language.specs.Calls.{over, more, loads, starts, goes}
use Rattle.language.specs.Continuation.{continuation_begin}
use Rattle.language.specs.Direct.{direct_begin, DirectGoes}
use Rattle.language.specs.Lines.{routine_place, Enters}
use Rattle.language.specs.Runs.{State, Run, running, ended, called_into, difference}
use Rattle.language.specs.Translated.{picking}
use Rattle.language.specs.WellFormed.{WellFormed, Holds}
use Rattle.language.specs.Worked.{Worked, feeder_3, returning, raising_after_call, raising_after_change, descending, WorkedRuns}
use Rattle.language.specs.declared.ending.Ending.{Ending}
use Rattle.language.specs.declared.ending.Ending.TheVariants.{Returned, Raised, Exhausted}
use Rattle.language.specs.declared.record.Record.{Record}
use Rattle.language.specs.declared.record.Record.TheVariants.{Routine}
use Rattle.language.proofs.CallSimulation.{goes_simulated}
use Rattle.language.proofs.DirectCalls.{begins_reached}
use Rattle.language.proofs.FormedTables.{written_out}

returning_formed : WellFormed returning
returning_formed = written_out returning (record { some = omega arith; few = omega arith; ranged = search rules }) (search rules) (0, 0, 1, refl) (omega arith) (omega arith) 0 (refl, refl)

picking_formed : WellFormed picking
picking_formed = written_out picking (record { some = omega arith; few = omega arith; ranged = search rules }) (search rules) (0, 1, 1, refl) (omega arith) (omega arith) 1 (refl, refl)

call_formed : WellFormed raising_after_call
call_formed = written_out raising_after_call (record { some = omega arith; few = omega arith; ranged = search rules }) (search rules) (0, 0, 1, refl) (omega arith) (omega arith) 0 (refl, refl)

change_formed : WellFormed raising_after_change
change_formed = written_out raising_after_change (record { some = omega arith; few = omega arith; ranged = search rules }) (search rules) (0, 0, 2, refl) (omega arith) (omega arith) 0 (refl, refl)

descending_formed : WellFormed descending
descending_formed = written_out descending (record { some = omega arith; few = omega arith; ranged = search rules }) (search rules) (0, 0, 1, refl) (omega arith) (omega arith) 0 (refl, refl)

-- a go in which the run ends is the same with more beats allowed
longer : (t : List Record) (n i m k : ℕ) (r : Run State) (e : Ending) (b b' : Standing) → n ≤ i → DirectGoes t n r b m k (ended e) b' → DirectGoes t i r b m k (ended e) b'
longer t n i m k r e b b' l over = over
longer t n zero m k r e b b' l (more d rest) = absurd (omega arith)
longer t n (suc i) m k r e b b' l (more {n = n'} {m = m'} {l = l'} {r = u} {b' = c} d rest) = more d (longer t n' i m' l' u e c b' (omega arith) rest)

-- from the beats of a table to both histories
works : (t : List Record) → WellFormed t → (j p q : ℕ) → Enters t 0 j p q → (vs : List ℤ) → length vs ≡ p → (b b' : Standing) (e : Ending) (m k : ℕ) →
    DirectGoes t m (running (direct_begin t j vs)) b m k (ended e) b' → Worked t vs b e m k b'
works t ok j p q d vs n b b' e m k g i long few =
    let γ = longer t m i m k (running (direct_begin t j vs)) e b b' long g in
    let σ = goes_simulated t ok i m k (running (direct_begin t j vs)) (ended e) b b' (begins_reached t ok j p q vs d) γ (pos 0) in
    let holds : Holds (bytes t) t = record { same = refl; legible = ok.legible } in (
      next (loads t holds ok) (next (starts t j refl d n) (next (goes t (running (direct_begin t j vs)) i refl refl few γ) no_more)),
      next (loads t holds ok) (next (starts t j refl d n) (next (goes t (running (continuation_begin t j vs)) i refl refl few σ.1) no_more)),
    )

main : {t : List Record} {p q : ℕ} → slice_get t 0 ≡ Some (Routine 0 p q) → routine_place t 0 ≡ Some 0 → Enters t 0 0 p q
main e f = record { first = f; there = e }

returns : (b : Standing) → Worked returning [] b (Returned (pos 0)) 1 1 b
returns b = works returning returning_formed 0 0 1 (main refl refl) [] refl b b (Returned (pos 0)) 1 1 (more (finish refl refl, refl) over)

keeps_handler : (b : Standing) → Worked raising_after_call [] b (Returned (pos 5)) 6 9 b
keeps_handler b = works raising_after_call call_formed 0 0 1 (main refl refl) [] refl b b (Returned (pos 5)) 6 9
    (more (goto 2 refl (record { first = refl; there = refl }), refl)
    (more (call 7 refl (omega arith) (record { first = refl; there = refl }), refl)
    (more (constant refl, refl)
    (more (return refl refl, refl)
    (more (raise refl (own 5 refl (record { first = refl; there = refl })), refl)
    (more (finish refl refl, refl) over))))))

keeps_variables : (b : Standing) → Worked raising_after_change [] b (Returned (pos 1)) 5 6 b
keeps_variables b = works raising_after_change change_formed 0 0 2 (main refl refl) [] refl b b (Returned (pos 1)) 5 6
    (more (constant refl, refl)
    (more (goto 3 refl (record { first = refl; there = refl }), refl)
    (more (constant refl, refl)
    (more (raise refl (own 6 refl (record { first = refl; there = refl })), refl)
    (more (finish refl refl, refl) over)))))

faults : (b : Standing) → Worked picking (pos 9 ∷ []) b (Raised (pos 43)) 2 5 b
faults b = works picking picking_formed 0 1 1 (main refl refl) (pos 9 ∷ []) refl b b (Raised (pos 43)) 2 5
    (more (call 3 refl (omega arith) (record { first = refl; there = refl }), refl)
    (more (fault refl (picks_nowhere (inr (omega (arith, ints)))) (nobody refl refl), refl) over))

pick_three : (b : Standing) → SetsUp (replicate feeder_count (pos 10)) (Ok tt) b → Responds b (pos 2) (pos 3) (Ok (pos 9)) (picked b feeder_3 9)
pick_three b (taken_over ns e within) =
    let long : length ns ≡ feeder_count = sym (ap length e ∙ length-map ns pos) in
    let third : pos 10 ≡ pos (get_or ns 3 0) = ap (λ zs. get_or zs 3 (pos 0)) e ∙ get_or-map pos ns 3 0 (pos 0) (omega arith) in
    let ten : get_or ns 3 0 ≡ 10 = cc in
    picks feeder_3 refl ten

picks_nine : (b : Standing) → SetsUp (replicate feeder_count (pos 10)) (Ok tt) b → Worked picking (pos 3 ∷ []) b (Returned (pos 9)) 4 6 (picked b feeder_3 9)
picks_nine b h = works picking picking_formed 0 1 1 (main refl refl) (pos 3 ∷ []) refl b (picked b feeder_3 9) (Returned (pos 9)) 4 6
    (more (call 3 refl (omega arith) (record { first = refl; there = refl }), refl)
    (more (request refl (pick_three b h), refl)
    (more (return refl refl, refl)
    (more (finish refl refl, refl) over))))

-- from depth d of 32 on, with n calls to come: each is three steps, and the last finds no room
abbrev steps_down : ℕ → ℕ
steps_down zero = 1
steps_down (suc n) = 3 + steps_down n

descends : (b : Standing) (n : ℕ) (s : State) → s.at ≡ 1 → length s.frames + n ≡ 32 → DirectGoes descending (suc n) (running s) b (suc n) (steps_down n) (ended Exhausted) b
descends b zero s a l = let full : 32 ≤ length s.frames = omega arith in more (exhaust (ap (slice_get descending) a) full, refl) over
descends b (suc n) s a l =
    let room : length s.frames < 32 = omega arith in
    more (call 0 (ap (slice_get descending) a) room (record { first = refl; there = refl }), refl) (descends b n (called_into s 0 0 0 []) refl (omega arith))

exhausts : (b : Standing) → Worked descending [] b Exhausted 33 97 b
exhausts b = works descending descending_formed 0 0 1 (main refl refl) [] refl b b Exhausted 33 97 (descends b 32 (direct_begin descending 0 []) refl refl)

wraps : difference (negsuc 2147483647) (pos 1) ≡ pos 2147483647
unfolding difference int_wrap
wraps = refl

pub worked_runs : WorkedRuns
worked_runs = record { returns = returns; picks = picks_nine; faults = faults; keeps_handler = keeps_handler; keeps_variables = keeps_variables; exhausts = exhausts; wraps = wraps; turns = refl }
