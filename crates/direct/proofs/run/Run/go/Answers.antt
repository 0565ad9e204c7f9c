use Rattle.std.proofs.Common.{◌≡◌, Some, None, Ok, Err, sym, ap, refl, subst, w32, to_z, of_z, rules}
use Rattle.direct.proofs.Calling.{by_go, by_too_far, went_kept}
use Rattle.direct.proofs.run.Run.go.Given as given
use Rattle.direct.proofs.run.Run.go.Goals as goal
use Rattle.direct.proofs.run.Run.go.Goals.{In_default}
use Rattle.direct.specs.Keeping.{run_at}
use Rattle.direct.specs.Machines.{state_of}
use Rattle.direct.specs.Programs.{records_in}
use Rattle.direct.specs.Stands.{go_answer}
use Rattle.direct.specs.declared.gone.Gone.{Gone}
use Rattle.language.specs.Asked.{Asked}
use Rattle.language.specs.Calls.{Stand, go, over}
use Rattle.language.specs.Direct.{DirectCalls}
use Rattle.language.specs.Progress.{progressed}
use Rattle.language.specs.Reachable.{Reachable, ReachableRun}
use Rattle.language.specs.Runs.{State, running, ended}

pub returns-in_err-most-clause-calls : goal.returns-in_err-most-clause-calls
returns-in_err-most-clause-calls g c =
    let same : to_z w32 (of_z w32 c.args.count) ≡ c.args.count = search rules in
    let none : c.beats_asked.result ≡ None = search rules in
    (0, by_too_far _ (run_at c.args.self.now) c.args.count c.beats_asked.result c.from_residual.result refl none (subst (λ z. Asked z c.beats_asked.result) same c.beats_asked.ensures) (search rules))

pub returns-in-Err-clause-calls : goal.returns-in-Err-clause-calls
returns-in-Err-clause-calls g c =
    let same : to_z w32 (of_z w32 c.args.count) ≡ c.args.count = search rules in
    let some : c.beats_asked.result ≡ Some c.in_ok-most.most = search rules in
    let asked = subst (Asked c.args.count) some (subst (λ z. Asked z c.beats_asked.result) same c.beats_asked.ensures) in
    let s = state_of c.args.self.now.machine in
    let x : Stand State = record { table = Some (records_in c.args.program.now); run = Some (run_at c.args.self.now); bench = g.B.Bench.state c.args.bench.now } in
    let start : x.run ≡ Some (ended c.in-Err.ending) = ap (λ v. Some (progressed v s)) c.in-Err.is in
    let told : Gone = record { progress = Err c.in-Err.ending; beats = 0 } in (
      0,
      subst (λ r. DirectCalls x (go c.args.count) (go_answer (Ok told) 0) (record { table = x.table; run = r; bench = x.bench })) (sym start)
          (by_go x (records_in c.args.program.now) (ended c.in-Err.ending) c.args.count c.in_ok-most.most refl start asked told s x.bench 0 over),
    )

reached : (g : given.Over) (c : In_default g) → Reachable (records_in c.args.program.now) (state_of c.args.self.now.machine)
reached g c = subst (λ v. ReachableRun (records_in c.args.program.now) (progressed v (state_of c.args.self.now.machine))) c.in_default.is c.requires

pub go-gone-requires : goal.go-gone-requires
go-gone-requires g c = reached g (goal.at.go-gone-requires g c).In_default

pub returns-clause-kept : goal.returns-clause-kept
returns-clause-kept g c =
    let here = reached g (goal.at.returns-clause-kept g c).In_default in
    went_kept c.args.program.now c.in_ok-most.most (state_of c.args.self.now.machine) (state_of c.go-gone.new.self) _ _ c.go-gone.result here c.go-gone.ensures

pub returns-clause-calls : goal.returns-clause-calls
returns-clause-calls g c =
    let same : to_z w32 (of_z w32 c.args.count) ≡ c.args.count = search rules in
    let some : c.beats_asked.result ≡ Some c.in_ok-most.most = search rules in
    let asked = subst (Asked c.args.count) some (subst (λ z. Asked z c.beats_asked.result) same c.beats_asked.ensures) in
    let went = c.go-gone.ensures in
    let start = ap (λ v. Some (progressed v (state_of c.args.self.now.machine))) c.in_default.is in
    (went.steps, by_go _ (records_in c.args.program.now) (running (state_of c.args.self.now.machine)) c.args.count c.in_ok-most.most refl start asked c.go-gone.result (state_of c.go-gone.new.self) _ went.steps went.goes)
