use Rattle.std.proofs.Common.{◌≡◌, ◌∙◌, ◌<◌, Bool, List, Some, ap, arith, get_or, length, rules, subst, sym, ℕ}
use Rattle.std.proofs.lemmas.Bool.{eqb-true}
use Rattle.occ_board.proofs.Idle.{none_ready}
use Rattle.occ_board.proofs.Nexts.{name_of, passed_by}
use Rattle.occ_board.proofs.board.Board.next_job.Goals as goal
use Rattle.occ_board.specs.Done.{pending_units}
use Rattle.occ_board.specs.Machine.{State, next_input, pending_answer, take_answer}
use Rattle.occ_board.specs.inside.Ready.{HasJob, NoneIsNext, NoneIsReady}
use Rattle.occ_check.specs.Checks.{input}
use Rattle.occ_check.specs.Input.{Input}
use Rattle.occ_project_units.specs.Along.{name_at}
use Rattle.occ_project.specs.declared.reads.Read.{Read}
use Rattle.occ_project_units.specs.Project.{IsProject}

pub invariant_of-self : goal.invariant_of-self
invariant_of-self c =
    let project : IsProject c.self.inside.graph = subst IsProject c.project.ensures c.files-files.ensures.in_order in
    let none : length (pending_units c.self.inside.graph c.self.inside.cached) ≡ 0 =
    ap (λ (fs : List Read). length (pending_units fs c.self.inside.cached)) c.self.invariant.0.files_are ∙ ap (λ (s : State). pending_answer s) c.self.view_is ∙ sym c.pending.ensures ∙ eqb-true c.pending.result 0 (search rules)
    in (
      c.self.invariant.0,
      c.pass.ensures c.self.inside.graph c.self.inside.flags (none_ready c.self.inside.graph c.self.inside.cached c.self.inside.flags project c.self.invariant.0.flags_are none _) c.self.invariant.1,
      c.self.invariant.2,
      c.self.invariant.3,
    )

pub next_unit-next-requires-clause-from : goal.next_unit-next-requires-clause-from
next_unit-next-requires-clause-from c =
    let files : List Read = c.self.inside.graph in
    let project : IsProject files = subst IsProject c.project.ensures c.files-files.ensures.in_order in
    subst (λ (hs : List Input). NoneIsNext files c.self.inside.cached hs c.greater.result) (sym c.as_slice-2.ensures.value)
    (passed_by files c.self.inside.cached c.self.inside.handed.items c.self.inside.flags c.first_ready-from.result c.self.inside.passed c.greater.result project c.self.invariant.0.flags_are
    (subst (λ (fs : List Bool). NoneIsReady files fs c.first_ready-from.result) c.as_slice.ensures c.first_ready-from.ensures.before) c.self.invariant.3 c.greater.ensures)

pub job-requires : goal.job-requires
job-requires c =
    let files : List Read = c.self.inside.graph in
    let same : c.files-2.result.now ≡ files = c.files-2.ensures.files ∙ c.project-2.ensures in
    let wide = ap (length {A = Read}) same in
    let within = c.in-Some.ensures.within in
    let lt : c.in-Some.index < length c.files-2.result.now = omega (arith, within, wide) in
    let name : name_at files c.in-Some.index ≡ c.get.result.now.name =
    name_of files c.files-2.result.now c.in-Some.index c.get.result.now same lt (subst (λ (file : Read). file ≡ get_or c.files-2.result.now c.in-Some.index file) (sym c.get.ensures) c.index-files-index.is) in
    subst (λ (fs : List Read). HasJob fs c.self.inside.cached c.get.result.now.name) c.self.invariant.0.files_are
    (subst (λ (u : List ℕ). HasJob files c.self.inside.cached u) name c.in-Some.ensures.job)

pub returns-clause-next : goal.returns-clause-next
returns-clause-next c =
    let files : List Read = c.self.inside.graph in
    let same : c.files-2.result.now ≡ files = c.files-2.ensures.files ∙ c.project-2.ensures in
    let wide = ap (length {A = Read}) same in
    let within = c.in-Some.ensures.within in
    let lt : c.in-Some.index < length c.files-2.result.now = omega (arith, within, wide) in
    let name : name_at files c.in-Some.index ≡ c.get.result.now.name =
    name_of files c.files-2.result.now c.in-Some.index c.get.result.now same lt (subst (λ (file : Read). file ≡ get_or c.files-2.result.now c.in-Some.index file) (sym c.get.ensures) c.index-files-index.is) in
    ap (λ (i : Input). Some i) (c.in_ok-job.ensures ∙ ap (λ (fs : List Read). input fs c.get.result.now.name) (sym c.self.invariant.0.files_are) ∙ ap (input files) (sym name))
    ∙ c.in-Some.ensures.next
    ∙ ap (next_input files c.self.inside.cached) c.as_slice-2.ensures.value
    ∙ ap (λ (fs : List Read). next_input fs c.self.inside.cached c.self.inside.handed.items) c.self.invariant.0.files_are
    ∙ ap take_answer c.self.view_is
