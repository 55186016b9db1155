use Rattle.std.proofs.Common.{arith, ap, get_or, sym, subst, Some, List, ℕ, ◌≡◌, ◌∙◌, ◌≤◌, length, Option}
use Rattle.std.specs.Option.{option_map}
use Rattle.occ_board.proofs.Nexts.{first_found, first_none, first_passed, job_there, file_there, name_of, next_behind, next_is, one_passed}
use Rattle.occ_board.proofs.taking.next_unit.Goals as goal
use Rattle.occ_board.specs.inside.Ready.{HasJob, is_next}
use Rattle.occ_project.specs.declared.reads.Read.{Read}
use Rattle.occ_check.specs.Checks.{input}
use Rattle.occ_project_units.specs.Project.{IsProject}

pub loop-index-init : goal.loop-index-init
loop-index-init c = (next_behind c.args.graph.now c.args.cached.now c.args.handed.now c.args.from c.requires.from, c.requires.from)

pub returns-then-is_next-clause-next : goal.returns-then-is_next-clause-next
returns-then-is_next-clause-next c =
    sym (
    next_is c.args.graph.now c.args.cached.now c.args.handed.now
    ∙ ap (λ (o : Option Read). option_map (λ (file : Read). input c.args.graph.now file.name) o)
    (first_found (is_next c.args.graph.now c.args.cached.now c.args.handed.now) c.args.graph.now c.files-files.result.now (c.files-files.ensures.files ∙ c.project.ensures) c.loop-index.index c.loop-index.invariant.0 c.get-file.result.now c.loop-index-test.true (subst (λ (file : Read). file ≡ get_or c.files-files.result.now c.loop-index.index file) (sym c.get-file.ensures) c.index-files-index.is)
    (sym c.if-is_next.ensures))
    ∙ ap (λ (u : List ℕ). Some (input c.args.graph.now u)) (sym (name_of c.args.graph.now c.files-files.result.now c.loop-index.index c.get-file.result.now (c.files-files.ensures.files ∙ c.project.ensures) c.loop-index-test.true (subst (λ (file : Read). file ≡ get_or c.files-files.result.now c.loop-index.index file) (sym c.get-file.ensures) c.index-files-index.is))))

pub returns-then-is_next-clause-job : goal.returns-then-is_next-clause-job
returns-then-is_next-clause-job c =
    subst (λ (u : List ℕ). HasJob c.args.graph.now c.args.cached.now u) (sym (name_of c.args.graph.now c.files-files.result.now c.loop-index.index c.get-file.result.now (c.files-files.ensures.files ∙ c.project.ensures) c.loop-index-test.true (subst (λ (file : Read). file ≡ get_or c.files-files.result.now c.loop-index.index file) (sym c.get-file.ensures) c.index-files-index.is)))
    (job_there c.args.graph.now c.files-files.result.now c.args.cached.now c.args.handed.now c.loop-index.index c.get-file.result.now (subst IsProject c.project.ensures c.files-files.ensures.in_order) (c.files-files.ensures.files ∙ c.project.ensures) c.loop-index-test.true
    (subst (λ (file : Read). file ≡ get_or c.files-files.result.now c.loop-index.index file) (sym c.get-file.ensures) c.index-files-index.is) (sym c.if-is_next.ensures))

pub returns-then-is_next-clause-within : goal.returns-then-is_next-clause-within
returns-then-is_next-clause-within c =
    let same = ap length (c.files-files.ensures.files ∙ c.project.ensures) in
    let lt = c.loop-index-test.true in
    omega (arith, lt, same)

pub loop-index-preserved : goal.loop-index-preserved
loop-index-preserved c = (
  first_passed (is_next c.args.graph.now c.args.cached.now c.args.handed.now) c.args.graph.now c.files-files.result.now (c.files-files.ensures.files ∙ c.project.ensures) c.loop-index.index c.loop-index.invariant.0 c.get-file.result.now c.loop-index-test.true (subst (λ (file : Read). file ≡ get_or c.files-files.result.now c.loop-index.index file) (sym c.get-file.ensures) c.index-files-index.is)
      (sym c.if-is_next.ensures),
  one_passed c.args.graph.now c.args.cached.now c.args.handed.now c.loop-index.index c.get-file.result.now
      (file_there c.args.graph.now c.files-files.result.now c.loop-index.index c.get-file.result.now (c.files-files.ensures.files ∙ c.project.ensures) c.loop-index-test.true (subst (λ (file : Read). file ≡ get_or c.files-files.result.now c.loop-index.index file) (sym c.get-file.ensures) c.index-files-index.is))
      (sym c.if-is_next.ensures) c.loop-index.invariant.1,
)

pub returns-clause-next : goal.returns-clause-next
returns-clause-next c =
    let over : length c.files-files.result.now ≤ c.loop-index.index = omega (arith, c.loop-index-test.false) in
    sym (
    next_is c.args.graph.now c.args.cached.now c.args.handed.now
    ∙ ap (λ (o : Option Read). option_map (λ (file : Read). input c.args.graph.now file.name) o)
    (first_none (is_next c.args.graph.now c.args.cached.now c.args.handed.now) c.args.graph.now c.files-files.result.now (c.files-files.ensures.files ∙ c.project.ensures) c.loop-index.index c.loop-index.invariant.0 over))
