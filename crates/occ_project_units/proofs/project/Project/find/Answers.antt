use Rattle.std.proofs.Common.{List, subst, sym}
use Rattle.std.specs.Prelude.{MatchResult, Some, ◌≡◌}
use Rattle.occ_project.specs.Reads.{index}
use Rattle.occ_project.specs.declared.reads.Read.{Read}
use Rattle.occ_project_units.specs.New.{IsGap}
use Rattle.occ_project_units.specs.Project.{IsProject}
use Rattle.occ_project_units.proofs.project.Project.find.Goals as goal

pub find_in-requires : goal.find_in-requires
find_in-requires c = subst IsProject (sym c.as_slice.ensures.value) c.self.invariant

pub returns : goal.returns
returns c =
    subst (λ (fs : List Read). MatchResult c.find_in.result (λ at. index c.args.name fs ≡ Some at) (λ at. IsGap c.args.name fs at)) c.self.view_is
    (subst (λ (fs : List Read). MatchResult c.find_in.result (λ at. index c.args.name fs ≡ Some at) (λ at. IsGap c.args.name fs at)) c.as_slice.ensures.value c.find_in.ensures)
