use Rattle.std.proofs.Common.{◌≡◌, ◌∙◌, ◌<◌, List, length, Some, ap, ℕ, false, subst}
use Rattle.std.specs.Str.{bytes_eq}
use Rattle.occ_project.specs.Entries.{is_among}
use Rattle.occ_project.specs.declared.reads.Read.{Read}
use Rattle.occ_project_units.proofs.OtherReaders.{alone_readers}
use Rattle.occ_project_units.proofs.graph.Graph.is_read_by_no_other.Goals as goal
use Rattle.occ_project_units.specs.Along.{name_at}
use Rattle.occ_project_units.specs.Project.{IsProject}
use Rattle.occ_project_units.specs.Units.{read_names}
use Rattle.occ_project_units.specs.inside.Keeping.{AreLookersIf}

pub does_none_read-requires : goal.does_none_read-requires
does_none_read-requires c = subst (λ (fs : List Read). AreLookersIf fs (Some c.in-Some.lookers)) c.self.view_is (subst (AreLookersIf c.self.inside.project) c.in-Some.is c.self.invariant.lookers_are)

pub returns-in-Some : goal.returns-in-Some
returns-in-Some c = λ h.
    alone_readers c.args.self.now (subst IsProject c.self.view_is c.files-files.ensures.in_order) c.args.index c.requires
    (subst (λ (name : List ℕ). (q : ℕ) → q < length c.args.self.now → bytes_eq (name_at c.args.self.now q) name ≡ false → is_among (read_names c.args.self.now (name_at c.args.self.now q)) name ≡ false)
    (c.name_at.ensures ∙ ap (λ (fs : List Read). name_at fs c.args.index) c.self.view_is) (c.does_none_read.ensures h))
