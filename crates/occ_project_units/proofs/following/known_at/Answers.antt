use Rattle.std.proofs.Common.{IfSome, Option, ◌≡◌, ◌∙◌, ap, not, sym, subst}
use Rattle.std.specs.Str.{bytes_eq}
use Rattle.occ_project.specs.declared.reads.Read.{Read}
use Rattle.occ_project_units.proofs.Sharing.{known_by}
use Rattle.occ_project_units.proofs.following.known_at.Goals as goal
use Rattle.occ_project_units.specs.declared.facts.Facts.{Facts}
use Rattle.occ_project_units.specs.inside.Keeping.{facts_of}

pub returns : goal.returns
returns c =
    subst (λ (o : Option Facts). IfSome o (λ known. known ≡ facts_of c.args.files.now c.args.name)) (sym c.at-2.ensures)
    (known_by c.args.files.now c.args.facts.now c.args.index c.in_ok-at.field-0.now c.args.name c.ne.result c.requires (sym c.in_ok-at.ensures) (c.ne.ensures ∙ ap (λ (f : Read). not (bytes_eq f.name c.args.name)) c.get.ensures) c.if-ne.false)
