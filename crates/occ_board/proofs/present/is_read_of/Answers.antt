use Rattle.std.proofs.Common.{sym, ap, ◌∙◌, ◌≡◌, false}
use Rattle.occ_board.proofs.Indices.{file_named}
use Rattle.occ_board.proofs.Truths.{differ, not_both}
use Rattle.occ_board.proofs.present.is_read_of.Goals as goal
use Rattle.occ_project.specs.declared.reads.Read.{Read}

pub returns-else-eq : goal.returns-else-eq
returns-else-eq c =
    let no : c.eq.result ≡ false = c.if-eq.false in (
      λ h. absurd (not_both c.eq.result h no),
      λ e. absurd (differ c.args.read.now.name c.args.name (sym c.if-eq.ensures) (ap (λ (r : Read). r.name) e ∙ file_named c.args.project.now c.args.name)),
    )
