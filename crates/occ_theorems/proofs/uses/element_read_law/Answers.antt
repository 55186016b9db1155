use Rattle.std.proofs.Common.{◌∙◌, ◌++◌, Option, ap}
use Rattle.std.proofs.lemmas.List.{append-nil}
use Rattle.occ_usage_values.specs.Calls.{made}
use Rattle.occ_usage_values.specs.Views.{element_view}
use Rattle.occ_usage_parts.specs.declared.place.SelectedPart.{SelectedPart}
use Rattle.occ_types.specs.declared.interface.UseKind.TheVariants as kind
use Rattle.occ_usage_values.proofs.Views.{expr_element_uses}
use Rattle.occ_theorems.proofs.uses.element_read_law.Goals as goal

pub returns-clause-not_used : goal.returns-clause-not_used
returns-clause-not_used c el env line none =
    expr_element_uses el env line
    ∙ ap (λ (p : Option SelectedPart). (element_view el).uses env line ++ made line kind.Read p) none
    ∙ append-nil ((element_view el).uses env line)
