use Rattle.std.proofs.Common.{◌∙◌, sym}
use Rattle.occ_editor.proofs.Same.{found}
use Rattle.occ_editor.proofs.room.has_diag.Goals as goal

pub returns : goal.returns
returns c = λ is. found c.args.diags.now c.args.diag.now c.binary_search.result c.binary_search.ensures.bound c.binary_search.ensures.ok (sym c.is_ok.ensures.value ∙ is)
