use Rattle.std.proofs.Common.{◌∙◌}
use Rattle.occ_theorems.proofs.AtLines.{diags_there, interface_there}
use Rattle.occ_theorems.proofs.projects.anew_law.Goals as goal

pub returns : goal.returns
returns c = record {
  diags = λ files u project unit. c.input_law.ensures.diags files u project ∙ diags_there files u unit (c.reads_law.ensures.own files u unit);
  interface = λ files u project unit. c.input_law.ensures.interface files u project ∙ interface_there files u unit (c.reads_law.ensures.own files u unit);
  input = λ files u unit. diags_there files u unit (c.reads_law.ensures.own files u unit);
}
