use Rattle.occ_theorems.proofs.AtLines.{circle_only, circle_placed, reporting_of}
use Rattle.occ_theorems.proofs.Circles.{diags_report, diags_reported}
use Rattle.occ_theorems.proofs.projects.circular_use_law.Goals as goal

pub returns-clause-named : goal.returns-clause-named
returns-clause-named c = λ files u v project. diags_report files (c.circle_law.ensures files) u v (c.input_law.ensures.diags files u project) (c.reads_law.ensures.own files u)

pub returns-clause-placed : goal.returns-clause-placed
returns-clause-placed c = λ files u v line project. circle_placed files (c.circle_law.ensures files) u v line (c.input_law.ensures.diags files u project) (c.reads_law.ensures.own files u)

pub returns-clause-only : goal.returns-clause-only
returns-clause-only c = λ files u v project. diags_reported files (c.circle_law.ensures files) u v (c.input_law.ensures.diags files u project)

pub returns-clause-at_lines : goal.returns-clause-at_lines
returns-clause-at_lines c = λ files u v d project some among is named.
    let circle = diags_reported files (c.circle_law.ensures files) u v (c.input_law.ensures.diags files u project) some (reporting_of files u v d among is named) in
    circle_only files (c.circle_law.ensures files) u v d (c.input_law.ensures.diags files u project) (c.reads_law.ensures.own files u) some circle among is named
