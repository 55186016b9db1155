-- Jobs with one expansion that use the same units have one outcome.
use Rattle.std.proofs.Common.{◌≡◌, ◌∙◌, ◌++◌, List, ap}
use Rattle.occ_base.specs.declared.diag.Diag.{Diag}
use Rattle.occ_check.specs.Diagnostics.{diags_of, interface_of, judged}
use Rattle.occ_check.specs.Faults.{line_faults}
use Rattle.occ_check.specs.Input.{Input, expansion_in}
use Rattle.occ_check.specs.Language.{following, lines_judged}
use Rattle.occ_check.specs.Order.{in_order}
use Rattle.occ_check.specs.declared.language.Judgement.{Judgement}
use Rattle.occ_check.specs.declared.used.UsedUnit.{UsedUnit}
use Rattle.occ_base.specs.Errors.{has_error}
use Rattle.occ_project.specs.Expansion.{Expansion}
use Rattle.std.specs.Prelude.{None, if◌then◌else◌}

abbrev judged_by : Expansion → List UsedUnit → Judgement
judged_by expansion used = following (expansion.faults ++ line_faults used expansion.lines) (lines_judged expansion.lines used)

same_judged : (i j : Input) → expansion_in i ≡ expansion_in j → i.used ≡ j.used → judged i ≡ judged j
same_judged i j e u = ap (λ (x : Expansion). judged_by x i.used) e ∙ ap (judged_by (expansion_in j)) u

pub same_diags : (i j : Input) → expansion_in i ≡ expansion_in j → i.used ≡ j.used → diags_of i ≡ diags_of j
unfolding diags_of
same_diags i j e u = ap (λ (x : Judgement). in_order x.faults) (same_judged i j e u)

pub same_interface : (i j : Input) → expansion_in i ≡ expansion_in j → i.used ≡ j.used → interface_of i ≡ interface_of j
unfolding interface_of
same_interface i j e u =
    ap (λ (ds : List Diag). if has_error ds then None else (judged i).interface) (same_diags i j e u)
    ∙ ap (λ (x : Judgement). if has_error (diags_of j) then None else x.interface) (same_judged i j e u)
