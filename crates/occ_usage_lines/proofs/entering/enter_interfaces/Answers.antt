use Rattle.std.proofs.Common.{◌≡◌, ◌∙◌, ◌∷◌, ◌++◌, ◌+◌, List, drop, length, ap, sym, arith}
use Rattle.std.proofs.lemmas.List.{drop_more}
use Rattle.occ_usage_lines.proofs.Counting.{step_interfaces}
use Rattle.occ_usage_lines.proofs.entering.enter_interfaces.Goals as goal
use Rattle.occ_usage_lines.specs.Entering.{export_bounds, interface_bounds}
use Rattle.occ_types.specs.declared.interface.Export.{Export}
use Rattle.occ_types.specs.declared.interface.Interface.{Interface}

pub loop-interface-preserved : goal.loop-interface-preserved
loop-interface-preserved c =
    let all = c.args.interfaces.now in
    let i = c.loop-interface.interface-index in
    let one = c.interface-item.result in
    let d : drop i all ≡ one ∷ drop (i + 1) all = drop_more all i one (omega arith) ∙ ap (λ (z : Interface). z ∷ drop (i + 1) all) (sym c.interface-item.is) in
    step_interfaces c.args.line.now c.loop-interface.env c.enter_exports.new.env _ one (drop (i + 1) all)
    (ap (λ (z : List Interface). c.loop-interface.env ++ interface_bounds (length c.loop-interface.env) c.args.line.now z) (sym d) ∙ c.loop-interface.invariant)
    (c.in_ok-enter_exports.ensures
    ∙ ap (λ (z : List Export). c.loop-interface.env ++ export_bounds (length c.loop-interface.env) c.args.line.now z) (c.as_slice.ensures ∙ ap (λ (z : Interface). z.exports) c.get.ensures))
