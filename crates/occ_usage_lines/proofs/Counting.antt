-- Exports are as many specifications.
use Rattle.std.proofs.Common.{◌≡◌, ◌∙◌, ◌+◌, ℕ, suc, List, [], ◌∷◌, ◌++◌, length, length-append, refl, ap, append_assoc}
use Rattle.occ_usage_values.specs.Bounds.{Env}
use Rattle.occ_usage_lines.specs.Entering.{export_bounds, interface_bounds}
use Rattle.occ_project.specs.declared.expanded.Location.{Location}
use Rattle.occ_types.specs.declared.interface.Export.{Export}
use Rattle.occ_types.specs.declared.interface.Interface.{Interface}

export_count : (n : ℕ) (line : Location) (xs : List Export) → length (export_bounds n line xs) ≡ length xs
export_count n line [] = refl
export_count n line (x ∷ xs) = ap suc (export_count (n + 1) line xs)

pub step_interfaces : (line : Location) (env entered whole : Env) (i : Interface) (is : List Interface)
    → env ++ interface_bounds (length env) line (i ∷ is) ≡ whole
    → entered ≡ env ++ export_bounds (length env) line i.exports
    → entered ++ interface_bounds (length entered) line is ≡ whole
step_interfaces line env entered whole i is before e =
    let more = export_bounds (length env) line i.exports in
    let n : length entered ≡ length env + length i.exports = ap length e ∙ length-append env more ∙ ap (λ (z : ℕ). length env + z) (export_count (length env) line i.exports) in
    ap (λ (z : ℕ). entered ++ interface_bounds z line is) n
    ∙ ap (λ (z : Env). z ++ interface_bounds (length env + length i.exports) line is) e
    ∙ append_assoc env more (interface_bounds (length env + length i.exports) line is)
    ∙ before
