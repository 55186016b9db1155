use Rattle.std.proofs.Common.{◌≡◌, ◌∙◌, ◌+◌, ◌++◌, ◌∷◌, [], List, ap, arith, ℕ}
use Rattle.std.specs.List.{range_with_len}
use Rattle.occ_project_graph.proofs.Numbered.{range_next}
use Rattle.occ_project_graph.proofs.numbering.first_numbers.Goals as goal

pub loop-number-preserved : goal.loop-number-preserved
loop-number-preserved c =
    let n : ℕ = c.loop-number.number in
    let e : n ≡ 0 + n = omega arith in
    c.in_ok-push.ensures.items ∙ ap (λ (ns : List ℕ). ns ++ n ∷ []) c.loop-number.invariant ∙ ap (λ (m : ℕ). range_with_len 0 n ++ m ∷ []) e ∙ range_next 0 n
