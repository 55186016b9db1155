use Rattle.std.proofs.Common.{◌≡◌, ◌∙◌, ◌++◌, ◌∷◌, [], List, ap, false, sym, ℕ}
use Rattle.occ_project_graph.specs.Graph.{is_among}
use Rattle.occ_project_graph.specs.inside.Linking.{others, rests_kept}
use Rattle.occ_project_graph.proofs.Free.{all_others}
use Rattle.occ_project_graph.proofs.resting.add_rests.Goals as goal

pub returns-else-is_one-clause-ok : goal.returns-else-is_one-clause-ok
returns-else-is_one-clause-ok c =
    let none : is_among c.args.targets.now c.args.number ≡ false = sym c.is_one.ensures ∙ c.if-is_one.false in
    ap (rests_kept (c.args.edges.now ++ c.args.targets.now ∷ [])) c.in_default.is
    ∙ ap (λ (ws : List ℕ). c.args.edges.now ++ ws ∷ []) (sym (all_others c.args.number c.args.targets.now none))
    ∙ ap (λ (g : List (List ℕ)). g ++ others c.args.number c.args.targets.now ∷ []) (sym (ap (rests_kept c.args.edges.now) c.in_default.is))
