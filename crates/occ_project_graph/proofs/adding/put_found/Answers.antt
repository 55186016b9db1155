use Rattle.std.proofs.Common.{◌∙◌, ◌++◌, ◌∷◌, List, [], ap, subst, ℕ}
use Rattle.std.specs.Prelude.{Option}
use Rattle.occ_project_graph.specs.Graph.{Graph}
use Rattle.occ_project_graph.specs.inside.Linking.{AreLeading}
use Rattle.occ_project_graph.proofs.Pushed.{led_pushed}
use Rattle.occ_project_graph.proofs.adding.put_found.Goals as goal

pub returns-in_default : goal.returns-in_default
returns-in_default c = λ indices at number before led h e.
    let is = subst (λ (o : Option (List (List ℕ))). AreLeading indices at number c.args.nodes.now before led o) c.in_default.is h in
    led_pushed indices at number c.args.nodes.now before c.args.sources.now.items is.0 (e ∙ ap (λ (g : Graph). g ++ [] ∷ []) is.1)
