use Rattle.std.proofs.Common.{rules, ◌≡◌, ◌∙◌, ◌∷◌, ◌++◌, [], Bool, ap, not}
use Rattle.std.specs.Prelude.{◌||◌}
use Rattle.occ_usage_parts.specs.Keeping.{meets_some}
use Rattle.occ_usage_parts.specs.Parts.{are_apart}
use Rattle.occ_usage_parts.specs.inside.Paths.{APath, ended, parts_in}
use Rattle.occ_usage_parts.proofs.Fronts.{pushed_meets}
use Rattle.occ_usage_parts.proofs.paths.add_path.Goals as goal

pub returns-clause-ok : goal.returns-clause-ok
returns-clause-ok c q =
    let new : APath = c.add.new.self in
    let pushed : c.push.new.self.items ≡ c.args.paths.now.items ++ new ∷ [] = search rules in
    let one : meets_some new.1 q ≡ not (are_apart (ended c.args.front.now c.args.last) q) = search rules in
    ap (λ ps. meets_some (parts_in ps) q) pushed ∙ pushed_meets c.args.paths.now.items new q ∙ ap (λ (b : Bool). meets_some (parts_in c.args.paths.now.items) q || b) one
