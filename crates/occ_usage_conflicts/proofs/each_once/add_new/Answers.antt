use Rattle.std.proofs.Common.{rules, ◌≡◌, ◌+◌, ◌++◌, ◌∷◌, [], length, refl, slice_set}
use Rattle.std.specs.Prelude.{OnOk}
use Rattle.occ_usage_conflicts.specs.inside.Linking.{linked}
use Rattle.occ_usage_conflicts.proofs.Accumulation.{on_ok}
use Rattle.occ_usage_conflicts.proofs.Looking.{noted_use}
use Rattle.occ_usage_conflicts.proofs.each_once.add_new.Goals as goal

pub returns-clause-links : goal.returns-clause-links
returns-clause-links c =
    let noted : c.note.new.self.heads.items ≡ slice_set c.args.links.now.heads.items c.args.bucket (length c.args.found.now + 1) = search rules in
    let noted_before : c.note.new.self.before.items ≡ c.args.links.now.before.items ++ linked c.args.links.now.heads.items c.args.bucket ∷ [] = search rules in
    let pushed : OnOk c.push.result (c.push.new.self ≡ c.args.found.now ++ c.args.one ∷ []) = search rules in
    on_ok c.push.result (λ e. noted_use _ _ _ _ _ _ c.args.one c.args.bucket (length c.args.found.now) c.requires.linked c.requires.bucket refl noted noted_before e) pushed
