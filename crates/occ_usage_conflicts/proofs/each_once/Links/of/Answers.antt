use Rattle.std.proofs.Common.{rules, ◌≡◌, ◌∙◌, ◌+◌, ◌++◌, ◌∷◌, ◌≤◌, [], ap, length, sym, take, slice_set, arith}
use Rattle.std.proofs.lemmas.List.{length-take-le, take_more}
use Rattle.occ_usage_values.specs.declared.uses.Use.{Use}
use Rattle.occ_usage_conflicts.specs.inside.Linking.{linked}
use Rattle.occ_usage_conflicts.specs.inside.Numbering.{bucket_of}
use Rattle.occ_usage_conflicts.proofs.Looking.{noted_use}
use Rattle.occ_usage_conflicts.proofs.each_once.Links.of.Goals as goal

pub loop-place-preserved : goal.loop-place-preserved
loop-place-preserved c =
    let within : c.loop-place.place ≤ length c.args.found.now = omega (arith, c.loop-place-test.true) in
    let size = length-take-le c.loop-place.place c.args.found.now within in
    let is : c.bucket_in-bucket.result ≡ bucket_of c.index-found-place.result (length c.loop-place.links.heads.items) = search rules in
    let noted : c.note.new.self.heads.items ≡ slice_set c.loop-place.links.heads.items c.bucket_in-bucket.result (c.loop-place.place + 1) = search rules in
    let noted_before : c.note.new.self.before.items ≡ c.loop-place.links.before.items ++ linked c.loop-place.links.heads.items c.bucket_in-bucket.result ∷ [] = search rules in
    let more : take (c.loop-place.place + 1) c.args.found.now ≡ take c.loop-place.place c.args.found.now ++ c.index-found-place.result ∷ []
    = take_more c.args.found.now c.loop-place.place c.index-found-place.result c.loop-place-test.true ∙ ap (λ (u : Use). take c.loop-place.place c.args.found.now ++ u ∷ []) (sym c.index-found-place.is) in
    noted_use _ _ _ _ _ _ c.index-found-place.result c.bucket_in-bucket.result c.loop-place.place c.loop-place.invariant is (sym size) noted noted_before more
