use Rattle.std.proofs.Common.{rules, ◌≡◌}
use Rattle.occ_usage_parts.specs.inside.Paths.{parts_of}
use Rattle.occ_usage_parts.proofs.Asking.{on_err, on_ok}
use Rattle.occ_usage_parts.proofs.Fronts.{path_added, path_fewer}
use Rattle.occ_usage_parts.proofs.path.Path.add.Goals as goal

pub returns-in-Some-clause-ok : goal.returns-in-Some-clause-ok
returns-in-Some-clause-ok c =
    let view : c.args.self.now ≡ (c.self.inside.front, parts_of c.self.inside.front c.self.inside.is_whole c.self.inside.places) = search rules in
    on_ok c.add.result (λ law. path_added c.args.self.now c.self.inside.is_whole c.self.inside.front c.self.inside.places c.add.new.self c.args.last c.in-Some.interval view c.in-Some.is law) c.add.ensures.ok

pub returns-in-Some-clause-err : goal.returns-in-Some-clause-err
returns-in-Some-clause-err c =
    let view : c.args.self.now ≡ (c.self.inside.front, parts_of c.self.inside.front c.self.inside.is_whole c.self.inside.places) = search rules in
    on_err c.add.result (λ law. path_fewer c.args.self.now c.self.inside.is_whole c.self.inside.front c.self.inside.places c.add.new.self view law) c.add.ensures.err
