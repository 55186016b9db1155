use Rattle.std.proofs.Common.{◌≡◌, ◌∙◌, ◌++◌, ◌∷◌, List, [], append_assoc, drop, ltb, rules, take, ℕ}
use Rattle.std.proofs.lemmas.List.Sorted.{IsPartitionPoint-from_clause}
use Rattle.occ_project_units.proofs.OtherReaders.{comes_between}
use Rattle.occ_project_units.proofs.readers.with_index.Goals as goal

pub returns : goal.returns
returns c =
    let front : List ℕ = take c.partition_point.result c.args.others.now in
    let rest : List ℕ = drop c.partition_point.result c.args.others.now in
    let joined : c.extend_from_slice-2.new.self.items ≡ (front ++ c.args.index ∷ []) ++ rest = search rules in
    λ before behind e h k.
    comes_between c.args.index c.partition_point.result c.args.others.now c.from_vec.result c.partition_point.ensures.bound (c.from_vec.ensures ∙ joined ∙ append_assoc front (c.args.index ∷ []) rest)
    (λ parted. IsPartitionPoint-from_clause (λ q. ltb q c.args.index) _ _ c.partition_point.ensures.partitioned parted (λ a r f k. search rules)) before behind e h k
