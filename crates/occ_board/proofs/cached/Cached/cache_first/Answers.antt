use Rattle.std.proofs.Common.{◌≡◌, ◌∙◌, ◌++◌, ◌∷◌, List, [], arith, None, Some, ap, length, rules, subst, sym}
use Rattle.std.specs.BTreeMap.{Updates}
use Rattle.std.specs.List.{slice_get}
use Rattle.std.specs.Prelude.{◌-◌, take, vec_len}
use Rattle.occ_board.proofs.Caches.{all_but_last, cached_last, last_there, indices_with, single_last}
use Rattle.occ_board.proofs.cached.Cached.cache_first.Goals as goal
use Rattle.occ_board.specs.Machine.{with_cached}
use Rattle.occ_board.specs.inside.Holding.{AreIndices, AreSingle, index_in}
use Rattle.occ_check.specs.Input.{Input}
use Rattle.occ_project.specs.Reads.{name_cmp}

pub invariant_of-self-else-is_err : goal.invariant_of-self-else-is_err
invariant_of-self-else-is_err c =
    let items : List Input = c.self.inside.outcomes.items in
    let more : c.push.new.self.items ≡ items ++ c.args.outcome ∷ [] = search rules in
    let updates : Updates name_cmp c.self.inside.indices c.insert.new.self c.unit-unit.result (Some c.len-index.result) = search rules in
    let none : index_in items c.args.outcome.unit ≡ None = ap (λ (is : List Input). index_in is c.args.outcome.unit) c.self.view_is ∙ c.requires in
    record {
      single = subst AreSingle (sym more) (single_last items c.args.outcome none c.self.invariant.single);
      indices_are = indices_with c.self.inside.indices c.insert.new.self items c.push.new.self.items c.args.outcome c.unit-unit.result c.len-index.result c.self.invariant.indices_are
          (ap (λ (is : List Input). index_in is c.args.outcome.unit) c.self.view_is ∙ c.requires) more (c.unit-unit.ensures.value ∙ ap (λ (i : Input). i.unit) c.job.ensures) (search rules) updates.0;
    }

pub returns-clause-cached : goal.returns-clause-cached
returns-clause-cached c =
    let items : List Input = c.self.inside.outcomes.items in
    let more : c.push.new.self.items ≡ items ++ c.args.outcome ∷ [] = search rules in
    let none : index_in items c.args.outcome.unit ≡ None = ap (λ (is : List Input). index_in is c.args.outcome.unit) c.self.view_is ∙ c.requires in
    more ∙ cached_last items c.args.outcome none ∙ ap (λ (is : List Input). with_cached is c.args.outcome) c.self.view_is

pub returns-clause-index : goal.returns-clause-index
returns-clause-index c =
    let items : List Input = c.self.inside.outcomes.items in
    let more : c.push.new.self.items ≡ items ++ c.args.outcome ∷ [] = search rules in
    let size : c.len-index.result ≡ length items = search rules in
    ap (λ (is : List Input). slice_get is c.len-index.result) more ∙ ap (slice_get (items ++ c.args.outcome ∷ [])) size ∙ last_there items c.args.outcome

pub invariant_of-self-then-is_err : goal.invariant_of-self-then-is_err
invariant_of-self-then-is_err c =
    let items : List Input = c.self.inside.outcomes.items in
    let more : c.push.new.self.items ≡ items ++ c.args.outcome ∷ [] = search rules in
    let few : vec_len c.push.new.self - 1 ≡ length items = omega (arith, c.in_default.ensures.len, c.self.inside.outcomes.ok) in
    let same : c.pop.new.self.items ≡ items = c.in-Some.ensures.rest ∙ ap (take (vec_len c.push.new.self - 1)) more ∙ all_but_last items c.args.outcome (vec_len c.push.new.self - 1) few in
    let indices : AreIndices c.insert.new.self items = search rules in
    record { indices_are = subst (AreIndices c.insert.new.self) (sym same) indices; single = subst AreSingle (sym same) c.self.invariant.single }
