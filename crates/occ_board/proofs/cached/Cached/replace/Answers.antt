use Rattle.std.proofs.Common.{◌≡◌, ◌∙◌, ◌<◌, List, Some, ap, length, subst, sym}
use Rattle.occ_board.proofs.Caches.{cached_at, indices_stay, set_there, shown_there, single_set}
use Rattle.occ_board.proofs.cached.Cached.replace.Goals as goal
use Rattle.occ_board.specs.Machine.{with_cached}
use Rattle.occ_board.specs.inside.Holding.{index_in}
use Rattle.occ_check.specs.Input.{Input}

pub invariant_of-self : goal.invariant_of-self
invariant_of-self c =
    let items : List Input = c.self.inside.outcomes.items in
    let there : index_in items c.args.outcome.unit ≡ Some c.args.index = ap (λ (is : List Input). index_in is c.args.outcome.unit) c.self.view_is ∙ c.requires.index in
    record {
      indices_are = λ u. c.self.invariant.indices_are u ∙ sym (indices_stay items c.args.outcome u c.args.index there) ∙ ap (λ (is : List Input). index_in is u) (sym (cached_at items c.args.outcome c.args.index there));
      single = single_set items c.args.outcome c.args.index there c.self.invariant.single;
    }

pub returns-clause-cached : goal.returns-clause-cached
returns-clause-cached c =
    let items : List Input = c.self.inside.outcomes.items in
    let there : index_in items c.args.outcome.unit ≡ Some c.args.index = ap (λ (is : List Input). index_in is c.args.outcome.unit) c.self.view_is ∙ c.requires.index in
    cached_at items c.args.outcome c.args.index there ∙ ap (λ (is : List Input). with_cached is c.args.outcome) c.self.view_is

pub returns-clause-index : goal.returns-clause-index
returns-clause-index c = set_there c.self.inside.outcomes.items c.args.outcome c.args.index (subst (λ (is : List Input). c.args.index < length is) (sym c.self.view_is) c.requires.within)

pub returns-clause-shown : goal.returns-clause-shown
returns-clause-shown c =
    let there = shown_there c.args.self.now c.args.outcome.unit c.args.index c.at.result.now c.requires.index c.at.ensures in (
      λ h. sym c.interface.ensures ∙ c.are_same_interfaces-same.ensures.0 h ∙ c.interface-before.ensures ∙ sym there,
      λ e. c.are_same_interfaces-same.ensures.1 (c.interface.ensures ∙ e ∙ there ∙ sym c.interface-before.ensures),
    )
