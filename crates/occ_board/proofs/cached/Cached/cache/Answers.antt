use Rattle.std.proofs.Common.{◌≡◌, ◌∙◌, None, Some, ap, rules, sym}
use Rattle.occ_board.proofs.Caches.{cached_within, none_shown}
use Rattle.occ_board.proofs.cached.Cached.cache.Goals as goal
use Rattle.occ_board.specs.inside.Holding.{index_in}
use Rattle.occ_check.specs.Diagnostics.{interface_of}
use Rattle.occ_check.specs.Input.{Input}

pub replace-same-requires : goal.replace-same-requires
replace-same-requires c =
    let there : index_in c.args.self.now c.args.outcome.unit ≡ Some c.in-Some.index = sym (c.in-Some.ensures ∙ ap (index_in c.args.self.now) (c.unit.ensures.value ∙ ap (λ (i : Input). i.unit) c.job.ensures)) in
    record { within = cached_within c.args.self.now c.args.outcome.unit c.in-Some.index there; index = there }

pub cache_first-requires : goal.cache_first-requires
cache_first-requires c = sym (c.in-None.ensures ∙ ap (index_in c.args.self.now) (c.unit.ensures.value ∙ ap (λ (i : Input). i.unit) c.job.ensures))

pub returns-in_ok-index-in-None-clause-shown : goal.returns-in_ok-index-in-None-clause-shown
returns-in_ok-index-in-None-clause-shown c =
    let none : index_in c.args.self.now c.args.outcome.unit ≡ None = sym (c.in-None.ensures ∙ ap (index_in c.args.self.now) (c.unit.ensures.value ∙ ap (λ (i : Input). i.unit) c.job.ensures)) in
    let nothing = none_shown c.args.self.now c.args.outcome.unit none in (
      λ h.
          let shows : interface_of c.args.outcome ≡ None = search rules in
          shows ∙ sym nothing,
      λ e.
          let shows : interface_of c.args.outcome ≡ None = e ∙ nothing in
          search rules,
    )
