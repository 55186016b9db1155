use Rattle.std.proofs.Common.{rules, ◌≡◌, ◌∙◌, ℕ, List, ap, sym}
use Rattle.std.specs.List.{list_any}
use Rattle.occ_usage_values.specs.declared.bound.Bound.{Bound}
use Rattle.occ_usage_lines.specs.Concern.{concerned}
use Rattle.occ_usage_lines.specs.inside.Noting.{is_found, is_in}
use Rattle.occ_usage_lines.proofs.Choosing.{all_found, empty_list, nothing_concerns}
use Rattle.occ_usage_lines.proofs.scope.UsageScope.concerned.Goals as goal

pub returns-then-is_empty-2 : goal.returns-then-is_empty-2
returns-then-is_empty-2 c =
    let s = c.self.inside in
    let us = c.args.uses.now in
    let view : s.bounds ≡ c.args.self.now = search rules in
    let named : c.as_slice-named.result.now ≡ s.named.items = search rules in
    let read : c.as_slice-read.result.now ≡ s.read.items = search rules in
    c.new.ensures
    ∙ nothing_concerns s.named.items s.read.items s.bounds us (sym named ∙ empty_list c.as_slice-named.result.now (sym c.is_empty.ensures ∙ c.if-is_empty.true))
    (sym read ∙ empty_list c.as_slice-read.result.now (sym c.is_empty-then-is_empty.ensures ∙ c.if-is_empty-2.true)) c.self.invariant.named c.self.invariant.read
    ∙ ap (λ (xs : List Bound). concerned 0 xs us) view

pub returns : goal.returns
returns c =
    let s = c.self.inside in
    let us = c.args.uses.now in
    let numbers = c.put_in_order.new.numbers.items in
    let view : s.bounds ≡ c.args.self.now = search rules in
    let before : (n : ℕ) → is_in c.in_ok-numbers.numbers.items n ≡ list_any (is_found s.bounds s.named.items s.read.items n) us = search rules in
    c.from_vec.ensures
    ∙ all_found s.named.items s.read.items s.bounds us numbers c.self.invariant.named c.self.invariant.read
    (λ (n : ℕ). c.put_in_order.ensures.same n ∙ before n) c.put_in_order.ensures.rising
    ∙ ap (λ (xs : List Bound). concerned 0 xs us) view
