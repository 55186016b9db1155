use Rattle.std.proofs.Common.{◌≡◌, ◌∙◌, ℤ, IfOk, of_z, rules, subst, sym, to_z, w64}
use Rattle.std.specs.List.{HoldsAt}
use Rattle.std.specs.List.Sorted.{IsStrictlySortedBy}
use Rattle.std.specs.Ordering.{int_cmp}
use Rattle.std.specs.declared.cmp.Ordering.TheVariants.{Equal}
use Rattle.occ_typing_rules.proofs.Numbers.{has_found, put_found}
use Rattle.occ_typing_rules.proofs.option_numbers.OptionNumbers.insert.Goals as goal
use Rattle.occ_typing_rules.specs.inside.Numbers.{AreInOrder}

pub returns-then-is_ok-clause-added : goal.returns-then-is_ok-clause-added
returns-then-is_ok-clause-added c =
    let same : to_z w64 (of_z w64 c.args.number) ≡ c.args.number = search rules in
    let held = subst (λ (k : ℤ). IfOk c.binary_search.result (HoldsAt (λ y. int_cmp y k ≡ Equal) c.deref.result.now)) same c.binary_search.ensures.ok in
    let found = has_found c.deref.result.now c.args.number c.binary_search.result c.binary_search.ensures.bound held (sym c.is_ok.ensures.value ∙ c.if-is_ok.true) in
    search (rules, found)

pub returns-then-is_ok-clause-numbers : goal.returns-then-is_ok-clause-numbers
returns-then-is_ok-clause-numbers c =
    let rising : IsStrictlySortedBy int_cmp c.in-Rising.rising.items = subst AreInOrder c.in-Rising.is c.self.invariant in
    let sorted : IsStrictlySortedBy int_cmp c.deref.result.now = subst (IsStrictlySortedBy int_cmp) (sym c.deref.ensures.value) rising in
    let found = put_found c.deref.result.now _ c.binary_search.result sorted c.binary_search.ensures.bound c.binary_search.ensures.ok (sym c.is_ok.ensures.value ∙ c.if-is_ok.true) in
    search (rules, found)
