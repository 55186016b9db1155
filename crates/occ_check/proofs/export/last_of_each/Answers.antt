use Rattle.std.proofs.Common.{arith, length, rules, ◌<◌, ◌≡◌, ◌∙◌, ◌++◌, ◌∷◌, [], cond, not, true, false, ap, refl, subst, sym, List, ℕ}
use Rattle.std.specs.BTreeSet.{contains}
use Rattle.std.specs.Cmp.Lexicographic.{slice_cmp}
use Rattle.std.specs.Ordering.{is_eq, nat_cmp}
use Rattle.occ_check.proofs.Exported.{IsPassed, all_passed, is_known, is_new, none_passed, passes_known, passes_new}
use Rattle.occ_check.specs.Exports.{with_exports}
use Rattle.occ_types.specs.declared.interface.Export.{Export}
use Rattle.occ_check.proofs.export.last_of_each.Goals as goal

pub loop-export-init : goal.loop-export-init
loop-export-init c =
    subst (λ (es : List Export). IsPassed c.args.exports.items c.args.exports.items es (contains (slice_cmp nat_cmp) c.new-names.result)) (sym c.new-last.ensures.items)
    (none_passed c.args.exports.items (contains (slice_cmp nat_cmp) c.new-names.result) (λ q. rw c.new-names.ensures.empty refl))

pub loop-export-preserved-in_ok-push : goal.loop-export-preserved-in_ok-push
loop-export-preserved-in_ok-push c =
    let e = c.in-Some.export in
    let known = contains (slice_cmp nat_cmp) c.loop-export.names in
    let same : c.in_ok-copied.field-0 ≡ e.name = c.in_ok-copied.ensures in
    let popped : c.loop-export.exports.items ≡ c.pop.new.self.items ++ e ∷ [] = c.in-Some.ensures.items in
    let then' : (q : List ℕ) → contains (slice_cmp nat_cmp) c.insert.new.self q ≡ cond (is_eq (slice_cmp nat_cmp e.name q)) true (known q)
    = λ q. c.in_ok-insert.ensures.updates.0 q ∙ ap (λ (n : List ℕ). cond (is_eq (slice_cmp nat_cmp n q)) true (known q)) same in
    let k : known e.name ≡ false = is_new c.in_ok-insert.field-0 (known e.name) c.if-branch.true (c.in_ok-insert.ensures.added ∙ ap (λ (n : List ℕ). not (known n)) same) in
    subst (λ (es : List Export). IsPassed c.args.exports.items c.pop.new.self.items es (contains (slice_cmp nat_cmp) c.insert.new.self)) (sym c.in_ok-push.ensures.items)
    (passes_new c.args.exports.items c.loop-export.exports.items c.pop.new.self.items c.loop-export.last.items e known (contains (slice_cmp nat_cmp) c.insert.new.self) popped then' k c.loop-export.invariant)

pub loop-export-preserved : goal.loop-export-preserved
loop-export-preserved c =
    let e = c.in-Some.export in
    let known = contains (slice_cmp nat_cmp) c.loop-export.names in
    let same : c.in_ok-copied.field-0 ≡ e.name = c.in_ok-copied.ensures in
    let popped : c.loop-export.exports.items ≡ c.pop.new.self.items ++ e ∷ [] = c.in-Some.ensures.items in
    let then' : (q : List ℕ) → contains (slice_cmp nat_cmp) c.insert.new.self q ≡ cond (is_eq (slice_cmp nat_cmp e.name q)) true (known q)
    = λ q. c.in_ok-insert.ensures.updates.0 q ∙ ap (λ (n : List ℕ). cond (is_eq (slice_cmp nat_cmp n q)) true (known q)) same in
    let k : known e.name ≡ true = is_known c.in_ok-insert.field-0 (known e.name) c.if-branch.false (c.in_ok-insert.ensures.added ∙ ap (λ (n : List ℕ). not (known n)) same) in
    passes_known c.args.exports.items c.loop-export.exports.items c.pop.new.self.items c.loop-export.last.items e known (contains (slice_cmp nat_cmp) c.insert.new.self) popped then' k c.loop-export.invariant

pub returns : goal.returns
returns c =
    let none : c.loop-export.exports.items ≡ [] = search rules in
    let passed : IsPassed c.args.exports.items [] c.loop-export.last.items (contains (slice_cmp nat_cmp) c.loop-export.names)
    = subst (λ (es : List Export). IsPassed c.args.exports.items es c.loop-export.last.items (contains (slice_cmp nat_cmp) c.loop-export.names)) none c.loop-export.invariant in
    c.from_vec-2.ensures ∙ c.reverse.ensures.items ∙ all_passed c.args.exports.items c.loop-export.last.items (contains (slice_cmp nat_cmp) c.loop-export.names) passed

pub returns-then-len-lt2 : goal.returns-then-len-lt2
returns-then-len-lt2 c = c.from_vec.ensures ∙ few c.args.exports.items (omega (arith, c.len.ensures, c.if-len-lt2.true)) where
  few : (es : List Export) → length es < 2 → es ≡ with_exports [] es
  few [] h = refl
  few (e ∷ []) h = refl
  few (e ∷ f ∷ es) h = absurd (omega (arith, h))
