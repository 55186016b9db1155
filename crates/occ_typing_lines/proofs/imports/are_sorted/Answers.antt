use Rattle.std.proofs.Common.{◌≡◌, ◌≤◌, ◌∙◌, ◌+◌, ◌∷◌, List, length, ap, arith, drop, subst, sym}
use Rattle.std.proofs.lemmas.List.{drop_all, drop_more}
use Rattle.occ_typing_lines.specs.declared.using.Import.{Import}
use Rattle.occ_typing_lines.specs.inside.Sorted.{AreSortedAfter}
use Rattle.occ_typing_lines.proofs.Searching.{more_sorted, none_sorted}
use Rattle.occ_typing_lines.proofs.imports.are_sorted.Goals as goal

pub loop-import-preserved : goal.loop-import-preserved
loop-import-preserved c h =
    let imports = c.args.imports.now in
    let i = c.loop-import.import-index in
    let split : drop i imports ≡ c.import-item.result ∷ drop (i + 1) imports = drop_more imports i c.import-item.result (omega (arith, c.loop-import-test.true)) ∙ ap (λ (x : Import). x ∷ drop (i + 1) imports) (sym c.import-item.is) in
    c.loop-import.invariant
    (subst (λ (is : List Import). AreSortedAfter c.loop-import.before is) (sym split)
    (more_sorted c.loop-import.before c.import-item.result (drop (i + 1) imports) (c.is_after.ensures c.if-not-is_after.false) h))

pub returns : goal.returns
returns c h =
    let imports = c.args.imports.now in
    let i = c.loop-import.import-index in
    let over : length imports ≤ i = omega (arith, c.loop-import-test.false) in
    c.loop-import.invariant (subst (λ (is : List Import). AreSortedAfter c.loop-import.before is) (sym (drop_all i imports over)) (none_sorted c.loop-import.before))
