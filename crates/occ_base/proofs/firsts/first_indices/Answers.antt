use Rattle.std.proofs.Common.{◌≡◌, ◌+◌, ℕ, true, false, List, ◌∷◌, ◌++◌, drop, refl, sym, ap, subst, ◌∙◌, IfOk, arith}
use Rattle.std.proofs.lemmas.List.{drop_more}
use Rattle.std.specs.HashSet.{contains}
use Rattle.std.specs.Str.{bytes_eq}
use Rattle.occ_base.proofs.Indices.{comes_known, comes_new, few_once, is_known, is_new, none_known, unknown}
use Rattle.occ_base.proofs.firsts.first_indices.Goals as goal
use Rattle.occ_base.proofs.firsts.first_indices.Goals.{then-branch+in_ok-push, else-branch}

pub returns-then-names-lt2 : goal.returns-then-names-lt2
returns-then-names-lt2 c = subst (λ (names : List (List ℕ)). IfOk c.from_slice.result (λ found. found ≡ names)) (few_once c.args.names.now (omega (arith, c.if-names-lt2.true))) c.from_slice.ensures

pub loop-name-init : goal.loop-name-init
loop-name-init c = ap (λ (ns : List (List ℕ)). ns ++ unknown (contains bytes_eq c.in_ok-seen.seen) c.args.names.now) c.new-found.ensures ∙ none_known (contains bytes_eq c.in_ok-seen.seen) (λ q. rw c.in_ok-seen.ensures.empty refl) c.args.names.now

pub loop-name-preserved : goal.loop-name-preserved
loop-name-preserved c =
    let names = c.args.names.now in
    let i = c.loop-name.name-index in
    let name = c.name-item.result in
    let d : drop i names ≡ name ∷ drop (i + 1) names = drop_more names i name (omega arith) ∙ ap (λ (n : List ℕ). n ∷ drop (i + 1) names) (sym c.name-item.is) in
    let old = contains bytes_eq c.loop-name.seen in
    let new = contains bytes_eq c.insert.new.self in
    elim c.if-branch.branch [
      | then-branch+in_ok-push w ↦
          let k : old name ≡ false = is_new c.in_ok-insert.field-0 (old name) w.if-branch.true c.in_ok-insert.ensures.added in
          comes_new old new name (drop (i + 1) names) (drop i names) _ c.loop-name.found c.if-branch.found c.in_ok-insert.ensures.updates.0 d k (w.found-is ∙ w.in_ok-push.ensures.ok) c.loop-name.invariant
      | else-branch w ↦
          let k : old name ≡ true = is_known c.in_ok-insert.field-0 (old name) w.if-branch.false c.in_ok-insert.ensures.added in
          ap (λ (ns : List (List ℕ)). ns ++ unknown new (drop (i + 1) names)) w.found-is ∙ comes_known old new name (drop (i + 1) names) (drop i names) _ c.loop-name.found c.in_ok-insert.ensures.updates.0 d k c.loop-name.invariant
    ]
