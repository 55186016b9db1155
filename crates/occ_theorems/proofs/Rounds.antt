-- The scope of the walk at a line is what the whole tree says of it.
use Rattle.std.proofs.Common.{◌≡◌, ◌∙◌, List, [], ◌∷◌, ◌++◌, Option, Some, None, refl, ap}
use Rattle.occ_scope.specs.Visible.{entered, with_all}
use Rattle.occ_scope.specs.declared.meaning.ScopeEntry.{ScopeEntry}
use Rattle.occ_scope.specs.declared.scope.Scope.{Scope}
use Rattle.occ_tree.specs.Forest.{Forest}
use Rattle.occ_typing.specs.Places.{At, Stands, first, inner, inside, judged_at, later}
use Rattle.occ_typing.specs.Rounds.{IsRound, item_after, round}
use Rattle.occ_typing.specs.Units.{after_line}
use Rattle.occ_typing_lines.specs.declared.parent.Parent.{Parent}
use Rattle.occ_typing_lines.specs.declared.using.Import.{Import}

with_both : (s : Scope) (xs ys : List ScopeEntry) → with_all (with_all s xs) ys ≡ with_all s (xs ++ ys)
with_both s [] ys = refl
with_both s (x ∷ xs) ys = with_both (entered s x.name x.meaning) xs ys

after_item : (outer s : Scope) (item : List ScopeEntry) (adds : Option (List ScopeEntry)) → s ≡ with_all outer item → after_line outer s adds ≡ with_all outer (item_after item adds)
after_item outer s item None e = refl
after_item outer s item (Some adds) e = ap (λ (z : Scope). with_all z adds) e ∙ with_both outer item adds

scope_round : (is : List Import) (p : Parent) (outer s : Scope) (f : Forest) (a : At) (h : Stands is p outer s f a) (item : List ScopeEntry)
    → s ≡ with_all outer item
    → a.scope ≡ with_all outer (round is p outer s f a h item)
scope_round is p outer s f a (first _ _ _ l under following) item e = e
scope_round is p outer s f a (inside _ _ _ l under following _ below) item e =
    let x = judged_at is p s l under in
    let more = round is x.line.parent (inner x s) (inner x s) under a below [] in
    scope_round is x.line.parent (inner x s) (inner x s) under a below [] refl
    ∙ with_both s x.line.enters more
    ∙ ap (λ (z : Scope). with_all z (x.line.enters ++ more)) e
    ∙ with_both outer item (x.line.enters ++ more)
scope_round is p outer s f a (later _ _ _ l under following _ below) item e =
    let x = judged_at is p s l under in
    scope_round is x.line.next outer (after_line outer s x.line.adds) following a below (item_after item x.line.adds) (after_item outer s item x.line.adds e)

pub round_of_unit : (is : List Import) (f : Forest) → IsRound is f
round_of_unit is f a h = scope_round is _ _ _ f a h [] refl
