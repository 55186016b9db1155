-- The two ways to say the diagnostics of a unit are one.
use Rattle.std.proofs.Common.{◌↔◌, List, [], ◌∷◌, ◌++◌, inl, inr}
use Rattle.std.specs.Prelude.{◌⊎◌}
use Rattle.occ_base.specs.declared.diag.Diag.{Diag}
use Rattle.occ_scope.specs.declared.scope.Scope.{Scope}
use Rattle.occ_project.specs.declared.expanded.ExpandedLine.{ExpandedLine}
use Rattle.occ_tree.specs.Forest.{Forest, Empty, Tree}
use Rattle.occ_typing_lines.specs.Placed.{placed}
use Rattle.occ_typing.specs.Places.{At, IsAmong, IsReported, IsReportedIn, Stands, first, inner, inside, judged_at, later, reported_at}
use Rattle.occ_typing.specs.Units.{after_line, lines, type_faults}
use Rattle.occ_typing_lines.specs.declared.parent.Parent.{Parent}
use Rattle.occ_typing_lines.specs.declared.using.Import.{Import}

among_front : (d : Diag) (xs ys : List Diag) → IsAmong d xs → IsAmong d (xs ++ ys)
among_front d [] ys h = absurd h
among_front d (x ∷ xs) ys (inl e) = inl e
among_front d (x ∷ xs) ys (inr h) = inr (among_front d xs ys h)

among_back : (d : Diag) (xs ys : List Diag) → IsAmong d ys → IsAmong d (xs ++ ys)
among_back d [] ys h = h
among_back d (x ∷ xs) ys h = inr (among_back d xs ys h)

more_among : (d x : Diag) (xs ys : List Diag) → IsAmong d xs ⊎ IsAmong d ys → IsAmong d (x ∷ xs) ⊎ IsAmong d ys
more_among d x xs ys (inl h) = inl (inr h)
more_among d x xs ys (inr h) = inr h

among_both : (d : Diag) (xs ys : List Diag) → IsAmong d (xs ++ ys) → IsAmong d xs ⊎ IsAmong d ys
among_both d [] ys h = inr h
among_both d (x ∷ xs) ys (inl e) = inl (inl e)
among_both d (x ∷ xs) ys (inr h) = more_among d x xs ys (among_both d xs ys h)

-- of what is reported of a line, of those under it and of those after it
split_after : (d : Diag) (beneath under own : List Diag) → IsAmong d under ⊎ IsAmong d own → IsAmong d (beneath ++ own) ⊎ IsAmong d under
split_after d beneath under own (inl h) = inr h
split_after d beneath under own (inr h) = inl (among_back d beneath own h)

split_front : (d : Diag) (beneath under own : List Diag) → IsAmong d beneath ⊎ IsAmong d (under ++ own) → IsAmong d (beneath ++ own) ⊎ IsAmong d under
split_front d beneath under own (inl h) = inl (among_front d beneath own h)
split_front d beneath under own (inr h) = split_after d beneath under own (among_both d under own h)

split_rest : (d : Diag) (beneath under own rest : List Diag) → IsAmong d (beneath ++ (under ++ own)) ⊎ IsAmong d rest
    → (IsAmong d (beneath ++ own) ⊎ IsAmong d under) ⊎ IsAmong d rest
split_rest d beneath under own rest (inl h) = inl (split_front d beneath under own (among_both d beneath (under ++ own) h))
split_rest d beneath under own rest (inr h) = inr h

split : (d : Diag) (beneath under own rest : List Diag) → IsAmong d ((beneath ++ (under ++ own)) ++ rest)
    → (IsAmong d (beneath ++ own) ⊎ IsAmong d under) ⊎ IsAmong d rest
split d beneath under own rest h = split_rest d beneath under own rest (among_both d (beneath ++ (under ++ own)) rest h)

own_front : (d : Diag) (beneath under own : List Diag) → IsAmong d beneath ⊎ IsAmong d own → IsAmong d (beneath ++ (under ++ own))
own_front d beneath under own (inl h) = among_front d beneath (under ++ own) h
own_front d beneath under own (inr h) = among_back d beneath (under ++ own) (among_back d under own h)

-- what is reported under a line, and after it
abbrev IsReportedUnder : List Import → Parent → Scope → ExpandedLine → Forest → Diag → Type 0
IsReportedUnder is p s l under d = IsReportedIn is (judged_at is p s l under).line.parent (inner (judged_at is p s l under) s) (inner (judged_at is p s l under) s) under d

abbrev IsReportedAfter : List Import → Parent → Scope → Scope → ExpandedLine → Forest → Forest → Diag → Type 0
IsReportedAfter is p outer s l under following d = IsReportedIn is (judged_at is p s l under).line.next outer (after_line outer s (judged_at is p s l under).line.adds) following d

at_line : (is : List Import) (p : Parent) (outer s : Scope) (l : ExpandedLine) (under following : Forest) (d : Diag)
    → IsAmong d (reported_at is (record { line = l; under = under; parent = p; scope = s })) → IsReportedIn is p outer s (Tree l under following) d
at_line is p outer s l under following d h = (record { line = l; under = under; parent = p; scope = s }, first p outer s l under following, h)

under_line : (is : List Import) (p : Parent) (outer s : Scope) (l : ExpandedLine) (under following : Forest) (d : Diag) → IsReportedUnder is p s l under d → IsReportedIn is p outer s (Tree l under following) d
under_line is p outer s l under following d r = (r.0, inside p outer s l under following r.0 r.1, r.2)

after_it : (is : List Import) (p : Parent) (outer s : Scope) (l : ExpandedLine) (under following : Forest) (d : Diag) → IsReportedAfter is p outer s l under following d → IsReportedIn is p outer s (Tree l under following) d
after_it is p outer s l under following d r = (r.0, later p outer s l under following r.0 r.1, r.2)

sound_cases : (is : List Import) (p : Parent) (outer s : Scope) (l : ExpandedLine) (under following : Forest) (d : Diag) (below rest : List Diag)
    → (IsAmong d below → IsReportedUnder is p s l under d) → (IsAmong d rest → IsReportedAfter is p outer s l under following d)
    → (IsAmong d (reported_at is (record { line = l; under = under; parent = p; scope = s })) ⊎ IsAmong d below) ⊎ IsAmong d rest
    → IsReportedIn is p outer s (Tree l under following) d
sound_cases is p outer s l under following d below rest f g (inl (inl h)) = at_line is p outer s l under following d h
sound_cases is p outer s l under following d below rest f g (inl (inr h)) = under_line is p outer s l under following d (f h)
sound_cases is p outer s l under following d below rest f g (inr h) = after_it is p outer s l under following d (g h)

sound : (is : List Import) (p : Parent) (outer s : Scope) (f : Forest) (d : Diag) → IsAmong d (lines is p outer s f) → IsReportedIn is p outer s f d
sound is p outer s Empty d h = absurd h
sound is p outer s (Tree l under following) d h =
    let x = judged_at is p s l under in
    let below = lines is x.line.parent (inner x s) (inner x s) under in
    let rest = lines is x.line.next outer (after_line outer s x.line.adds) following in
    sound_cases is p outer s l under following d below rest
    (sound is x.line.parent (inner x s) (inner x s) under d)
    (sound is x.line.next outer (after_line outer s x.line.adds) following d)
    (split d x.beneath below (placed l x.faults) rest h)

complete : (is : List Import) (p : Parent) (outer s : Scope) (f : Forest) (a : At) (d : Diag) → Stands is p outer s f a → IsAmong d (reported_at is a) → IsAmong d (lines is p outer s f)
complete is p outer s f a d (first _ _ _ l under following) h =
    among_front d ((judged_at is p s l under).beneath ++ (lines is (judged_at is p s l under).line.parent (inner (judged_at is p s l under) s) (inner (judged_at is p s l under) s) under ++ placed l (judged_at is p s l under).faults)) (lines is (judged_at is p s l under).line.next outer (after_line outer s (judged_at is p s l under).line.adds) following)
    (own_front d (judged_at is p s l under).beneath (lines is (judged_at is p s l under).line.parent (inner (judged_at is p s l under) s) (inner (judged_at is p s l under) s) under) (placed l (judged_at is p s l under).faults) (among_both d (judged_at is p s l under).beneath (placed l (judged_at is p s l under).faults) h))
complete is p outer s f a d (inside _ _ _ l under following _ below) h =
    among_front d ((judged_at is p s l under).beneath ++ (lines is (judged_at is p s l under).line.parent (inner (judged_at is p s l under) s) (inner (judged_at is p s l under) s) under ++ placed l (judged_at is p s l under).faults)) (lines is (judged_at is p s l under).line.next outer (after_line outer s (judged_at is p s l under).line.adds) following)
    (among_back d (judged_at is p s l under).beneath (lines is (judged_at is p s l under).line.parent (inner (judged_at is p s l under) s) (inner (judged_at is p s l under) s) under ++ placed l (judged_at is p s l under).faults)
    (among_front d (lines is (judged_at is p s l under).line.parent (inner (judged_at is p s l under) s) (inner (judged_at is p s l under) s) under) (placed l (judged_at is p s l under).faults)
    (complete is (judged_at is p s l under).line.parent (inner (judged_at is p s l under) s) (inner (judged_at is p s l under) s) under a d below h)))
complete is p outer s f a d (later _ _ _ l under following _ below) h =
    among_back d ((judged_at is p s l under).beneath ++ (lines is (judged_at is p s l under).line.parent (inner (judged_at is p s l under) s) (inner (judged_at is p s l under) s) under ++ placed l (judged_at is p s l under).faults)) (lines is (judged_at is p s l under).line.next outer (after_line outer s (judged_at is p s l under).line.adds) following)
    (complete is (judged_at is p s l under).line.next outer (after_line outer s (judged_at is p s l under).line.adds) following a d below h)

pub reported_places : (is : List Import) (f : Forest) (d : Diag) → IsAmong d (type_faults is f) ↔ IsReported is f d
reported_places is f d = (sound is _ _ _ f d, λ h. complete is _ _ _ f h.0 d h.1 h.2)
