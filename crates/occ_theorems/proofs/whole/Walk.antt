-- The typed tree of a unit without diagnostics is whole: down its lines.
use Rattle.std.proofs.Common.{◌≡◌, ◌++◌, Bool, true, false, List, [], ◌∷◌, Option, Some, None, refl, sym, subst}
use Rattle.occ_scope.specs.Visible.{nothing}
use Rattle.occ_scope.specs.declared.meaning.ScopeEntry.{ScopeEntry}
use Rattle.occ_scope.specs.declared.scope.Scope.{Scope}
use Rattle.occ_project.specs.Locations.{location_of}
use Rattle.occ_project.specs.declared.expanded.ExpandedLine.{ExpandedLine}
use Rattle.occ_tree.specs.Forest.{Empty, Forest, Tree}
use Rattle.occ_tree.specs.Obeys.{Obeys, ObeysUnder, root_sorts, sort_of}
use Rattle.occ_tree.specs.Table.{is_valof, row_under}
use Rattle.occ_tree.specs.declared.row.Row.{Row}
use Rattle.occ_tree.specs.declared.row.Row.TheVariants as row
use Rattle.occ_typing_lines.specs.Lines.{Judged, body_of}
use Rattle.occ_typing_lines.specs.Placed.{placed}
use Rattle.occ_typing_lines.specs.declared.parent.Parent.{Parent}
use Rattle.occ_typing_lines.specs.declared.parent.Role.TheVariants as role
use Rattle.occ_typing_lines.specs.declared.using.Import.{Import}
use Rattle.occ_typing.specs.Places.{At, Stands, first, inner, inside, judged_at, later}
use Rattle.occ_typing.specs.Typed.{IsTypedTree}
use Rattle.occ_typing.specs.TypedLines.{is_process, typed_line, typed_lines}
use Rattle.occ_typing.specs.Units.{after_line, lines, type_faults}
use Rattle.occ_typing.specs.declared.tree.TypedLine.{TypedLine}
use Rattle.occ_typing.specs.declared.tree.TypedLine.TheViews.{out-roll-TypedLine}
use Rattle.occ_typing.specs.declared.unit.Typed.{Typed}
use Rattle.occ_typing.specs.Known.{AreKnownEntries, IsKnownScope}
use Rattle.occ_typing.specs.Whole.{AreKnownAdds, AreKnownImports, AreWhole, IsWholeForm, no_line, one_line}
use Rattle.occ_theorems.proofs.whole.Bodies.{placed_clean}
use Rattle.occ_theorems.proofs.whole.Clean.{back_clean, front_clean}
use Rattle.occ_theorems.proofs.whole.Lines.{LineKnown, line_known}
use Rattle.occ_theorems.proofs.whole.Names.{with_all_known}
use Rattle.occ_theorems.proofs.whole.Rows.{StandIn, Suits, fits_stand}

-- the line that is made of what is judged
line_is : (p : Parent) (l : ExpandedLine) (x : Judged) (under following : List TypedLine) → IsWholeForm x.line.form → AreKnownEntries x.line.enters → AreKnownAdds x.line.adds → AreWhole under → AreWhole following → AreWhole (typed_line p l x under ∷ following)
line_is p l x under following f g h u b =
    let is = out-roll-TypedLine (record { place = location_of l; is_process = is_process p l.body; form = x.line.form; enters = x.line.enters; adds = x.line.adds; under = under }) in
    one_line (typed_line p l x under) following
    (subst (λ z. IsWholeForm z.form × AreKnownEntries z.enters × AreKnownAdds z.adds) (sym is) (f, g, h))
    (subst (λ z. AreWhole z.under) (sym is) u)
    b

following_known : (outer s : Scope) (adds : Option (List ScopeEntry)) → IsKnownScope outer → IsKnownScope s → AreKnownAdds adds → IsKnownScope (after_line outer s adds)
following_known outer s None h g k = h
following_known outer s (Some xs) h g k = with_all_known s xs g k

no_more : (is : List Import) (p : Parent) (outer s : Scope) (f : Forest) → root_sorts f ≡ [] → AreWhole (typed_lines is p outer s f)
no_more is p outer s Empty e = no_line
no_more is p outer s (Tree l under following) e = absurd cc

-- after a VALOF there is nothing
more_or : (b : Bool) (is : List Import) (p : Parent) (outer s : Scope) (f : Forest) → (b ≡ true → root_sorts f ≡ []) → (b ≡ false → AreWhole (typed_lines is p outer s f)) → AreWhole (typed_lines is p outer s f)
more_or true is p outer s f h g = no_more is p outer s f (h refl)
more_or false is p outer s f h g = g refl

-- ---- a line of a unit without diagnostics, and where the lines under it and after it stand

record Step (is : List Import) (r : Row) (p : Parent) (outer s : Scope) (l : ExpandedLine) (under following : Forest) : Type 0 where
  line : LineKnown r (sort_of l) (judged_at is p s l under).line
  stands : StandIn (row_under r (sort_of l)) (root_sorts under)
  inner_known : IsKnownScope (inner (judged_at is p s l under) s)
  after_known : IsKnownScope (after_line outer s (judged_at is p s l under).line.adds)
  below : lines is (judged_at is p s l under).line.parent (inner (judged_at is p s l under) s) (inner (judged_at is p s l under) s) under ≡ []
  after : lines is (judged_at is p s l under).line.next outer (after_line outer s (judged_at is p s l under).line.adds) following ≡ []

step : (is : List Import) (r : Row) (p : Parent) (outer s : Scope) (l : ExpandedLine) (under following : Forest) → AreKnownImports is → Suits r p.role → StandIn r (root_sorts (Tree l under following)) → ObeysUnder r (Tree l under following) → IsKnownScope outer → IsKnownScope s → lines is p outer s (Tree l under following) ≡ [] → Step is r p outer s l under following
step is r p outer s l under following i g st ob ko ks e =
    let x = judged_at is p s l under in
    let below = lines is x.line.parent (inner x s) (inner x s) under in
    let after = lines is x.line.next outer (after_line outer s x.line.adds) following in
    let front = front_clean (x.beneath ++ (below ++ placed l x.faults)) after e in
    let rest = back_clean x.beneath (below ++ placed l x.faults) front in
    let stands = fits_stand (row_under r (sort_of l)) (root_sorts under) ob.0 in
    let k = line_known is r p s l.body under i g st.all.0 stands ob.1 ks (placed_clean l x.faults (back_clean below (placed l x.faults) rest)) (front_clean x.beneath (below ++ placed l x.faults) front) in
    record {
      line = k;
      stands = stands;
      inner_known = with_all_known s x.line.enters ks k.enters;
      after_known = following_known outer s x.line.adds ko ks k.adds;
      below = front_clean below (placed l x.faults) rest;
      after = back_clean (x.beneath ++ (below ++ placed l x.faults)) after e;
    }

lines_whole : (is : List Import) (r : Row) (p : Parent) (outer s : Scope) (f : Forest) → AreKnownImports is → Suits r p.role → StandIn r (root_sorts f) → ObeysUnder r f → IsKnownScope outer → IsKnownScope s → lines is p outer s f ≡ [] → AreWhole (typed_lines is p outer s f)
lines_whole is r p outer s Empty i g st ob ko ks e = no_line
lines_whole is r p outer s (Tree l under following) i g st ob ko ks e =
    let x = judged_at is p s l under in
    let k = step is r p outer s l under following i g st ob ko ks e in
    line_is p l x (typed_lines is x.line.parent (inner x s) (inner x s) under) (typed_lines is x.line.next outer (after_line outer s x.line.adds) following) k.line.form k.line.enters k.line.adds
    (lines_whole is (row_under r (sort_of l)) x.line.parent (inner x s) (inner x s) under i k.line.under k.stands ob.1 k.inner_known k.inner_known k.below)
    (more_or (is_valof (sort_of l)) is x.line.next outer (after_line outer s x.line.adds) following st.last.0
    (λ v. lines_whole is r x.line.next outer (after_line outer s x.line.adds) following i (k.line.next v) (record { all = st.all.1; last = st.last.1 }) ob.2 ko k.after_known k.after))

-- ---- what stands in scope at each line

nowhere_more : (is : List Import) (p : Parent) (outer s : Scope) (f : Forest) (a : At) → root_sorts f ≡ [] → Stands is p outer s f a → ⊥
nowhere_more is p outer s Empty a e h = elim h [ ]
nowhere_more is p outer s (Tree l under following) a e h = absurd cc

later_or : (b : Bool) (is : List Import) (p : Parent) (outer s : Scope) (f : Forest) (a : At) → Stands is p outer s f a → (b ≡ true → root_sorts f ≡ []) → (b ≡ false → IsKnownScope a.scope) → IsKnownScope a.scope
later_or true is p outer s f a h e g = absurd (nowhere_more is p outer s f a (e refl) h)
later_or false is p outer s f a h e g = g refl

scopes_known : (is : List Import) (r : Row) (p : Parent) (outer s : Scope) (f : Forest) (a : At) → Stands is p outer s f a → AreKnownImports is → Suits r p.role → StandIn r (root_sorts f) → ObeysUnder r f → IsKnownScope outer → IsKnownScope s → lines is p outer s f ≡ [] → IsKnownScope a.scope
scopes_known is r p outer s f a (first _ _ _ l under following) i g st ob ko ks e = ks
scopes_known is r p outer s f a (inside _ _ _ l under following _ h) i g st ob ko ks e =
    let x = judged_at is p s l under in
    let k = step is r p outer s l under following i g st ob ko ks e in
    scopes_known is (row_under r (sort_of l)) x.line.parent (inner x s) (inner x s) under a h i k.line.under k.stands ob.1 k.inner_known k.inner_known k.below
scopes_known is r p outer s f a (later _ _ _ l under following _ h) i g st ob ko ks e =
    let x = judged_at is p s l under in
    let k = step is r p outer s l under following i g st ob ko ks e in
    later_or (is_valof (sort_of l)) is x.line.next outer (after_line outer s x.line.adds) following a h st.last.0
    (λ v. scopes_known is r x.line.next outer (after_line outer s x.line.adds) following a h i (k.line.next v) (record { all = st.all.1; last = st.last.1 }) ob.2 ko k.after_known k.after)

-- ---- units

-- the typed tree that is given of trees that obey the table
pub whole_unit : (is : List Import) (f : Forest) (tree : Typed) → Obeys f → AreKnownImports is → IsTypedTree is f tree → AreWhole tree.lines
whole_unit is f tree ob i h =
    subst AreWhole (sym h.lines) (lines_whole is row.File (body_of role.Process) nothing nothing f i tt (fits_stand row.File (root_sorts f) ob.0) ob.1 tt tt h.clean)

pub known_unit : (is : List Import) (f : Forest) (a : At) → Obeys f → AreKnownImports is → type_faults is f ≡ [] → Stands is (body_of role.Process) nothing nothing f a → IsKnownScope a.scope
known_unit is f a ob i e h = scopes_known is row.File (body_of role.Process) nothing nothing f a h i tt (fits_stand row.File (root_sorts f) ob.0) ob.1 tt tt e
