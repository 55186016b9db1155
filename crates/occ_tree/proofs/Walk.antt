-- What a walk over the lines knows of the open parents is what the lines before it say.
use Rattle.std.proofs.Common.{◌≡◌, ◌∙◌, ◌≤◌, ◌∷◌, ◌++◌, ℕ, Bool, true, false, ltb, List, [], Option, None, Some, inl, inr, refl, sym, ap, arith}
use Rattle.std.proofs.lemmas.Bool.{cases_Bool, ltb-true, ltb-false, lt-ltb, true≢false}
use Rattle.std.proofs.lemmas.List.{append-nil}
use Rattle.occ_tree.specs.declared.outline.Outline.{Outline}
use Rattle.occ_tree.specs.declared.place.Frame.{Frame}
use Rattle.occ_tree.specs.declared.row.Row.{Row}
use Rattle.occ_tree.specs.declared.sort.Sort.{Sort}
use Rattle.occ_tree.specs.declared.place.Place.{Place}
use Rattle.occ_tree.specs.inside.Frames.{frame_at, frame_of, open_parents, opened_by, outer, place_at, placed_in, places, still_open, turned}
use Rattle.occ_tree.specs.Nesting.{after_deeper, can_hold, elders, parent_depth, roots, row_at}
use Rattle.occ_tree.specs.Wrong.{is_wrong, wrong, wrong_from}
use Rattle.occ_tree.specs.Table.{row_under}

-- what a line may stand under, a deeper one may stand under too
pub can_hold_deeper : (p : Option ℕ) (d e : ℕ) → d ≤ e → can_hold p d ≡ true → can_hold p e ≡ true
can_hold_deeper None d e le h = refl
can_hold_deeper (Some p) d e le h = lt-ltb p e (omega (arith, le, ltb-true p d h))

pub same_parent : (before : List Outline) (d e : ℕ) → d ≤ e → can_hold (parent_depth before e) d ≡ true → parent_depth before e ≡ parent_depth before d
same_parent [] d e le h = refl
same_parent (b ∷ before) d e le h = elim (cases_Bool (ltb b.depth d)) [
  | inl shallower ↦ rw shallower (rw (lt-ltb b.depth e (omega (arith, le, ltb-true b.depth d shallower))) refl)
  | inr deep ↦ elim (cases_Bool (ltb b.depth e)) [
    | inl between ↦ absurd (true≢false (sym (rw between at h) ∙ deep))
    | inr deeper ↦ rw deep (rw deeper (same_parent before d e le (rw deeper at h)))
  ]
]

pub same_row : (before : List Outline) (d e : ℕ) → d ≤ e → can_hold (parent_depth before e) d ≡ true → row_at before e ≡ row_at before d
same_row [] d e le h = refl
same_row (b ∷ before) d e le h = elim (cases_Bool (ltb b.depth d)) [
  | inl shallower ↦ rw shallower (rw (lt-ltb b.depth e (omega (arith, le, ltb-true b.depth d shallower))) refl)
  | inr deep ↦ elim (cases_Bool (ltb b.depth e)) [
    | inl between ↦ absurd (true≢false (sym (rw between at h) ∙ deep))
    | inr deeper ↦ rw deep (rw deeper (same_row before d e le (rw deeper at h)))
  ]
]

-- where two depths have the same parent, the lines of a deeper one have it alike
same_holds : (before : List Outline) (d e c : ℕ) → d ≤ e → e ≤ c → can_hold (parent_depth before e) d ≡ true
    → can_hold (parent_depth before c) e ≡ can_hold (parent_depth before c) d
same_holds before d e c le ge h = elim (cases_Bool (can_hold (parent_depth before c) e)) [
  | inl has ↦ has ∙ sym (ap (λ (p : Option ℕ). can_hold p d) (same_parent before e c ge has) ∙ h)
  | inr lacking ↦ elim (cases_Bool (can_hold (parent_depth before c) d)) [
    | inl other ↦ absurd (true≢false (sym (can_hold_deeper (parent_depth before c) d e le other) ∙ lacking))
    | inr neither ↦ lacking ∙ sym neither
  ]
]

pub same_elders : (before : List Outline) (d e : ℕ) → d ≤ e → can_hold (parent_depth before e) d ≡ true → elders before e ≡ elders before d
same_elders [] d e le h = refl
same_elders (b ∷ before) d e le h = elim (cases_Bool (ltb b.depth d)) [
  | inl shallower ↦ rw shallower (rw (lt-ltb b.depth e (omega (arith, le, ltb-true b.depth d shallower))) refl)
  | inr deep ↦ elim (cases_Bool (ltb b.depth e)) [
    | inl between ↦ absurd (true≢false (sym (rw between at h) ∙ deep))
    | inr deeper ↦
        let there = rw deeper at h in
        rw deep (rw deeper (rw (same_holds before d e b.depth le (ltb-false b.depth e deeper) there) (rw (same_elders before d e le there) refl)))
  ]
]

still_open_past : (f : Frame) (fs : List Frame) (d : ℕ) → can_hold f.depth d ≡ false → still_open d (f ∷ fs) ≡ still_open d fs
still_open_past f fs d lacking = rw lacking refl

pub still_open_twice : (fs : List Frame) (d e : ℕ) → d ≤ e → still_open d (still_open e fs) ≡ still_open d fs
still_open_twice [] d e le = refl
still_open_twice (f ∷ fs) d e le = elim (cases_Bool (can_hold f.depth e)) [
  | inl has ↦ rw has refl
  | inr lacking ↦ elim (cases_Bool (can_hold f.depth d)) [
    | inl other ↦ absurd (true≢false (sym (can_hold_deeper f.depth d e le other) ∙ lacking))
    | inr neither ↦ rw lacking (still_open_twice fs d e le ∙ sym (still_open_past f fs d neither))
  ]
]

frame_same : (p q : Option ℕ) (r s : Row) (es fs : List Sort) → p ≡ q → r ≡ s → es ≡ fs → frame_of p r es ≡ frame_of q s fs
frame_same p q r s es fs a b c = rw a (rw b (rw c refl))

-- the innermost parents after one more line
abbrev following : List Outline → Outline → List Frame → List Frame
following before b fs =
    frame_of (Some b.depth) (row_under (row_at before b.depth) b.sort) []
    ∷ (frame_of (parent_depth before b.depth) (row_at before b.depth) (b.sort ∷ elders before b.depth) ∷ fs)

open_after : (before : List Outline) (b : Outline) (d : ℕ) (fs : List Frame) → fs ≡ frame_at before b.depth ∷ outer fs
    → (d ≤ b.depth → still_open d fs ≡ frame_at before d ∷ outer (still_open d fs))
    → still_open d (following before b (outer fs)) ≡ frame_at (b ∷ before) d ∷ outer (still_open d (following before b (outer fs)))
open_after before b d fs first up = elim (cases_Bool (ltb b.depth d)) [
  | inl shallower ↦ rw shallower refl
  | inr deep ↦ elim (cases_Bool (can_hold (parent_depth before b.depth) d)) [
    | inl has ↦
        let le = ltb-false b.depth d deep in
        rw deep (rw has (ap (λ (f : Frame). f ∷ outer fs) (frame_same _ _ _ _ _ _ (same_parent before d b.depth le has) (same_row before d b.depth le has) (ap (λ (es : List Sort). b.sort ∷ es) (same_elders before d b.depth le has)))))
    | inr lacking ↦
        let past : still_open d fs ≡ still_open d (outer fs) = ap (still_open d) first ∙ still_open_past (frame_at before b.depth) (outer fs) d lacking in
        rw deep (rw lacking (rw past at (up (ltb-false b.depth d deep))))
  ]
]

-- the innermost parent that may have a line of depth d under it is the one that the lines before say
pub open_at : (before : List Outline) (d : ℕ) → still_open d (open_parents before) ≡ frame_at before d ∷ outer (still_open d (open_parents before))
open_at [] d = refl
open_at (b ∷ before) d =
    open_after before b d (still_open b.depth (open_parents before)) (open_at before b.depth)
    (λ le. rw (still_open_twice (open_parents before) d b.depth le) (open_at before d))

pub turned_back : (xs ys zs : List Outline) → turned (turned xs ys) zs ≡ turned ys (xs ++ zs)
turned_back [] ys zs = refl
turned_back (x ∷ xs) ys zs = turned_back xs (x ∷ ys) zs

pub turned_twice : (xs : List Outline) → turned (turned xs []) [] ≡ xs
turned_twice xs = turned_back xs [] [] ∙ append-nil xs

-- the parent in which a line of depth d stands, and those round it, are these
abbrev pub Turns : ℕ → List Frame → Frame → List Frame → Type 0
Turns d fs j p = (f : Frame) (gs : List Frame) → still_open d fs ≡ f ∷ gs → (j ≡ f) × (p ≡ gs)

-- what `enter` does to them, and to the last line
abbrev pub Enters : Outline → Frame → List Frame → Frame → List Frame → Option Outline → Type 0
Enters l i o j q last =
    (es : List Sort) → i ≡ frame_of i.depth i.row es → (j ≡ frame_of i.depth i.row (l.sort ∷ es)) × (q ≡ o) × (last ≡ Some l)

-- the place of a line under a parent is this one
abbrev pub Places : Outline → Frame → Place → Type 0
Places l j place = (es : List Sort) → j ≡ frame_of j.depth j.row es → place ≡ placed_in l j es

framed : (i : Frame) (p : Option ℕ) (r : Row) (es : List Sort) → i ≡ frame_of p r es → i ≡ frame_of i.depth i.row es
framed i p r es e = rw e refl

-- one line more
pub place_more : (before rest after lines : List Outline) (l : Outline) (fs : List Frame) (j k : Frame) (p q : List Frame) (last : Option Outline) (place : Place) (found more : List Place)
    → fs ≡ open_parents before → Turns l.depth fs j p → Enters l j p k q last
    → Places l j place → found ≡ places before → more ≡ place ∷ found
    → rest ≡ l ∷ after → turned rest before ≡ turned lines []
    → (x : List Outline) × (opened_by last k q ≡ open_parents x) × (more ≡ places x) × (turned after x ≡ turned lines [])
place_more before rest after lines l fs j k p q last place found more is turning entering placing here put split whole =
    let there = turning (frame_at before l.depth) (outer (still_open l.depth (open_parents before))) (ap (still_open l.depth) is ∙ open_at before l.depth) in
    let inner = entering (elders before l.depth) (framed j _ _ _ there.0) in
    let parent : k ≡ frame_of (parent_depth before l.depth) (row_at before l.depth) (l.sort ∷ elders before l.depth)
    = inner.0 ∙ ap (λ (f : Frame). frame_of f.depth f.row (l.sort ∷ elders before l.depth)) there.0 in
    let round : q ≡ outer (still_open l.depth (open_parents before)) = inner.1 ∙ there.1 in
    let there_placed : place ≡ place_at before l
    = placing (elders before l.depth) (framed j _ _ _ there.0) ∙ ap (λ (f : Frame). placed_in l f (elders before l.depth)) there.0 in
    let placed : more ≡ place_at before l ∷ places before
    = put ∙ ap (λ (x : Place). x ∷ found) there_placed ∙ ap (λ (ps : List Place). place_at before l ∷ ps) here in
    (l ∷ before, rw inner.2 (rw parent (rw round refl)), placed, ap (λ (ls : List Outline). turned ls before) (sym split) ∙ whole)

-- the places left report the lines left
pub places_first : (before : List Outline) (p : Place) (ps : List Place) → places before ≡ p ∷ ps
    → (b : Outline) × (bs : List Outline) × (before ≡ b ∷ bs) × (p ≡ place_at bs b) × (ps ≡ places bs)
places_first [] p ps e = absurd cc
places_first (b ∷ bs) p ps e = (b, bs, refl, cc, cc)

pub places_none : (before : List Outline) → places before ≡ [] → before ≡ []
places_none [] e = refl
places_none (b ∷ bs) e = absurd cc

-- what is reported of the line at a place, before lines of which these stand under none of each other
abbrev pub Judges : Place → List Outline → Bool → Type 0
Judges p rs w = (before after : List Outline) → p ≡ place_at before p.line → rs ≡ roots after → w ≡ is_wrong before p.line after

-- one line more, from the last on
pub wrong_more : (before after lines : List Outline) (left left' : List Place) (p : Place) (rs rs' rs'' : List Outline) (found found' : List Bool) (w : Bool)
    → left ≡ places before → left ≡ p ∷ left' → rs ≡ roots after → found ≡ wrong_from before after → turned before after ≡ lines
    → Judges p rs w → rs' ≡ after_deeper p.line.depth rs → rs'' ≡ p.line ∷ rs' → found' ≡ w ∷ found
    → (x : List Outline) × (y : List Outline) × (left' ≡ places x) × (rs'' ≡ roots y) × (found' ≡ wrong_from x y) × (turned x y ≡ lines)
wrong_more before after lines left left' p rs rs' rs'' found found' w here top there marked whole judged kept pushed put =
    let first = places_first before p left' (sym here ∙ top) in
    let b = first.0 in
    let bs = first.1 in
    let placed = first.3 in
    let same : p.line ≡ b = ap (λ (x : Place). x.line) placed in
    let verdict : w ≡ is_wrong bs b after
    = judged bs after (placed ∙ ap (place_at bs) (sym same)) there ∙ ap (λ (x : Outline). is_wrong bs x after) same in
    let standing : rs'' ≡ roots (b ∷ after)
    = pushed ∙ ap (λ (x : List Outline). p.line ∷ x) (kept ∙ ap (λ (x : List Outline). after_deeper p.line.depth x) there) ∙ ap (λ (x : Place). x.line ∷ after_deeper x.line.depth (roots after)) placed in
    let marks : found' ≡ is_wrong bs b after ∷ wrong_from (b ∷ bs) after
    = put ∙ ap (λ (x : Bool). x ∷ found) verdict ∙ ap (λ (x : List Bool). is_wrong bs b after ∷ x) (marked ∙ ap (λ (x : List Outline). wrong_from x after) first.2) in
    (bs, b ∷ after, first.4, standing, marks, ap (λ (x : List Outline). turned x after) (sym first.2) ∙ whole)

pub wrong_done : (before after lines : List Outline) (found : List Bool) → places before ≡ [] → found ≡ wrong_from before after → turned before after ≡ lines
    → found ≡ wrong lines
wrong_done before after lines found none marked whole =
    let first = places_none before none in
    marked ∙ ap (λ (x : List Outline). wrong_from x after) first ∙ ap (λ (x : List Outline). wrong_from [] x) (ap (λ (x : List Outline). turned x after) (sym first) ∙ whole)
