-- Parts with one front meet a part by what follows the front there.
use Rattle.std.proofs.Common.{◌≡◌, Bool, true, false, not, ap, sym, subst, ◌∙◌, refl, arith, ℕ, zero, suc, length, List, [], ◌∷◌, ◌++◌, Option, Some, None}
use Rattle.std.specs.Prelude.{◌||◌, ◌&&◌, slice_get, slice_set, if◌then◌else◌}
use Rattle.std.specs.List.{list_any}
use Rattle.std.proofs.lemmas.List.Folds.{list_any-append}
use Rattle.occ_types.specs.declared.interface.Interval.{Interval}
use Rattle.occ_types.specs.declared.interface.PartSelector.{PartSelector}
use Rattle.occ_types.specs.declared.interface.PartSelector.TheVariants as s
use Rattle.occ_types.specs.declared.interface.Places.{Places}
use Rattle.occ_types.specs.declared.interface.Places.TheVariants as places
use Rattle.occ_usage_parts.specs.Keeping.{following, meets_some}
use Rattle.occ_usage_parts.specs.Parts.{all_sure, are_apart, differ, has_empty, is_empty, is_sure, some_differ}
use Rattle.occ_usage_parts.specs.Places.{is_none, meet}
use Rattle.occ_usage_parts.specs.Selecting.{unsure}
use Rattle.occ_usage_parts.specs.inside.Paths.{APath, all_ended, asked, asks, ended, meet_asked, parts_in, parts_of, sure_beside}
use Rattle.occ_usage_parts.specs.declared.place_set.PlaceSet.{PlaceSet}
use Rattle.occ_usage_parts.specs.inside.PlaceSets.{places_of}

-- ---- one part that is a front and an interval

abbrev differs : Interval → Option PartSelector → Bool
differs i None = false
differs i (Some y) = differ (s.Interval i) y

empty_after : (f : List PartSelector) (i : Interval) → has_empty (following f i) ≡ (has_empty f || is_none i.places)
empty_after f i = list_any-append (λ (x : PartSelector). is_empty x) f (s.Interval i ∷ []) ∙ ap (λ (b : Bool). has_empty f || b) (or_false (is_none i.places)) where
  or_false : (b : Bool) → (b || false) ≡ b
  or_false true = refl
  or_false false = refl

differ_after : (f q : List PartSelector) (i : Interval) → some_differ (following f i) q ≡ (some_differ f q || differs i (slice_get q (length f)))
differ_after [] [] i = refl
differ_after [] (y ∷ q) i = or_false (differ (s.Interval i) y) where
  or_false : (b : Bool) → (b || false) ≡ b
  or_false true = refl
  or_false false = refl
differ_after (x ∷ f) [] i = refl
differ_after (x ∷ f) (y ∷ q) i =
    ap (λ (b : Bool). differ x y || b) (differ_after f q i) ∙ grouped (differ x y) (some_differ f q) (differs i (slice_get q (length f))) where
      grouped : (a b c : Bool) → (a || (b || c)) ≡ ((a || b) || c)
      grouped true b c = refl
      grouped false b c = refl

meet_all : (p : Places) → meet p places.All ≡ not (is_none p)
meet_all places.None = refl
meet_all places.All = refl
meet_all (places.From a) = refl
meet_all (places.Run a n) = refl

none_meets : (p q : Places) → is_none p ≡ true → meet p q ≡ false
none_meets places.None q h = refl
none_meets places.All q h = cc
none_meets (places.From a) q h = cc
none_meets (places.Run a n) q h = cc

by_next : (i : Interval) (next : Option PartSelector) → (is_none i.places || differs i next) ≡ not (asks i (asked next))
by_next i None = by (is_none i.places) ∙ ap not (sym (meet_all i.places)) where
  by : (b : Bool) → (b || false) ≡ not (not b)
  by true = refl
  by false = refl
by_next i (Some (s.Field name)) = by (is_none i.places) where
  by : (b : Bool) → (b || true) ≡ true
  by true = refl
  by false = refl
by_next i (Some (s.Interval j)) = by (is_none i.places) (meet i.places j.places) refl where
  by : (b m : Bool) → is_none i.places ≡ b → (b || not (meet i.places j.places)) ≡ not (meet i.places j.places)
  by true m e = ap not (sym (none_meets i.places j.places e))
  by false m e = refl

joined : (a b c d e f g : Bool) → f ≡ (a || e) → g ≡ (c || d) → (f || b || g) ≡ ((a || b || c) || (e || d))
joined true b c d e f g h k = grind (arith, h, k)
joined false true c d e f g h k = grind (arith, h, k)
joined false false c d e f g h k = grind (arith, h, k)

pub front_apart : (f q : List PartSelector) (i : Interval) → are_apart (following f i) q ≡ (are_apart f q || not (asks i (asked (slice_get q (length f)))))
front_apart f q i =
    joined (has_empty f) (has_empty q) (some_differ f q) (differs i (slice_get q (length f))) (is_none i.places) (has_empty (following f i)) (some_differ (following f i) q)
    (empty_after f i) (differ_after f q i)
    ∙ ap (λ (b : Bool). are_apart f q || b) (by_next i (slice_get q (length f)))

pub sure_after : (f q : List PartSelector) (i : Interval) → all_sure (following f i) q ≡ (all_sure f q && sure_beside i (slice_get q (length f)))
sure_after [] [] i = refl
sure_after [] (y ∷ q) i = by (is_sure (s.Interval i)) (is_sure y) where
  by : (a b : Bool) → (a && b && true) ≡ (a && b)
  by true true = refl
  by true false = refl
  by false b = refl
sure_after (x ∷ f) [] i = refl
sure_after (x ∷ f) (y ∷ q) i =
    ap (λ (b : Bool). is_sure x && is_sure y && b) (sure_after f q i) ∙ by (is_sure x) (is_sure y) (all_sure f q) (sure_beside i (slice_get q (length f))) where
      by : (a b c d : Bool) → (a && b && (c && d)) ≡ ((a && b && c) && d)
      by true true c d = refl
      by true false c d = refl
      by false b c d = refl

-- ---- parts that differ where they begin

pub first_apart : (a b : List PartSelector) (x y : PartSelector) → slice_get a 0 ≡ Some x → slice_get b 0 ≡ Some y → differ x y ≡ true → are_apart a b ≡ true
first_apart [] b x y h i e = cc
first_apart (p ∷ a) [] x y h i e = cc
first_apart (p ∷ a) (q ∷ b) x y h i e =
    let one : p ≡ x = grind (arith, h) in
    let other : q ≡ y = grind (arith, i) in
    by (has_empty (p ∷ a)) (has_empty (q ∷ b)) (differ p q) (some_differ a b) (ap (λ (z : PartSelector). differ z q) one ∙ ap (differ x) other ∙ e) where
      by : (m n d r : Bool) → d ≡ true → (m || n || (d || r)) ≡ true
      by true n d r k = refl
      by false true d r k = refl
      by false false true r k = refl
      by false false false r k = cc

-- ---- all places that follow a front

all_meet : (f q : List PartSelector) (ps : List Places) → meets_some (all_ended f ps) q ≡ (not (are_apart f q) && meet_asked ps (asked (slice_get q (length f))))
all_meet f q ps = with (asked (slice_get q (length f))) refl ps where
  with : (next : Option Places) → asked (slice_get q (length f)) ≡ next → (ps : List Places) → meets_some (all_ended f ps) q ≡ (not (are_apart f q) && meet_asked ps next)
  with None e [] = none (are_apart f q) where
    none : (a : Bool) → false ≡ (not a && false)
    none true = refl
    none false = refl
  with None e (p ∷ ps) =
      let rest = with None e ps in
      let one : are_apart (following f (unsure p)) q ≡ (are_apart f q || not (asks (unsure p) None)) = front_apart f q (unsure p) ∙ ap (λ (n : Option Places). are_apart f q || not (asks (unsure p) n)) e in
      step (are_apart (following f (unsure p)) q) (are_apart f q) (meets_some (all_ended f ps) q) one rest where
        step : (a b r : Bool) → a ≡ (b || true) → r ≡ (not b && false) → (not a || r) ≡ (not b && false)
        step a true r h k = grind (arith, h, k)
        step a false r h k = grind (arith, h, k)
  with (Some j) e [] = none (are_apart f q) where
    none : (a : Bool) → false ≡ (not a && false)
    none true = refl
    none false = refl
  with (Some j) e (p ∷ ps) =
      let rest = with (Some j) e ps in
      let one : are_apart (following f (unsure p)) q ≡ (are_apart f q || not (meet p j)) = front_apart f q (unsure p) ∙ ap (λ (n : Option Places). are_apart f q || not (asks (unsure p) n)) e in
      step (are_apart (following f (unsure p)) q) (are_apart f q) (meet p j) (meets_some (all_ended f ps) q) (list_any (λ (p : Places). meet p j) ps) one rest where
        step : (a b m r l : Bool) → a ≡ (b || not m) → r ≡ (not b && l) → (not a || r) ≡ (not b && (m || l))
        step a true m r l h k = grind (arith, h, k)
        step a false true r l h k = grind (arith, h, k)
        step a false false r l h k = grind (arith, h, k)

whole_meets : (w : Bool) (f q : List PartSelector) → meets_some (if w then f ∷ [] else []) q ≡ (w && not (are_apart f q))
whole_meets true f q = by (are_apart f q) where
  by : (a : Bool) → (not a || false) ≡ not a
  by true = refl
  by false = refl
whole_meets false f q = refl

-- a front that may be a part, and places that follow it
pub path_meets : (w : Bool) (f q : List PartSelector) (ps : List Places) → meets_some ((if w then f ∷ [] else []) ++ all_ended f ps) q
    ≡ (not (are_apart f q) && (w || meet_asked ps (asked (slice_get q (length f)))))
path_meets w f q ps =
    list_any-append (λ (p : List PartSelector). not (are_apart p q)) (if w then f ∷ [] else []) (all_ended f ps)
    ∙ ap (λ (b : Bool). b || meets_some (all_ended f ps) q) (whole_meets w f q)
    ∙ ap (λ (b : Bool). (w && not (are_apart f q)) || b) (all_meet f q ps)
    ∙ by w (are_apart f q) (meet_asked ps (asked (slice_get q (length f)))) where
      by : (w a m : Bool) → ((w && not a) || (not a && m)) ≡ (not a && (w || m))
      by true true m = refl
      by true false m = refl
      by false true m = refl
      by false false m = refl

pub plain : (a w m : Bool) → a ≡ false → w ≡ false → (not a && (w || m)) ≡ m
plain true w m h k = cc
plain false true m h k = cc
plain false false m h k = refl

-- ---- one part more

asked_more : (old new : List Places) (i : Interval) → ((q : Places) → list_any (λ (r : Places). meet r q) new ≡ (list_any (λ (r : Places). meet r q) old || meet i.places q))
    → (next : Option Places) → meet_asked new next ≡ (meet_asked old next || asks i next)
asked_more old new i law None = refl
asked_more old new i law (Some q) = law q

places_added : (w : Bool) (f : List PartSelector) (old new : List Places) (i : Interval)
    → ((q : Places) → list_any (λ (r : Places). meet r q) new ≡ (list_any (λ (r : Places). meet r q) old || meet i.places q)) → (q : List PartSelector)
    → meets_some ((if w then f ∷ [] else []) ++ all_ended f new) q ≡ (meets_some ((if w then f ∷ [] else []) ++ all_ended f old) q || not (are_apart (following f i) q))
places_added w f old new i law q =
    by (are_apart f q) w (meet_asked old next) (meet_asked new next) (asks i next) (are_apart (following f i) q)
    (meets_some ((if w then f ∷ [] else []) ++ all_ended f new) q) (meets_some ((if w then f ∷ [] else []) ++ all_ended f old) q)
    (asked_more old new i law next) (front_apart f q i) (path_meets w f q new) (path_meets w f q old) where
      next : Option Places
      next = asked (slice_get q (length f))

      by : (a w m n k r x y : Bool) → n ≡ (m || k) → r ≡ (a || not k) → x ≡ (not a && (w || n)) → y ≡ (not a && (w || m)) → x ≡ (y || not r)
      by true w m n k r x y h i j l = grind (arith, h, i, j, l)
      by false true m n k r x y h i j l = grind (arith, h, i, j, l)
      by false false true n k r x y h i j l = grind (arith, h, i, j, l)
      by false false false n true r x y h i j l = grind (arith, h, i, j, l)
      by false false false n false r x y h i j l = grind (arith, h, i, j, l)

asked_fewer : (old new : List Places) → ((q : Places) → list_any (λ (r : Places). meet r q) old ≡ false → list_any (λ (r : Places). meet r q) new ≡ false)
    → (next : Option Places) → meet_asked old next ≡ false → meet_asked new next ≡ false
asked_fewer old new law None h = refl
asked_fewer old new law (Some q) h = law q h

places_fewer : (w : Bool) (f : List PartSelector) (old new : List Places)
    → ((q : Places) → list_any (λ (r : Places). meet r q) old ≡ false → list_any (λ (r : Places). meet r q) new ≡ false) → (q : List PartSelector)
    → meets_some ((if w then f ∷ [] else []) ++ all_ended f old) q ≡ false → meets_some ((if w then f ∷ [] else []) ++ all_ended f new) q ≡ false
places_fewer w f old new law q h =
    by (are_apart f q) w (meet_asked old next) (meet_asked new next) (asked_fewer old new law next)
    (meets_some ((if w then f ∷ [] else []) ++ all_ended f new) q) (path_meets w f q new) (sym (path_meets w f q old) ∙ h) where
      next : Option Places
      next = asked (slice_get q (length f))

      by : (a w m n : Bool) → (m ≡ false → n ≡ false) → (x : Bool) → x ≡ (not a && (w || n)) → (not a && (w || m)) ≡ false → x ≡ false
      by true w m n k x e h = e
      by false true m n k x e h = cc
      by false false true n k x e h = cc
      by false false false n k x e h = e ∙ k refl

-- ---- as paths

pub path_added : (v : APath) (w : Bool) (f : List PartSelector) (s t : PlaceSet) (last : Option Interval) (i : Interval) → v ≡ (f, parts_of f w s) → last ≡ Some i
    → ((q : Places) → list_any (λ (r : Places). meet r q) (places_of t) ≡ (list_any (λ (r : Places). meet r q) (places_of s) || meet i.places q))
    → (q : List PartSelector) → meets_some (parts_of f w t) q ≡ (meets_some v.1 q || not (are_apart (ended v.0 last) q))
path_added v w f s t last i e l law q =
    subst (λ (u : APath). meets_some (parts_of f w t) q ≡ (meets_some u.1 q || not (are_apart (ended u.0 last) q))) (sym e)
    (subst (λ (o : Option Interval). meets_some (parts_of f w t) q ≡ (meets_some (parts_of f w s) q || not (are_apart (ended f o) q))) (sym l)
    (places_added w f (places_of s) (places_of t) i law q))

pub path_fewer : (v : APath) (w : Bool) (f : List PartSelector) (s t : PlaceSet) → v ≡ (f, parts_of f w s)
    → ((q : Places) → list_any (λ (r : Places). meet r q) (places_of s) ≡ false → list_any (λ (r : Places). meet r q) (places_of t) ≡ false)
    → (q : List PartSelector) → meets_some v.1 q ≡ false → meets_some (parts_of f w t) q ≡ false
path_fewer v w f s t e law q h = places_fewer w f (places_of s) (places_of t) law q (subst (λ (u : APath). meets_some u.1 q ≡ false) e h)

pub whole_added : (v : APath) (w : Bool) (f : List PartSelector) (s : PlaceSet) → v ≡ (f, parts_of f w s)
    → (q : List PartSelector) → meets_some (parts_of f true s) q ≡ (meets_some v.1 q || not (are_apart (ended v.0 None) q))
whole_added v w f s e q =
    subst (λ (u : APath). meets_some (parts_of f true s) q ≡ (meets_some u.1 q || not (are_apart (ended u.0 None) q))) (sym e)
    (path_meets true f q (places_of s) ∙ by (are_apart f q) w (meet_asked (places_of s) (asked (slice_get q (length f))))
    ∙ ap (λ (b : Bool). b || not (are_apart f q)) (sym (path_meets w f q (places_of s)))) where
      by : (a w m : Bool) → (not a && (true || m)) ≡ ((not a && (w || m)) || not a)
      by true w m = refl
      by false true m = refl
      by false false true = refl
      by false false false = refl

-- ---- a list of paths

both : (xs ys : List (List PartSelector)) (q : List PartSelector) → meets_some (xs ++ ys) q ≡ (meets_some xs q || meets_some ys q)
both xs ys q = list_any-append (λ (p : List PartSelector). not (are_apart p q)) xs ys

pub first_meets : (p : APath) (more : List APath) (q : List PartSelector) → meets_some (parts_in (p ∷ more)) q ≡ (meets_some p.1 q || meets_some (parts_in more) q)
first_meets p more q = both p.1 (parts_in more) q

pub pushed_meets : (paths : List APath) (p : APath) (q : List PartSelector) → meets_some (parts_in (paths ++ p ∷ [])) q ≡ (meets_some (parts_in paths) q || meets_some p.1 q)
pushed_meets [] p q = both p.1 [] q ∙ by (meets_some p.1 q) where
  by : (a : Bool) → (a || false) ≡ a
  by true = refl
  by false = refl
pushed_meets (r ∷ paths) p q =
    both r.1 (parts_in (paths ++ p ∷ [])) q ∙ ap (λ (b : Bool). meets_some r.1 q || b) (pushed_meets paths p q)
    ∙ by (meets_some r.1 q) (meets_some (parts_in paths) q) (meets_some p.1 q) ∙ ap (λ (b : Bool). b || meets_some p.1 q) (sym (both r.1 (parts_in paths) q)) where
      by : (a b c : Bool) → (a || (b || c)) ≡ ((a || b) || c)
      by true b c = refl
      by false b c = refl

pub set_meets : (paths : List APath) (at : ℕ) (old new : APath) (more : Bool) (q : List PartSelector) → slice_get paths at ≡ Some old
    → meets_some new.1 q ≡ (meets_some old.1 q || more) → meets_some (parts_in (slice_set paths at new)) q ≡ (meets_some (parts_in paths) q || more)
set_meets [] at old new more q h e = cc
set_meets (r ∷ paths) zero old new more q h e =
    let is : r ≡ old = grind (arith, h) in
    both new.1 (parts_in paths) q
    ∙ by (meets_some r.1 q) (meets_some (parts_in paths) q) more (meets_some new.1 q) (e ∙ ap (λ (p : APath). meets_some p.1 q || more) (sym is))
    ∙ ap (λ (b : Bool). b || more) (sym (both r.1 (parts_in paths) q)) where
      by : (a b c n : Bool) → n ≡ (a || c) → (n || b) ≡ ((a || b) || c)
      by true b c n k = grind (arith, k)
      by false true c n k = grind (arith, k)
      by false false c n k = grind (arith, k)
set_meets (r ∷ paths) (suc at) old new more q h e =
    both r.1 (parts_in (slice_set paths at new)) q ∙ ap (λ (b : Bool). meets_some r.1 q || b) (set_meets paths at old new more q h e)
    ∙ by (meets_some r.1 q) (meets_some (parts_in paths) q) more ∙ ap (λ (b : Bool). b || more) (sym (both r.1 (parts_in paths) q)) where
      by : (a b c : Bool) → (a || (b || c)) ≡ ((a || b) || c)
      by true b c = refl
      by false b c = refl

pub set_fewer : (paths : List APath) (at : ℕ) (old new : APath) (q : List PartSelector) → slice_get paths at ≡ Some old
    → (meets_some old.1 q ≡ false → meets_some new.1 q ≡ false) → meets_some (parts_in paths) q ≡ false → meets_some (parts_in (slice_set paths at new)) q ≡ false
set_fewer [] at old new q h f k = cc
set_fewer (r ∷ paths) zero old new q h f k =
    let is : r ≡ old = grind (arith, h) in
    let none : (meets_some r.1 q || meets_some (parts_in paths) q) ≡ false = sym (both r.1 (parts_in paths) q) ∙ k in
    let here : meets_some old.1 q ≡ false = ap (λ (p : APath). meets_some p.1 q) (sym is) ∙ left (meets_some r.1 q) (meets_some (parts_in paths) q) none in
    both new.1 (parts_in paths) q ∙ by (meets_some new.1 q) (meets_some (parts_in paths) q) (f here) (right (meets_some r.1 q) (meets_some (parts_in paths) q) none) where
      left : (a b : Bool) → (a || b) ≡ false → a ≡ false
      left true b e = cc
      left false b e = refl

      right : (a b : Bool) → (a || b) ≡ false → b ≡ false
      right true b e = cc
      right false b e = e

      by : (a b : Bool) → a ≡ false → b ≡ false → (a || b) ≡ false
      by true b d e = cc
      by false b d e = e
set_fewer (r ∷ paths) (suc at) old new q h f k =
    let none : (meets_some r.1 q || meets_some (parts_in paths) q) ≡ false = sym (both r.1 (parts_in paths) q) ∙ k in
    both r.1 (parts_in (slice_set paths at new)) q
    ∙ by (meets_some r.1 q) (meets_some (parts_in (slice_set paths at new)) q) (left (meets_some r.1 q) (meets_some (parts_in paths) q) none)
    (set_fewer paths at old new q h f (right (meets_some r.1 q) (meets_some (parts_in paths) q) none)) where
      left : (a b : Bool) → (a || b) ≡ false → a ≡ false
      left true b e = cc
      left false b e = refl

      right : (a b : Bool) → (a || b) ≡ false → b ≡ false
      right true b e = cc
      right false b e = e

      by : (a b : Bool) → a ≡ false → b ≡ false → (a || b) ≡ false
      by true b d e = cc
      by false b d e = e
