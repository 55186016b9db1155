-- One more name is entered, and the last is left.
use Rattle.std.proofs.Common.{◌≡◌, ◌+◌, ℕ, zero, suc, ◌⊎◌, inl, inr, option_map, bytes_eq, List, [], ◌∷◌, ◌++◌, length, Bool, true, false, cond, Option, Some, None, refl, ap, sym, ◌∙◌, subst, arith, append_assoc, append-nil, length-append}
use Rattle.std.proofs.Math.Seq.{take-append_seam}
use Rattle.std.specs.Prelude.{IsSome, is_some, take, ◌-◌, ◌≤◌}
use Rattle.std.specs.Ordering.{nat_cmp, is_eq}
use Rattle.std.specs.declared.cmp.Ordering.{Ordering}
use Rattle.std.specs.declared.cmp.Ordering.TheVariants.{Less, Equal, Greater}
use Rattle.std.proofs.lemmas.Cmp.{nat_list_cmp_total}
use Rattle.std.specs.Cmp.{tied_itself}
use Rattle.std.specs.Cmp.Lexicographic.{slice_cmp}
use Rattle.std.proofs.lemmas.Map.Lookups.{exact_bytes}
use Rattle.std.proofs.lemmas.Map.Text.{is_eq-slice_cmp}
use Rattle.occ_scope.specs.Nearest.{nearest, last_place_from, later_or, is_same_name}
use Rattle.occ_scope.specs.inside.Kept.{names_of, AreChained, AreNearest, IsKept, if_same, standing}
use Rattle.occ_scope.specs.inside.Places.{Puts, Restores, place_held}
use Rattle.occ_scope.specs.declared.places.Places.{Places}
use Rattle.std.specs.List.{slice_get}
use Rattle.occ_scope.specs.declared.mapped.Entry.{Entry}
use Rattle.occ_scope.specs.declared.mapped.Mapped.TheInside.{Inside}

later_cases : (b : Bool) (x y : ℕ) (r c : Option ℕ) → x ≡ y → later_or (cond b (Some x) r) c ≡ cond b (Some y) (later_or r c)
later_cases true x y r c e = ap Some e
later_cases false x y r c e = refl

none_later : (b : Bool) (x y : ℕ) → x ≡ y → cond b (Some x) None ≡ cond b (Some y) None
none_later true x y e = ap Some e
none_later false x y e = refl

last_snoc : (k : ℕ) (xs : List (List ℕ)) (n q : List ℕ) → last_place_from k (xs ++ n ∷ []) q ≡ cond (is_same_name n q) (Some (k + length xs)) (last_place_from k xs q)
last_snoc k [] n q = none_later (is_same_name n q) k (k + 0) (omega arith)
last_snoc k (x ∷ xs) n q =
    ap (λ (r : Option ℕ). later_or r (cond (is_same_name x q) (Some k) None)) (last_snoc (k + 1) xs n q)
    ∙ later_cases (is_same_name n q) (k + 1 + length xs) (k + suc (length xs)) (last_place_from (k + 1) xs q) (cond (is_same_name x q) (Some k) None) (omega arith)

zero_more : (b : Bool) (n : ℕ) (r : Option ℕ) → cond b (Some (0 + n)) r ≡ cond b (Some n) r
zero_more true n r = ap Some (omega arith)
zero_more false n r = refl

pub nearest_snoc : (xs : List (List ℕ)) (n q : List ℕ) → nearest (xs ++ n ∷ []) q ≡ cond (is_same_name n q) (Some (length xs)) (nearest xs q)
nearest_snoc xs n q = last_snoc 0 xs n q ∙ zero_more (is_same_name n q) (length xs) (nearest xs q)

pub names_snoc : (es : List Entry) (e : Entry) → names_of (es ++ e ∷ []) ≡ names_of es ++ e.name ∷ []
names_snoc [] e = refl
names_snoc (x ∷ es) e = ap (λ (ns : List (List ℕ)). x.name ∷ ns) (names_snoc es e)

pub names_length : (es : List Entry) → length (names_of es) ≡ length es
names_length [] = refl
names_length (x ∷ es) = ap suc (names_length es)

regroup : (before : List (List ℕ)) (x : List ℕ) (ns : List (List ℕ)) → (before ++ x ∷ []) ++ ns ≡ before ++ x ∷ ns
regroup before x ns = append_assoc before (x ∷ []) ns

chained_snoc : (before : List (List ℕ)) (es : List Entry) (e : Entry) → AreChained before es → e.hidden ≡ nearest (before ++ names_of es) e.name → AreChained before (es ++ e ∷ [])
chained_snoc before [] e h is = (is ∙ ap (λ (ns : List (List ℕ)). nearest ns e.name) (append-nil before), tt)
chained_snoc before (x ∷ es) e h is = (h.0, chained_snoc (before ++ x.name ∷ []) es e h.1 (is ∙ sym (ap (λ (ns : List (List ℕ)). nearest ns e.name) (regroup before x.name (names_of es)))))

chained_front : (before : List (List ℕ)) (es : List Entry) (e : Entry) → AreChained before (es ++ e ∷ []) → AreChained before es × (e.hidden ≡ nearest (before ++ names_of es) e.name)
chained_front before [] e h = (tt, h.0 ∙ ap (λ (ns : List (List ℕ)). nearest ns e.name) (sym (append-nil before)))
chained_front before (x ∷ es) e h = let r = chained_front (before ++ x.name ∷ []) es e h.1 in ((h.0, r.0), r.1 ∙ ap (λ (ns : List (List ℕ)). nearest ns e.name) (regroup before x.name (names_of es)))

pub chained_more : (es : List Entry) (e : Entry) → AreChained [] es → e.hidden ≡ nearest (names_of es) e.name → AreChained [] (es ++ e ∷ [])
chained_more es e h is = chained_snoc [] es e h is

pub chained_less : (es : List Entry) (e : Entry) → AreChained [] (es ++ e ∷ []) → AreChained [] es
chained_less es e h = (chained_front [] es e h).0

pub last_hides : (es : List Entry) (e : Entry) → AreChained [] (es ++ e ∷ []) → e.hidden ≡ nearest (names_of es) e.name
last_hides es e h = (chained_front [] es e h).1

nearest_of_all : (es all : List Entry) (e : Entry) (q : List ℕ) → all ≡ es ++ e ∷ [] → nearest (names_of all) q ≡ cond (is_same_name e.name q) (Some (length (names_of es))) (nearest (names_of es) q)
nearest_of_all es all e q is = ap (λ (xs : List Entry). nearest (names_of xs) q) is ∙ ap (λ (ns : List (List ℕ)). nearest ns q) (names_snoc es e) ∙ nearest_snoc (names_of es) e.name q

pub equal : (r : Ordering) → is_eq r ≡ true → r ≡ Equal
equal Less h = absurd cc
equal Equal h = refl
equal Greater h = absurd cc

pub same_itself : (n : List ℕ) → is_same_name n n ≡ true
same_itself n = ap is_eq (tied_itself nat_list_cmp_total n)

pub put_is_held : (m m' : Places) (n : List ℕ) (place : ℕ) → Puts m m' n (Some place) → IsSome (place_held m' n)
put_is_held m m' n place puts = ap is_some (puts n ∙ ap (λ (b : Bool). cond b (Some place) (place_held m n)) (same_itself n))

-- ---- what is held of a name, where one more name is entered

-- another name at the end tells nothing of this one
other_got : (xs : List (List ℕ)) (n q : List ℕ) (k p : ℕ) → is_same_name n q ≡ false → if_same q k (slice_get (xs ++ n ∷ []) p) ≡ if_same q k (slice_get xs p)
other_got [] n q k zero h = ap (λ (b : Bool). cond b (Some k) None) h
other_got [] n q k (suc p) h = refl
other_got (x ∷ xs) n q k zero h = refl
other_got (x ∷ xs) n q k (suc p) h = other_got xs n q k p h

other_stands : (xs : List (List ℕ)) (n q : List ℕ) (held : Option ℕ) → is_same_name n q ≡ false → standing (xs ++ n ∷ []) q held ≡ standing xs q held
other_stands xs n q None h = refl
other_stands xs n q (Some p) h = other_got xs n q p p h

last_got : (xs : List (List ℕ)) (n q : List ℕ) (k : ℕ) → is_same_name n q ≡ true → if_same q k (slice_get (xs ++ n ∷ []) (length xs)) ≡ Some k
last_got [] n q k h = ap (λ (b : Bool). cond b (Some k) None) h
last_got (x ∷ xs) n q k h = last_got xs n q k h

past_got : (xs : List (List ℕ)) (q : List ℕ) (k : ℕ) → if_same q k (slice_get xs (length xs)) ≡ None
past_got [] q k = refl
past_got (x ∷ xs) q k = past_got xs q k

last_stands : (xs : List (List ℕ)) (n q : List ℕ) → is_same_name n q ≡ true → standing (xs ++ n ∷ []) q (Some (length xs)) ≡ Some (length xs)
last_stands xs n q h = last_got xs n q (length xs) h

-- what is behind the last stands nowhere
past_stands : (xs : List (List ℕ)) (q : List ℕ) → standing xs q (Some (length xs)) ≡ None
past_stands xs q = past_got xs q (length xs)

abbrev or_zero : Option ℕ → ℕ
or_zero None = 0
or_zero (Some k) = k

only_some : (m n : ℕ) → Some m ≡ Some n → m ≡ n
only_some m n e = ap or_zero e

if_some : (q : List ℕ) (p k : ℕ) (name : Option (List ℕ)) → if_same q p name ≡ Some k → Some p ≡ Some k
if_some q p k None e = absurd cc
if_some q p k (Some x) e = by (is_same_name x q) e
  where
    by : (b : Bool) → cond b (Some p) None ≡ Some k → Some p ≡ Some k
    by true h = h
    by false h = absurd cc

-- what stands there is what is held
held_is : (xs : List (List ℕ)) (q : List ℕ) (held : Option ℕ) (k : ℕ) → standing xs q held ≡ Some k → held ≡ Some k
held_is xs q None k e = absurd cc
held_is xs q (Some p) k e = if_some q p k (slice_get xs p) e

-- ---- the nearest stands where it is

abbrev NearestStands : ℕ → List (List ℕ) → List ℕ → ℕ → Type 0
NearestStands k xs q h = (k ≤ h) × (if_same q h (slice_get xs (h - k)) ≡ Some h)

here_stands : (b : Bool) (k h : ℕ) → cond b (Some k) None ≡ Some h → (k ≡ h) × (cond b (Some h) None ≡ Some h)
here_stands true k h e = (only_some k h e, refl)
here_stands false k h e = absurd cc

split : (r c : Option ℕ) (h : ℕ) → later_or r c ≡ Some h → (r ≡ Some h) ⊎ (c ≡ Some h)
split (Some m) c h e = inl e
split None c h e = inr e

one_on : (k : ℕ) (x : List ℕ) (xs : List (List ℕ)) (q : List ℕ) (h : ℕ) → (last_place_from (k + 1) xs q ≡ Some h → NearestStands (k + 1) xs q h) → (last_place_from (k + 1) xs q ≡ Some h) ⊎ (cond (is_same_name x q) (Some k) None ≡ Some h) → NearestStands k (x ∷ xs) q h
one_on k x xs q h deeper (inl e) =
    let d = deeper e in
    let at : h - k ≡ suc (h - (k + 1)) = omega (arith, d.0) in
    (omega (arith, d.0), subst (λ (j : ℕ). if_same q h (slice_get (x ∷ xs) j) ≡ Some h) (sym at) d.1)
one_on k x xs q h deeper (inr e) =
    let r = here_stands (is_same_name x q) k h e in
    let at : h - k ≡ 0 = omega (arith, r.0) in
    (omega (arith, r.0), subst (λ (j : ℕ). if_same q h (slice_get (x ∷ xs) j) ≡ Some h) (sym at) r.1)

nearest_in : (k : ℕ) (xs : List (List ℕ)) (q : List ℕ) (h : ℕ) → last_place_from k xs q ≡ Some h → NearestStands k xs q h
nearest_in k [] q h e = absurd cc
nearest_in k (x ∷ xs) q h e = one_on k x xs q h (nearest_in (k + 1) xs q h) (split (last_place_from (k + 1) xs q) (cond (is_same_name x q) (Some k) None) h e)

nearest_stands : (xs : List (List ℕ)) (q : List ℕ) (h : ℕ) → nearest xs q ≡ Some h → standing xs q (Some h) ≡ Some h
nearest_stands xs q h e =
    let d = nearest_in 0 xs q h e in
    let at : h - 0 ≡ h = omega arith in
    subst (λ (j : ℕ). if_same q h (slice_get xs j) ≡ Some h) at d.1

-- ---- what stands after a name is put, and after it is taken back

put_stands : (xs : List (List ℕ)) (n q : List ℕ) (place : ℕ) (held : Option ℕ) (b : Bool) → is_same_name n q ≡ b → place ≡ length xs → standing xs q held ≡ nearest xs q → standing (xs ++ n ∷ []) q (cond b (Some place) held) ≡ cond b (Some (length xs)) (nearest xs q)
put_stands xs n q place held true s at near = ap (λ (k : ℕ). standing (xs ++ n ∷ []) q (Some k)) at ∙ last_stands xs n q s
put_stands xs n q place held false s at near = other_stands xs n q held s ∙ near

-- what is put, or stays, is the nearest
back_stands : (xs : List (List ℕ)) (n q : List ℕ) (hidden : Option ℕ) (m m' : Places) → Restores m m' n hidden → hidden ≡ nearest xs n → (b : Bool) → is_same_name n q ≡ b → (b ≡ true → n ≡ q) → (b ≡ true → place_held m q ≡ Some (length xs)) → (b ≡ false → standing xs q (place_held m q) ≡ nearest xs q)
    → standing xs q (place_held m' q) ≡ nearest xs q
back_stands xs n q None m m' restores hides true s same at near =
    ap (λ (k : Places). standing xs q (place_held k q)) restores ∙ ap (standing xs q) (at refl) ∙ past_stands xs q ∙ hides ∙ ap (nearest xs) (same refl)
back_stands xs n q None m m' restores hides false s same at near =
    ap (λ (k : Places). standing xs q (place_held k q)) restores ∙ near refl
back_stands xs n q (Some h) m m' restores hides true s same at near =
    let e : Some h ≡ nearest xs q = hides ∙ ap (nearest xs) (same refl) in
    let p : place_held m' q ≡ Some h = restores q ∙ ap (λ (b : Bool). cond b (Some h) (place_held m q)) s in
    ap (standing xs q) p ∙ nearest_stands xs q h (sym e) ∙ e
back_stands xs n q (Some h) m m' restores hides false s same at near =
    let p : place_held m' q ≡ place_held m q = restores q ∙ ap (λ (b : Bool). cond b (Some h) (place_held m q)) s in
    ap (standing xs q) p ∙ near refl

-- ---- what is kept

abbrev pub inside : List Entry → Places → Inside
inside es m = record { entries = es; newest = m }

pub kept_more : (es all : List Entry) (m m' : Places) (e : Entry) (place : ℕ) → AreChained [] es → AreNearest es m → all ≡ es ++ e ∷ [] → e.hidden ≡ nearest (names_of es) e.name → place ≡ length es → Puts m m' e.name (Some place)
    → IsKept (inside all m')
kept_more es all m m' e place chained near is hides at puts =
    record {
      chained = subst (AreChained []) (sym is) (chained_more es e chained hides);
      newest = λ q. ap (standing (names_of all) q) (puts q)
          ∙ ap (λ (ns : List (List ℕ)). standing ns q (cond (is_same_name e.name q) (Some place) (place_held m q))) (ap names_of is ∙ names_snoc es e)
          ∙ put_stands (names_of es) e.name q place (place_held m q) (is_same_name e.name q) refl (at ∙ sym (names_length es)) (near q)
          ∙ sym (nearest_of_all es all e q is);
    }

-- what stood with one name more, by whether it is this one
stood : (xs : List (List ℕ)) (n q : List ℕ) (held : Option ℕ) (b : Bool) → is_same_name n q ≡ b → standing (xs ++ n ∷ []) q held ≡ cond b (Some (length xs)) (nearest xs q) → (b ≡ true → held ≡ Some (length xs)) × (b ≡ false → standing xs q held ≡ nearest xs q)
stood xs n q held true s h = (λ t. held_is (xs ++ n ∷ []) q held (length xs) h, λ f. absurd cc)
stood xs n q held false s h = (λ t. absurd cc, λ f. sym (other_stands xs n q held s) ∙ h)

pub kept_less : (es all : List Entry) (m m' : Places) (e : Entry) → AreChained [] all → AreNearest all m → all ≡ es ++ e ∷ [] → Restores m m' e.name e.hidden
    → IsKept (inside es m')
kept_less es all m m' e chained near is restores =
    let c : AreChained [] (es ++ e ∷ []) = subst (AreChained []) is chained in
    let before = λ (q : List ℕ). stood (names_of es) e.name q (place_held m q) (is_same_name e.name q) refl
    (ap (λ (ns : List (List ℕ)). standing ns q (place_held m q)) (sym (ap names_of is ∙ names_snoc es e)) ∙ near q ∙ nearest_of_all es all e q is) in
    record {
      chained = chained_less es e c;
      newest = λ q. back_stands (names_of es) e.name q e.hidden m m' restores (last_hides es e c) (is_same_name e.name q) refl
          (λ h. exact_bytes e.name q (equal (slice_cmp nat_cmp e.name q) h))
          ((before q).0) ((before q).1);
    }

put_at : (place : ℕ) (held x r : Option ℕ) (b : Bool) → held ≡ cond b (Some place) x → (b ≡ true → held ≡ Some place) × (b ≡ false → held ≡ x)
put_at place held x r true h = (λ t. h, λ f. absurd cc)
put_at place held x r false h = (λ t. absurd cc, λ f. h)

-- what was put is taken back
pub kept_back : (es : List Entry) (m m' m'' : Places) (name : List ℕ) (place : ℕ) (hidden : Option ℕ) → AreChained [] es → AreNearest es m → hidden ≡ nearest (names_of es) name → place ≡ length es → Puts m m' name (Some place) → Restores m' m'' name hidden
    → IsKept (inside es m'')
kept_back es m m' m'' name place hidden chained near hides at puts restores =
    let put = λ (q : List ℕ). put_at place (place_held m' q) (place_held m q) None (is_same_name name q) (puts q) in
    record {
      chained = chained;
      newest = λ q. back_stands (names_of es) name q hidden m' m'' restores hides (is_same_name name q) refl
          (λ h. exact_bytes name q (equal (slice_cmp nat_cmp name q) h))
          (λ h. (put q).0 h ∙ ap Some (at ∙ sym (names_length es)))
          (λ h. ap (standing (names_of es) q) ((put q).1 h) ∙ near q);
    }

pub is_held : (es all : List Entry) (m : Places) (e : Entry) → AreNearest all m → all ≡ es ++ e ∷ [] → IsSome (place_held m e.name)
is_held es all m e near is =
    ap is_some (held_is (names_of all) e.name (place_held m e.name) (length (names_of es))
    (near e.name ∙ nearest_of_all es all e e.name is ∙ ap (λ (b : Bool). cond b (Some (length (names_of es))) (nearest (names_of es) e.name)) (same_itself e.name)))

-- ---- an entry that is looked at

name_at : (es : List Entry) (place : ℕ) (e : Entry) → slice_get es place ≡ Some e → slice_get (names_of es) place ≡ Some e.name
name_at [] place e h = absurd cc
name_at (x ∷ es) zero e h = ap (λ (o : Option Entry). option_map (λ (y : Entry). y.name) o) h
name_at (x ∷ es) (suc place) e h = name_at es place e h

no_name_at : (es : List Entry) (place : ℕ) → slice_get es place ≡ None → slice_get (names_of es) place ≡ None
no_name_at [] place h = refl
no_name_at (x ∷ es) zero h = absurd cc
no_name_at (x ∷ es) (suc place) h = no_name_at es place h

-- what stands at a place where an entry is, and where none is
pub got_same : (es : List Entry) (name : List ℕ) (place : ℕ) (e : Entry) → Some e ≡ slice_get es place → (b : Bool) → b ≡ bytes_eq e.name name → standing (names_of es) name (Some place) ≡ cond b (Some place) None
got_same es name place e at b same = ap (if_same name place) (name_at es place e (sym at)) ∙ ap (λ (c : Bool). cond c (Some place) None) (is_eq-slice_cmp e.name name ∙ sym same)

pub got_none : (es : List Entry) (name : List ℕ) (place : ℕ) → None ≡ slice_get es place → standing (names_of es) name (Some place) ≡ None
got_none es name place at = ap (if_same name place) (no_name_at es place (sym at))

pub take_front : (ns : List (List ℕ)) (n : List ℕ) → take (length (ns ++ n ∷ []) - 1) (ns ++ n ∷ []) ≡ ns
take_front ns n = let k : length (ns ++ n ∷ []) - 1 ≡ length ns = omega (arith, length-append ns (n ∷ [])) in ap (λ (j : ℕ). take j (ns ++ n ∷ [])) k ∙ take-append_seam ns (n ∷ [])

pub front_of : (es all : List Entry) (e : Entry) → all ≡ es ++ e ∷ [] → names_of es ≡ take (length (names_of all) - 1) (names_of all)
front_of es all e is = sym (take_front (names_of es) e.name) ∙ ap (λ (ns : List (List ℕ)). take (length ns - 1) ns) (sym (ap names_of is ∙ names_snoc es e))
