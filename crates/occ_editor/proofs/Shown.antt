-- Of which files a room tells something else than before.
use Rattle.std.proofs.Common.{◌≡◌, ◌∙◌, ◌↔◌, ◌⊎◌, inl, inr, ◌+◌, ◌++◌, ◌<◌, ◌≤◌, ◌==◌, drop, ◌&&◌, ◌||◌, Bool, true, false, cond, not, ℕ, zero, suc, List, [], ◌∷◌, length, map, slice_set, Option, Some, None, IfSome, String, Global, arith, refl, subst, sym, ap, if◌then◌else◌}
use Rattle.std.proofs.lemmas.Map.Text.{is_eq-slice_cmp}
use Rattle.std.proofs.lemmas.Slice.Eq.{bytes_eq-Decides}
use Rattle.std.specs.BTreeSet.{BTreeSet, insert_key}
use Rattle.std.specs.Cmp.Lexicographic.{slice_cmp}
use Rattle.std.specs.List.{Contains, filter, list_any, slice_get}
use Rattle.std.specs.Ordering.{is_eq, match_ordering, nat_cmp}
use Rattle.std.specs.declared.cmp.Ordering.{Ordering}
use Rattle.std.specs.declared.cmp.Ordering.TheVariants as ordering
use Rattle.std.specs.Str.{bytes_eq}
use Rattle.std.specs.String.{string_bytes}
use Rattle.occ_base.specs.declared.diag.Diag.{Diag}
use Rattle.occ_editor.proofs.Placed.{other_source}
use Rattle.occ_editor.specs.Publishing.{IsTold, BoardsTellSame, TellsAt, first_of, heads_of, is_published, refusal_at, text_at, told_at, why_of}
use Rattle.occ_editor.specs.Rooms.{is_vacant}
use Rattle.occ_editor.specs.declared.editor.Published.{Published}
use Rattle.occ_editor.specs.declared.room.Room.{Room}
use Rattle.occ_editor.specs.inside.Shown.{AllAt, IsIn, Grows, HasFile, IsQuiet, RoomTellsSame, AllTellBut, has_key, text_named}
use Rattle.occ_files.proofs.Kept.{or_true}
use Rattle.occ_files.specs.Gathering.{are_apart, has_name}
use Rattle.occ_files.specs.declared.gathering.Text.{Text}
use Rattle.occ_files.specs.declared.refusal.Refusal.{Refusal}
use Rattle.occ_files.specs.declared.refusal.Why.{Why}
use Rattle.occ_files_check.specs.Told.{diags_in, heads, path_of}
use Rattle.occ_forms.specs.Prepared.{Prepared}
use Rattle.occ_messages.specs.Located.{Head, located}

is_itself : (a : List ℕ) → bytes_eq a a ≡ true
is_itself a = (bytes_eq-Decides a a).1 refl

-- ---- what is in a list

pub at_head : {X : Type 0} (x : X) (xs : List X) → Contains (x ∷ xs) x
at_head x xs = (0, omega arith, refl)

pub at_tail : {X : Type 0} (x : X) (xs : List X) (y : X) → Contains xs y → Contains (x ∷ xs) y
at_tail x xs y h = let less = h.1 in (suc h.0, omega (arith, less), h.2)

pub cases : {X : Type 0} (x : X) (xs : List X) (y : X) → Contains (x ∷ xs) y → (x ≡ y) ⊎ Contains xs y
cases {X} x xs y h = by h.0 h.1 h.2 where
  by : (k : ℕ) → k < length (x ∷ xs) → Rattle.std.specs.List.slice_index_or (x ∷ xs) k y ≡ y → (x ≡ y) ⊎ Contains xs y
  by zero less is = inl is
  by (suc k) less is = inr (k, omega (arith, less), is)

map_cases : {X Y : Type 0} (f : X → Y) (xs : List X) (y : Y) → Contains (map f xs) y → (x : X) × Contains xs x × (f x ≡ y)
map_cases f [] y h = let less = h.1 in absurd (omega (arith, less))
map_cases f (x ∷ xs) y h = elim (cases (f x) (map f xs) y h) [
  | inl is ↦ (x, at_head x xs, is)
  | inr later ↦ let found = map_cases f xs y later in (found.0, at_tail x xs found.0 found.1, found.2)
]

map_there : {X Y : Type 0} (f : X → Y) (xs : List X) (x : X) → Contains xs x → Contains (map f xs) (f x)
map_there f [] x h = let less = h.1 in absurd (omega (arith, less))
map_there f (y ∷ ys) x h = elim (cases y ys x h) [
  | inl is ↦ subst (Contains (map f (y ∷ ys))) (ap f is) (at_head (f y) (map f ys))
  | inr later ↦ at_tail (f y) (map f ys) (f x) (map_there f ys x later)
]

filter_cases : {X : Type 0} (p : X → Bool) (xs : List X) (x : X) → Contains (filter p xs) x → Contains xs x × (p x ≡ true)
filter_cases p [] x h = let less = h.1 in absurd (omega (arith, less))
filter_cases {X} p (y ∷ ys) x h = by (p y) refl h (filter_cases p ys x) where
  by : (b : Bool) → p y ≡ b → Contains (cond b (y ∷ filter p ys) (filter p ys)) x → (Contains (filter p ys) x → Contains ys x × (p x ≡ true)) → Contains (y ∷ ys) x × (p x ≡ true)
  by true e k rest = elim (cases y (filter p ys) x k) [
    | inl is ↦ (subst (Contains (y ∷ ys)) is (at_head y ys), subst (λ z. p z ≡ true) is e)
    | inr later ↦ let found = rest later in (at_tail y ys x found.0, found.1)
  ]
  by false e k rest = let found = rest k in (at_tail y ys x found.0, found.1)

filter_there : {X : Type 0} (p : X → Bool) (xs : List X) (x : X) → Contains xs x → p x ≡ true → Contains (filter p xs) x
filter_there p [] x h is = let less = h.1 in absurd (omega (arith, less))
filter_there {X} p (y ∷ ys) x h is = by (p y) refl (cases y ys x h) (λ later. filter_there p ys x later is) where
  by : (b : Bool) → p y ≡ b → (y ≡ x) ⊎ Contains ys x → (Contains ys x → Contains (filter p ys) x) → Contains (cond b (y ∷ filter p ys) (filter p ys)) x
  by true e (inl same) rest = subst (Contains (y ∷ filter p ys)) same (at_head y (filter p ys))
  by true e (inr later) rest = at_tail y (filter p ys) x (rest later)
  by false e (inl same) rest = let holds : p y ≡ true = ap p same ∙ is in absurd cc
  by false e (inr later) rest = rest later

-- ---- what a room tells

-- it is of a diagnostic in the file
pub told_cases : (texts : List Text) (told : List Diag) (path : List ℕ) (head : Head) → Contains (heads_of texts told (text_at texts path)) head → (d : Diag) × Contains told d × IsIn texts path d × (located (path_of texts d.file) d ≡ head)
told_cases texts told path head h = by (text_at texts path) refl h where
  by : (o : Option Text) → text_at texts path ≡ o → Contains (heads_of texts told o) head → (d : Diag) × Contains told d × IsIn texts path d × (located (path_of texts d.file) d ≡ head)
  by None e k = let less = k.1 in absurd (omega (arith, less))
  by (Some t) e k =
      let found = map_cases (λ (d : Diag). located (path_of texts d.file) d) (diags_in t.name told) head k in
      let in_told = filter_cases (λ (d : Diag). bytes_eq d.file t.name) told found.0 found.1 in
      (found.0, in_told.0, (t, e, (bytes_eq-Decides found.0.file t.name).0 in_told.1), found.2)

pub told_there : (texts : List Text) (told : List Diag) (path : List ℕ) (head : Head) (d : Diag) → Contains told d → IsIn texts path d → located (path_of texts d.file) d ≡ head → Contains (heads_of texts told (text_at texts path)) head
told_there texts told path head d h at is =
    let t : Text = at.0 in
    let here : Contains (diags_in t.name told) d = filter_there (λ (x : Diag). bytes_eq x.file t.name) told d h ((bytes_eq-Decides d.file t.name).1 at.2) in
    let there : Contains (heads texts (diags_in t.name told)) head = subst (Contains (heads texts (diags_in t.name told))) is (map_there (λ (x : Diag). located (path_of texts x.file) x) (diags_in t.name told) d here) in
    subst (λ (o : Option Text). Contains (heads_of texts told o) head) (sym at.1) there

-- where the same diagnostics are in the file, the same is told
pub told_same : (texts : List Text) (before now : List Diag) (path : List ℕ) → ((d : Diag) → IsIn texts path d → Contains before d ↔ Contains now d) → (head : Head) → Contains (heads_of texts before (text_at texts path)) head ↔ Contains (heads_of texts now (text_at texts path)) head
told_same texts before now path same head = (
  λ h. let found = told_cases texts before path head h in told_there texts now path head found.0 ((same found.0 found.2).0 found.1) found.2 found.3,
  λ h. let found = told_cases texts now path head h in told_there texts before path head found.0 ((same found.0 found.2).1 found.1) found.2 found.3,
)

-- where none is, nothing is
pub told_none : (texts : List Text) (told : List Diag) (path : List ℕ) → ((d : Diag) → Contains told d → IsIn texts path d → Contains [] d) → (head : Head) → Contains (heads_of texts told (text_at texts path)) head → ⊥
told_none texts told path none head h =
    let found = told_cases texts told path head h in
    let less = (none found.0 found.1 found.2).1 in
    omega (arith, less)

-- ---- the file of a name

apart_rest : (u : Text) (us : List Text) → are_apart (u ∷ us) ≡ true → (has_name us u.name ≡ false) × (are_apart us ≡ true)
apart_rest u us h = by (has_name us u.name) (are_apart us) h where
  by : (a b : Bool) → not a && b ≡ true → (a ≡ false) × (b ≡ true)
  by true b k = absurd cc
  by false b k = (refl, k)

has_it : (ts : List Text) (path : List ℕ) (t : Text) → text_at ts path ≡ Some t → has_name ts t.name ≡ true
has_it [] path t e = absurd cc
has_it (u ∷ us) path t e = by (bytes_eq (string_bytes u.path) path) e (has_it us path t) where
  by : (b : Bool) → (if b then Some u else text_at us path) ≡ Some t → (text_at us path ≡ Some t → has_name us t.name ≡ true) → bytes_eq u.name t.name || has_name us t.name ≡ true
  by true k rest = let same : u ≡ t = cc in ap (λ (b : Bool). b || has_name us t.name) (ap (λ (v : Text). bytes_eq v.name t.name) same ∙ is_itself t.name)
  by false k rest = ap (λ (b : Bool). bytes_eq u.name t.name || b) (rest k) ∙ or_true (bytes_eq u.name t.name)

pub at_name : (ts : List Text) (path : List ℕ) (t : Text) → are_apart ts ≡ true → text_at ts path ≡ Some t → text_named ts t.name ≡ Some t
at_name [] path t apart e = absurd cc
at_name (u ∷ us) path t apart e = by (bytes_eq (string_bytes u.path) path) e (bytes_eq u.name t.name) refl (at_name us path t (apart_rest u us apart).1) where
  by : (b : Bool) → (if b then Some u else text_at us path) ≡ Some t → (c : Bool) → bytes_eq u.name t.name ≡ c → (text_at us path ≡ Some t → text_named us t.name ≡ Some t) → (if c then Some u else text_named us t.name) ≡ Some t
  by true k true f rest = k
  by true k false f rest = let same : u ≡ t = cc in let yes : bytes_eq u.name t.name ≡ true = ap (λ (v : Text). bytes_eq v.name t.name) same ∙ is_itself t.name in absurd cc
  by false k true f rest =
      let none : has_name us t.name ≡ false = ap (has_name us) (sym ((bytes_eq-Decides u.name t.name).0 f)) ∙ (apart_rest u us apart).0 in
      let some : has_name us t.name ≡ true = has_it us path t k in
      absurd cc
  by false k false f rest = rest k

pub at_path : (ts : List Text) (path : List ℕ) (t : Text) → text_at ts path ≡ Some t → string_bytes t.path ≡ path
at_path [] path t e = absurd cc
at_path (u ∷ us) path t e = by (bytes_eq (string_bytes u.path) path) refl e (at_path us path t) where
  by : (b : Bool) → bytes_eq (string_bytes u.path) path ≡ b → (if b then Some u else text_at us path) ≡ Some t → (text_at us path ≡ Some t → string_bytes t.path ≡ path) → string_bytes t.path ≡ path
  by true f k rest = let same : u ≡ t = cc in ap (λ (v : Text). string_bytes v.path) (sym same) ∙ (bytes_eq-Decides (string_bytes u.path) path).0 f
  by false f k rest = rest k

-- ---- paths

any_insert : (path : List ℕ) (ks : List (String Global)) (k : String Global) → list_any (λ key. bytes_eq (string_bytes key) path) (insert_key (λ a b. slice_cmp nat_cmp (string_bytes a) (string_bytes b)) ks k) ≡ bytes_eq (string_bytes k) path || list_any (λ key. bytes_eq (string_bytes key) path) ks
any_insert path [] k = refl
any_insert path (x ∷ xs) k = by (slice_cmp nat_cmp (string_bytes k) (string_bytes x)) refl (any_insert path xs k) where
  q : String Global → Bool
  q key = bytes_eq (string_bytes key) path

  rest : List (String Global)
  rest = insert_key (λ a b. slice_cmp nat_cmp (string_bytes a) (string_bytes b)) xs k

  twice : (a b : Bool) → a || b ≡ a || (a || b)
  twice true b = refl
  twice false b = refl

  swapped : (a b c : Bool) → a || (b || c) ≡ b || (a || c)
  swapped true true c = refl
  swapped true false c = refl
  swapped false b c = refl

  by : (o : Ordering) → slice_cmp nat_cmp (string_bytes k) (string_bytes x) ≡ o → list_any q rest ≡ q k || list_any q xs → list_any q (match_ordering o (k ∷ x ∷ xs) (x ∷ xs) (x ∷ rest)) ≡ q k || (q x || list_any q xs)
  by ordering.Less e more = refl
  by ordering.Equal e more =
      let tied : bytes_eq (string_bytes k) (string_bytes x) ≡ true = sym (is_eq-slice_cmp (string_bytes k) (string_bytes x)) ∙ ap is_eq e in
      let same : q k ≡ q x = ap (λ (bs : List ℕ). bytes_eq bs path) ((bytes_eq-Decides (string_bytes k) (string_bytes x)).0 tied) in
      twice (q x) (list_any q xs) ∙ ap (λ (b : Bool). b || (q x || list_any q xs)) (sym same)
  by ordering.Greater e more = ap (λ (b : Bool). q x || b) more ∙ swapped (q x) (q k) (list_any q xs)

pub key_insert : (before now : BTreeSet (String Global)) (k : String Global) (path : List ℕ) → now.keys ≡ insert_key (λ a b. slice_cmp nat_cmp (string_bytes a) (string_bytes b)) before.keys k → has_key now path ≡ bytes_eq (string_bytes k) path || has_key before path
key_insert before now k path e = ap (list_any (λ key. bytes_eq (string_bytes key) path)) e ∙ any_insert path before.keys k

-- ---- what stays

pub tells_itself : (room : Room) (path : List ℕ) → RoomTellsSame room room path
tells_itself room path = record { heads = λ head. (λ h. h, λ h. h); why = refl }

pub tells_both : (a b c : Room) (path : List ℕ) → RoomTellsSame a b path → RoomTellsSame b c path → RoomTellsSame a c path
tells_both a b c path one two = record { heads = λ head. (λ h. (two.heads head).0 ((one.heads head).0 h), λ h. (one.heads head).1 ((two.heads head).1 h)); why = one.why ∙ two.why }

pub quiet_both : (a b : Room) (path : List ℕ) → IsQuiet a path → IsQuiet b path → RoomTellsSame a b path
quiet_both a b path one two = record { heads = λ head. (λ h. absurd (one.heads head h), λ h. absurd (two.heads head h)); why = one.why ∙ sym two.why }

-- another source at a place leaves what is told
at_set : (ts : List Text) (i : ℕ) (t : Text) (s : Prepared) (name : List ℕ) → slice_get ts i ≡ Some t → path_of (slice_set ts i (other_source t s)) name ≡ path_of ts name
at_set [] i t s name e = absurd cc
at_set (u ∷ us) zero t s name e = let same : u ≡ t = cc in ap (λ (v : Text). if bytes_eq v.name name then string_bytes v.path else path_of us name) (sym same)
at_set (u ∷ us) (suc i) t s name e = ap (λ (p : List ℕ). if bytes_eq u.name name then string_bytes u.path else p) (at_set us i t s name e)

in_set : (ts : List Text) (i : ℕ) (t : Text) (s : Prepared) (path : List ℕ) (d : Diag) → slice_get ts i ≡ Some t → IsIn ts path d → IsIn (slice_set ts i (other_source t s)) path d
in_set [] i t s path d e h = absurd cc
in_set (u ∷ us) zero t s path d e h =
    let same : u ≡ t = cc in
    by (bytes_eq (string_bytes t.path) path) refl where
      by : (b : Bool) → bytes_eq (string_bytes t.path) path ≡ b → IsIn (other_source t s ∷ us) path d
      by true f =
          let here : text_at (u ∷ us) path ≡ Some u = ap (λ (b : Bool). if b then Some u else text_at us path) (ap (λ (v : Text). bytes_eq (string_bytes v.path) path) (let is : u ≡ t = cc in is) ∙ f) in
          let one : Some h.0 ≡ Some u = sym h.1 ∙ here in
          let is : h.0 ≡ t = cc in
          (other_source t s, ap (λ (b : Bool). if b then Some (other_source t s) else text_at us path) f, h.2 ∙ ap (λ (v : Text). v.name) is)
      by false f =
          let there : text_at (u ∷ us) path ≡ text_at us path = ap (λ (b : Bool). if b then Some u else text_at us path) (ap (λ (v : Text). bytes_eq (string_bytes v.path) path) (let is : u ≡ t = cc in is) ∙ f) in
          (h.0, ap (λ (b : Bool). if b then Some (other_source t s) else text_at us path) f ∙ sym there ∙ h.1, h.2)
in_set (u ∷ us) (suc i) t s path d e h = by (bytes_eq (string_bytes u.path) path) refl (in_set us i t s path d e) where
  by : (b : Bool) → bytes_eq (string_bytes u.path) path ≡ b → (IsIn us path d → IsIn (slice_set us i (other_source t s)) path d) → IsIn (u ∷ slice_set us i (other_source t s)) path d
  by true f more =
      let here : text_at (u ∷ us) path ≡ Some u = ap (λ (b : Bool). if b then Some u else text_at us path) f in
      let one : Some h.0 ≡ Some u = sym h.1 ∙ here in
      let is : h.0 ≡ u = cc in
      (u, ap (λ (b : Bool). if b then Some u else text_at (slice_set us i (other_source t s)) path) f, h.2 ∙ ap (λ (v : Text). v.name) is)
  by false f more =
      let there : text_at (u ∷ us) path ≡ text_at us path = ap (λ (b : Bool). if b then Some u else text_at us path) f in
      let rest = more (h.0, sym there ∙ h.1, h.2) in
      (rest.0, ap (λ (b : Bool). if b then Some u else text_at (slice_set us i (other_source t s)) path) f ∙ rest.1, rest.2)

in_back : (ts : List Text) (i : ℕ) (t : Text) (s : Prepared) (path : List ℕ) (d : Diag) → slice_get ts i ≡ Some t → IsIn (slice_set ts i (other_source t s)) path d → IsIn ts path d
in_back [] i t s path d e h = absurd cc
in_back (u ∷ us) zero t s path d e h =
    let same : u ≡ t = cc in
    by (bytes_eq (string_bytes t.path) path) refl where
      paths : (b : Bool) → bytes_eq (string_bytes t.path) path ≡ b → bytes_eq (string_bytes u.path) path ≡ b
      paths b f = ap (λ (v : Text). bytes_eq (string_bytes v.path) path) (let is : u ≡ t = cc in is) ∙ f

      by : (b : Bool) → bytes_eq (string_bytes t.path) path ≡ b → IsIn (u ∷ us) path d
      by true f =
          let here : text_at (other_source t s ∷ us) path ≡ Some (other_source t s) = ap (λ (b : Bool). if b then Some (other_source t s) else text_at us path) f in
          let one : Some h.0 ≡ Some (other_source t s) = sym h.1 ∙ here in
          let is : h.0 ≡ other_source t s = cc in
          let named : t.name ≡ u.name = cc in
          (u, ap (λ (b : Bool). if b then Some u else text_at us path) (paths true f), h.2 ∙ ap (λ (v : Text). v.name) is ∙ named)
      by false f =
          let there : text_at (other_source t s ∷ us) path ≡ text_at us path = ap (λ (b : Bool). if b then Some (other_source t s) else text_at us path) f in
          (h.0, ap (λ (b : Bool). if b then Some u else text_at us path) (paths false f) ∙ sym there ∙ h.1, h.2)
in_back (u ∷ us) (suc i) t s path d e h = by (bytes_eq (string_bytes u.path) path) refl (in_back us i t s path d e) where
  by : (b : Bool) → bytes_eq (string_bytes u.path) path ≡ b → (IsIn (slice_set us i (other_source t s)) path d → IsIn us path d) → IsIn (u ∷ us) path d
  by true f more =
      let here : text_at (u ∷ slice_set us i (other_source t s)) path ≡ Some u = ap (λ (b : Bool). if b then Some u else text_at (slice_set us i (other_source t s)) path) f in
      let one : Some h.0 ≡ Some u = sym h.1 ∙ here in
      let is : h.0 ≡ u = cc in
      (u, ap (λ (b : Bool). if b then Some u else text_at us path) f, h.2 ∙ ap (λ (v : Text). v.name) is)
  by false f more =
      let there : text_at (u ∷ slice_set us i (other_source t s)) path ≡ text_at (slice_set us i (other_source t s)) path = ap (λ (b : Bool). if b then Some u else text_at (slice_set us i (other_source t s)) path) f in
      let rest = more (h.0, sym there ∙ h.1, h.2) in
      (rest.0, ap (λ (b : Bool). if b then Some u else text_at us path) f ∙ rest.1, rest.2)

pub told_set : (ts : List Text) (told : List Diag) (i : ℕ) (t : Text) (s : Prepared) (path : List ℕ) → slice_get ts i ≡ Some t → (head : Head) → Contains (heads_of ts told (text_at ts path)) head ↔ Contains (heads_of (slice_set ts i (other_source t s)) told (text_at (slice_set ts i (other_source t s)) path)) head
told_set ts told i t s path e head = (
  λ h.
      let found = told_cases ts told path head h in
      told_there (slice_set ts i (other_source t s)) told path head found.0 found.1 (in_set ts i t s path found.0 e found.2) (ap (λ (p : List ℕ). located p found.0) (at_set ts i t s found.0.file e) ∙ found.3),
  λ h.
      let found = told_cases (slice_set ts i (other_source t s)) told path head h in
      told_there ts told path head found.0 found.1 (in_back ts i t s path found.0 e found.2) (ap (λ (p : List ℕ). located p found.0) (sym (at_set ts i t s found.0.file e)) ∙ found.3),
)

-- ---- all rooms

pub all_themselves : (rooms : List Room) (path : List ℕ) → AllAt rooms rooms path
all_themselves [] path = tt
all_themselves (r ∷ rs) path = (tells_itself r path, all_themselves rs path)

pub all_both : (xs ys zs : List Room) (path : List ℕ) → AllAt xs ys path → AllAt ys zs path → AllAt xs zs path
all_both [] [] [] path one two = tt
all_both [] [] (z ∷ zs) path one two = absurd two
all_both [] (y ∷ ys) zs path one two = absurd one
all_both (x ∷ xs) [] zs path one two = absurd one
all_both (x ∷ xs) (y ∷ ys) [] path one two = absurd two
all_both (x ∷ xs) (y ∷ ys) (z ∷ zs) path one two = (tells_both x y z path one.0 two.0, all_both xs ys zs path one.1 two.1)

pub all_set : (rooms : List Room) (i : ℕ) (r n : Room) (path : List ℕ) → slice_get rooms i ≡ Some r → RoomTellsSame r n path → AllAt rooms (slice_set rooms i n) path
all_set [] i r n path e same = absurd cc
all_set (x ∷ xs) zero r n path e same = let is : x ≡ r = cc in (subst (λ (y : Room). RoomTellsSame y n path) (sym is) same, all_themselves xs path)
all_set (x ∷ xs) (suc i) r n path e same = (tells_itself x path, all_set xs i r n path e same)

at_next : (b n : Room) (bs ns : List Room) (path : List ℕ) → RoomTellsSame b n path → TellsAt bs ns path → TellsAt (b ∷ bs) (n ∷ ns) path
at_next b n bs ns path one rest = record {
  heads = λ head. (there head, back head);
  why = ap (λ (o : Option Why). first_of o (why_of bs path)) one.why ∙ ap (first_of (refusal_at n.refusals.items path)) rest.why;
} where
  there : (head : Head) → IsTold (b ∷ bs) path head → IsTold (n ∷ ns) path head
  there head (inl h) = inl ((one.heads head).0 h)
  there head (inr h) = inr ((rest.heads head).0 h)

  back : (head : Head) → IsTold (n ∷ ns) path head → IsTold (b ∷ bs) path head
  back head (inl h) = inl ((one.heads head).1 h)
  back head (inr h) = inr ((rest.heads head).1 h)

at_skip : (r : Room) (rs ns : List Room) (path : List ℕ) → IsQuiet r path → TellsAt rs ns path → TellsAt (r ∷ rs) ns path
at_skip r rs ns path quiet rest = record {
  heads = λ head. (there head, λ h. inr ((rest.heads head).1 h));
  why = ap (λ (o : Option Why). first_of o (why_of rs path)) quiet.why ∙ rest.why;
} where
  there : (head : Head) → IsTold (r ∷ rs) path head → IsTold ns path head
  there head (inl h) = absurd (quiet.heads head h)
  there head (inr h) = (rest.heads head).0 h

pub all_at : (before now : List Room) (path : List ℕ) → AllAt before now path → TellsAt before now path
all_at [] [] path same = record { heads = λ head. (λ h. h, λ h. h); why = refl }
all_at [] (n ∷ ns) path same = absurd same
all_at (b ∷ bs) [] path same = absurd same
all_at (b ∷ bs) (n ∷ ns) path same = at_next b n bs ns path same.0 (all_at bs ns path same.1)

pub at_both : (xs ys zs : List Room) (path : List ℕ) → TellsAt xs ys path → TellsAt ys zs path → TellsAt xs zs path
at_both xs ys zs path one two = record { heads = λ head. (λ h. (two.heads head).0 ((one.heads head).0 h), λ h. (one.heads head).1 ((two.heads head).1 h)); why = one.why ∙ two.why }

-- one more that tells nothing
pub more_quiet : (rooms : List Room) (room : Room) (path : List ℕ) → IsQuiet room path → TellsAt rooms (rooms ++ room ∷ []) path
more_quiet [] room path quiet = record {
  heads = λ head. (λ h. absurd h, back head);
  why = ap (λ (o : Option Why). first_of o None) (sym quiet.why);
} where
  back : (head : Head) → IsTold (room ∷ []) path head → IsTold [] path head
  back head (inl h) = absurd (quiet.heads head h)
  back head (inr h) = h
more_quiet (r ∷ rs) room path quiet = at_next r r rs (rs ++ room ∷ []) path (tells_itself r path) (more_quiet rs room path quiet)

-- a room without files tells nothing
vacant_quiet : (room : Room) (path : List ℕ) → is_vacant room ≡ true → IsQuiet room path
vacant_quiet room path vacant = by room.texts.items refl room.refusals.items refl vacant where
  by : (ts : List Text) → room.texts.items ≡ ts → (rs : List Refusal) → room.refusals.items ≡ rs → (length ts == 0) && (length rs == 0) ≡ true → IsQuiet room path
  by [] e [] f h = record {
    heads = λ head k. let less = (subst (λ (us : List Text). Contains (heads_of us room.told (text_at us path)) head) e k).1 in omega (arith, less);
    why = ap (λ (qs : List Refusal). refusal_at qs path) f;
  }
  by [] e (r ∷ rs) f h = absurd (let no : (length (r ∷ rs) == 0) ≡ false = grind arith in cc)
  by (t ∷ ts) e rs f h = absurd (let no : (length (t ∷ ts) == 0) ≡ false = grind arith in cc)

pub without_vacant : (rooms : List Room) → BoardsTellSame rooms (filter (λ room. not (is_vacant room)) rooms)
without_vacant [] path = record { heads = λ head. (λ h. h, λ h. h); why = refl }
without_vacant (r ∷ rs) path = by (is_vacant r) refl (without_vacant rs path) where
  left : List Room
  left = filter (λ room. not (is_vacant room)) rs

  by : (b : Bool) → is_vacant r ≡ b → TellsAt rs left path → TellsAt (r ∷ rs) (cond (not b) (r ∷ left) left) path
  by true e rest = at_skip r rs left path (vacant_quiet r path e) rest
  by false e rest = at_next r r rs left path (tells_itself r path) rest

-- ---- paths that grow

pub grows_back : (before now : BTreeSet (String Global)) (path : List ℕ) → Grows before now → has_key now path ≡ false → has_key before path ≡ false
grows_back before now path grows none = by (has_key before path) refl where
  by : (b : Bool) → has_key before path ≡ b → b ≡ false
  by true e = let some : has_key now path ≡ true = grows path e in absurd cc
  by false e = refl

pub but_next : (before now : BTreeSet (String Global)) (xs ys zs : List Room) → Grows before now → AllTellBut before xs ys → AllTellBut now ys zs → AllTellBut now xs zs
but_next before now xs ys zs grows one two path none = all_both xs ys zs path (one path (grows_back before now path grows none)) (two path none)

-- a path that is there covers the diagnostics of its file
pub covered : (texts : List Text) (paths : BTreeSet (String Global)) (d : Diag) (path : List ℕ) → are_apart texts ≡ true → HasFile texts paths d.file → has_key paths path ≡ false → IsIn texts path d → ⊥
covered texts paths d path apart has none at =
    let t : Text = at.0 in
    let named : text_named texts d.file ≡ Some t = ap (text_named texts) at.2 ∙ at_name texts path t apart at.1 in
    let there : has_key paths (string_bytes t.path) ≡ true = subst (λ (o : Option Text). IfSome o (λ t. has_key paths (string_bytes t.path) ≡ true)) named has in
    let some : has_key paths path ≡ true = ap (has_key paths) (sym (at_path texts path t at.1)) ∙ there in
    absurd cc

pub next_in : (texts : List Text) (path : List ℕ) (others : List Diag) (d : Diag) (ds : List Diag) → (IsIn texts path d → Contains others d) → ((x : Diag) → Contains ds x → IsIn texts path x → Contains others x) → (x : Diag) → Contains (d ∷ ds) x → IsIn texts path x → Contains others x
next_in texts path others d ds here later x h at = elim (cases d ds x h) [
  | inl is ↦ subst (Contains others) is (here (subst (IsIn texts path) (sym is) at))
  | inr there ↦ later x there at
]

pub keeps_file : (texts : List Text) (last : Option (List ℕ)) (before now : BTreeSet (String Global)) → Grows before now → IfSome last (HasFile texts before) → IfSome last (HasFile texts now)
keeps_file texts None before now grows has = tt
keeps_file texts (Some name) before now grows has = by (text_named texts name) has where
  by : (o : Option Text) → IfSome o (λ t. has_key before (string_bytes t.path) ≡ true) → IfSome o (λ t. has_key now (string_bytes t.path) ≡ true)
  by None h = tt
  by (Some t) h = grows (string_bytes t.path) h

pub past_none : (texts : List Text) (path : List ℕ) (others ds : List Diag) (i : ℕ) → length ds ≤ i → (x : Diag) → Contains (drop i ds) x → IsIn texts path x → Contains others x
past_none texts path others ds i past x h at = absurd (none ds i past h) where
  none : (es : List Diag) (k : ℕ) → length es ≤ k → Contains (drop k es) x → ⊥
  none [] zero p g = let less = g.1 in omega (arith, less)
  none [] (suc k) p g = let less = g.1 in omega (arith, less)
  none (e ∷ es) zero p g = omega (arith, p)
  none (e ∷ es) (suc k) p g = none es k (omega (arith, p)) g

-- ---- what is published

pub published_keys : (all : List Published) (path : List ℕ) → is_published all path ≡ list_any (λ p. bytes_eq p path) (map (λ p. string_bytes p.path) all)
published_keys [] path = refl
published_keys (p ∷ ps) path = ap (λ (b : Bool). bytes_eq (string_bytes p.path) path || b) (published_keys ps path)

keys_paths : (ks : List (String Global)) (path : List ℕ) → list_any (λ key. bytes_eq (string_bytes key) path) ks ≡ list_any (λ p. bytes_eq p path) (map string_bytes ks)
keys_paths [] path = refl
keys_paths (k ∷ ks) path = ap (λ (b : Bool). bytes_eq (string_bytes k) path || b) (keys_paths ks path)

pub published_as : (all : List Published) (paths : BTreeSet (String Global)) (path : List ℕ) → map (λ p. string_bytes p.path) all ≡ map string_bytes paths.keys → is_published all path ≡ has_key paths path
published_as all paths path e = published_keys all path ∙ ap (list_any (λ p. bytes_eq p path)) e ∙ sym (keys_paths paths.keys path)

-- one more path
pub grows_insert : (before now : BTreeSet (String Global)) (k : String Global) → now.keys ≡ insert_key (λ a b. slice_cmp nat_cmp (string_bytes a) (string_bytes b)) before.keys k → Grows before now
grows_insert before now k e path has = key_insert before now k path e ∙ ap (λ (b : Bool). bytes_eq (string_bytes k) path || b) has ∙ or_true (bytes_eq (string_bytes k) path)

pub has_insert : (before now : BTreeSet (String Global)) (k : String Global) → now.keys ≡ insert_key (λ a b. slice_cmp nat_cmp (string_bytes a) (string_bytes b)) before.keys k → has_key now (string_bytes k) ≡ true
has_insert before now k e = key_insert before now k (string_bytes k) e ∙ ap (λ (b : Bool). b || has_key before (string_bytes k)) (is_itself (string_bytes k))

pub grows_itself : (paths : BTreeSet (String Global)) → Grows paths paths
grows_itself paths path has = has

pub grows_both : (a b c : BTreeSet (String Global)) → Grows a b → Grows b c → Grows a c
grows_both a b c one two path has = two path (one path has)

-- a path that is not there is not that of the next refusal
pub next_refused : (r : Refusal) (rs : List Refusal) (before now : BTreeSet (String Global)) (k : String Global) (path : List ℕ) → string_bytes k ≡ string_bytes r.path → now.keys ≡ insert_key (λ a b. slice_cmp nat_cmp (string_bytes a) (string_bytes b)) before.keys k → has_key now path ≡ false → refusal_at rs path ≡ None → refusal_at (r ∷ rs) path ≡ None
next_refused r rs before now k path same e none rest = by (bytes_eq (string_bytes r.path) path) refl where
  by : (b : Bool) → bytes_eq (string_bytes r.path) path ≡ b → (if b then Some r.why else refusal_at rs path) ≡ None
  by true h =
      let is : string_bytes k ≡ path = same ∙ (bytes_eq-Decides (string_bytes r.path) path).0 h in
      let some : has_key now path ≡ true = ap (has_key now) (sym is) ∙ has_insert before now k e in
      absurd cc
  by false h = rest

map_end : (ps : List Published) (p : Published) (xs : List (List ℕ)) → map (λ q. string_bytes q.path) (ps ++ p ∷ []) ++ xs ≡ map (λ q. string_bytes q.path) ps ++ string_bytes p.path ∷ xs
map_end [] p xs = refl
map_end (q ∷ qs) p xs = ap (λ (ys : List (List ℕ)). string_bytes q.path ∷ ys) (map_end qs p xs)

pub paths_more : (ps qs : List Published) (p : Published) (k : String Global) (ks left : List (String Global)) → qs ≡ ps ++ p ∷ [] → ks ≡ k ∷ left → string_bytes p.path ≡ string_bytes k → map (λ q. string_bytes q.path) qs ++ map string_bytes left ≡ map (λ q. string_bytes q.path) ps ++ map string_bytes ks
paths_more ps qs p k ks left more next path =
    ap (λ (xs : List Published). map (λ q. string_bytes q.path) xs ++ map string_bytes left) more
    ∙ map_end ps p (map string_bytes left)
    ∙ ap (λ (x : List ℕ). map (λ q. string_bytes q.path) ps ++ x ∷ map string_bytes left) path
    ∙ ap (λ (xs : List (String Global)). map (λ q. string_bytes q.path) ps ++ map string_bytes xs) (sym next)
