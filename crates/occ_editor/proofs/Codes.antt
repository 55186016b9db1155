-- Which codes are told of a line.
use Rattle.std.proofs.Common.{◌≡◌, ◌∙◌, ◌≤◌, ◌⊎◌, ◌↔◌, inl, inr, ℕ, zero, suc, List, [], ◌∷◌, Some, arith, drop, length, refl, subst, sym, ap}
use Rattle.std.specs.BTreeSet.{insert_key}
use Rattle.std.specs.List.{Contains}
use Rattle.std.specs.Ordering.{match_ordering}
use Rattle.std.specs.declared.cmp.Ordering.{Ordering}
use Rattle.std.specs.declared.cmp.Ordering.TheVariants.{Less, Equal, Greater}
use Rattle.occ_base.specs.contracts.code.CodeOrd.TheImpl as code_ord
use Rattle.occ_base.specs.declared.code.Code.{Code}
use Rattle.occ_base.specs.declared.diag.Diag.{Diag}
use Rattle.occ_editor.proofs.Same.{same_code}
use Rattle.occ_editor.proofs.Shown.{at_head, at_tail, cases, told_cases, told_there}
use Rattle.occ_editor.specs.Publishing.{HasCode, IsTold, heads_of, text_at, told_at}
use Rattle.occ_editor.specs.declared.room.Room.{Room}
use Rattle.occ_editor.specs.inside.Codes.{IsAt, IsOneAt}
use Rattle.occ_editor.specs.inside.Shown.{IsIn}
use Rattle.occ_files.specs.declared.gathering.Text.{Text}
use Rattle.occ_files_check.specs.Told.{path_of}
use Rattle.occ_messages.specs.Located.{Head, located}

-- ---- a code is put among others

abbrev order : Code → Code → Ordering
order = (code_ord.ghosts).cmp

from_insert : (xs : List Code) (k c : Code) → Contains (insert_key order xs k) c → Contains xs c ⊎ (k ≡ c)
from_insert [] k c h = elim (cases k [] c h) [
  | inl is ↦ inr is
  | inr later ↦ inl later
]
from_insert (x ∷ xs) k c h = by (order k x) h (from_insert xs k c) where
  rest : List Code
  rest = insert_key order xs k

  by : (o : Ordering) → Contains (match_ordering o (k ∷ x ∷ xs) (x ∷ xs) (x ∷ rest)) c → (Contains rest c → Contains xs c ⊎ (k ≡ c)) → Contains (x ∷ xs) c ⊎ (k ≡ c)
  by Less g more = elim (cases k (x ∷ xs) c g) [
    | inl is ↦ inr is
    | inr later ↦ inl later
  ]
  by Equal g more = inl g
  by Greater g more = elim (cases x rest c g) [
    | inl is ↦ inl (subst (Contains (x ∷ xs)) is (at_head x xs))
    | inr later ↦ elim (more later) [
      | inl there ↦ inl (at_tail x xs c there)
      | inr is ↦ inr is
    ]
  ]

old_insert : (xs : List Code) (k c : Code) → Contains xs c → Contains (insert_key order xs k) c
old_insert [] k c h = at_tail k [] c h
old_insert (x ∷ xs) k c h = by (order k x) (old_insert xs k c) where
  rest : List Code
  rest = insert_key order xs k

  by : (o : Ordering) → (Contains xs c → Contains rest c) → Contains (match_ordering o (k ∷ x ∷ xs) (x ∷ xs) (x ∷ rest)) c
  by Less more = at_tail k (x ∷ xs) c h
  by Equal more = h
  by Greater more = elim (cases x xs c h) [
    | inl is ↦ subst (Contains (x ∷ rest)) is (at_head x rest)
    | inr later ↦ at_tail x rest c (more later)
  ]

new_insert : (xs : List Code) (k : Code) → Contains (insert_key order xs k) k
new_insert [] k = at_head k []
new_insert (x ∷ xs) k = by (order k x) refl (new_insert xs k) where
  rest : List Code
  rest = insert_key order xs k

  by : (o : Ordering) → order k x ≡ o → Contains rest k → Contains (match_ordering o (k ∷ x ∷ xs) (x ∷ xs) (x ∷ rest)) k
  by Less e more = at_head k (x ∷ xs)
  by Equal e more = subst (Contains (x ∷ xs)) (sym (same_code k x e)) (at_head x xs)
  by Greater e more = at_tail x rest k more

pub inserted : (before now : List Code) (k c : Code) (P : Type 0) → now ≡ insert_key order before k → (P → k ≡ c) → (k ≡ c → P) → Contains now c ↔ (Contains before c ⊎ P)
inserted before now k c P e is back = (λ h. there (from_insert before k c (subst (λ (cs : List Code). Contains cs c) e h)), λ h. subst (λ (cs : List Code). Contains cs c) (sym e) (again h)) where
  there : Contains before c ⊎ (k ≡ c) → Contains before c ⊎ P
  there (inl h) = inl h
  there (inr same) = inr (back same)

  again : Contains before c ⊎ P → Contains (insert_key order before k) c
  again (inl h) = old_insert before k c h
  again (inr p) = subst (Contains (insert_key order before k)) (is p) (new_insert before k)

-- ---- codes at a line

there_at : (diags : List Diag) (name : List ℕ) (line : ℕ) (code : Code) → IsOneAt diags name line code → (d : Diag) × Contains diags d × IsAt name line code d
there_at [] name line code h = absurd h
there_at (d ∷ ds) name line code (inl is) = (d, at_head d ds, is)
there_at (d ∷ ds) name line code (inr later) = let found = there_at ds name line code later in (found.0, at_tail d ds found.0 found.1, found.2)

at_there : (diags : List Diag) (name : List ℕ) (line : ℕ) (code : Code) (d : Diag) → Contains diags d → IsAt name line code d → IsOneAt diags name line code
at_there [] name line code d h is = let less = h.1 in absurd (omega (arith, less))
at_there (e ∷ es) name line code d h is = elim (cases e es d h) [
  | inl same ↦ inl (subst (IsAt name line code) (sym same) is)
  | inr later ↦ inr (at_there es name line code d later is)
]

-- what is at the line of a file is told
pub one_told : (texts : List Text) (told : List Diag) (path : List ℕ) (t : Text) (line : ℕ) (code : Code) → text_at texts path ≡ Some t → IsOneAt told t.name line code ↔ HasCode (Contains (heads_of texts told (text_at texts path))) line code
one_told texts told path t line code e = (there, back) where
  there : IsOneAt told t.name line code → HasCode (Contains (heads_of texts told (text_at texts path))) line code
  there h =
      let found = there_at told t.name line code h in
      let d : Diag = found.0 in
      (located (path_of texts d.file) d, told_there texts told path (located (path_of texts d.file) d) d found.1 (t, e, found.2.0) refl, found.2.1, found.2.2)

  back : HasCode (Contains (heads_of texts told (text_at texts path))) line code → IsOneAt told t.name line code
  back h =
      let found = told_cases texts told path h.0 h.1 in
      let d : Diag = found.0 in
      let at : IsIn texts path d = found.2 in
      let one : Some at.0 ≡ Some t = sym at.1 ∙ e in
      let same : at.0 ≡ t = cc in
      at_there told t.name line code d found.1 (at.2 ∙ ap (λ (u : Text). u.name) same, ap (λ (x : Head). x.line) found.3 ∙ h.2, ap (λ (x : Head). x.code) found.3 ∙ h.3)

-- so each code is among them that one of the diagnostics has there
pub all_told : (keys old : List Code) (texts : List Text) (told : List Diag) (path : List ℕ) (t : Text) (line : ℕ) (code : Code) → text_at texts path ≡ Some t
    → Contains keys code ↔ (Contains old code ⊎ IsOneAt told t.name line code) → Contains keys code ↔ (Contains old code ⊎ HasCode (Contains (heads_of texts told (text_at texts path))) line code)
all_told keys old texts told path t line code e all = (λ h. there (all.0 h), λ h. all.1 (back h)) where
  there : Contains old code ⊎ IsOneAt told t.name line code → Contains old code ⊎ HasCode (Contains (heads_of texts told (text_at texts path))) line code
  there (inl h) = inl h
  there (inr h) = inr ((one_told texts told path t line code e).0 h)

  back : Contains old code ⊎ HasCode (Contains (heads_of texts told (text_at texts path))) line code → Contains old code ⊎ IsOneAt told t.name line code
  back (inl h) = inl h
  back (inr h) = inr ((one_told texts told path t line code e).1 h)

-- past the last diagnostic there is none
pub past_last : (told : List Diag) (i : ℕ) (name : List ℕ) (line : ℕ) (code : Code) → length told ≤ i → IsOneAt (drop i told) name line code → ⊥
past_last [] i name line code past h = none i h where
  none : (k : ℕ) → IsOneAt (drop k []) name line code → ⊥
  none zero g = g
  none (suc k) g = g
past_last (d ∷ ds) zero name line code past h = omega (arith, past)
past_last (d ∷ ds) (suc i) name line code past h = past_last ds i name line code (omega (arith, past)) h

-- ---- by the boards

pub first_or_more : (room : Room) (rooms : List Room) (path : List ℕ) (line : ℕ) (code : Code) → HasCode (IsTold (room ∷ rooms) path) line code ↔ (HasCode (Contains (told_at room path)) line code ⊎ HasCode (IsTold rooms path) line code)
first_or_more room rooms path line code = (λ h. there h.0 h.1 h.2 h.3, back) where
  there : (head : Head) → IsTold (room ∷ rooms) path head → head.line ≡ line → head.code ≡ code → HasCode (Contains (told_at room path)) line code ⊎ HasCode (IsTold rooms path) line code
  there head (inl h) l c = inl (head, h, l, c)
  there head (inr h) l c = inr (head, h, l, c)

  back : HasCode (Contains (told_at room path)) line code ⊎ HasCode (IsTold rooms path) line code → HasCode (IsTold (room ∷ rooms) path) line code
  back (inl h) = (h.0, inl h.1, h.2, h.3)
  back (inr h) = (h.0, inr h.1, h.2, h.3)

-- past the last board none is told
pub past_rooms : (rooms : List Room) (i : ℕ) (path : List ℕ) (line : ℕ) (code : Code) → length rooms ≤ i → HasCode (IsTold (drop i rooms) path) line code → ⊥
past_rooms [] i path line code past h = none i h.1 where
  none : (k : ℕ) → IsTold (drop k []) path h.0 → ⊥
  none zero g = g
  none (suc k) g = g
past_rooms (room ∷ rooms) zero path line code past h = omega (arith, past)
past_rooms (room ∷ rooms) (suc i) path line code past h = past_rooms rooms i path line code (omega (arith, past)) h
