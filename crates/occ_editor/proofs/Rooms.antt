-- The rooms of an editor, one after the other.
use Rattle.std.proofs.Common.{◌≡◌, ◌∙◌, ◌++◌, ◌+◌, ◌<◌, ◌≤◌, ◌⊎◌, inl, inr, Bool, true, false, cond, ℕ, zero, suc, List, [], ◌∷◌, length, not, slice_set, Option, Some, None, arith, refl, subst, sym, ap, if◌then◌else◌}
use Rattle.std.proofs.lemmas.Slice.Eq.{bytes_eq-Decides}
use Rattle.std.specs.List.{items_where_true, slice_get}
use Rattle.std.specs.Str.{bytes_eq}
use Rattle.std.specs.String.{string_bytes}
use Rattle.occ_editor.specs.Rooms.{AllSettled, AllStand, IsSettled, Stands}
use Rattle.occ_editor_edits.specs.declared.documents.Document.{Document}
use Rattle.occ_editor.specs.declared.room.Room.{Room}
use Rattle.occ_editor.specs.inside.Followed.{AreSettled, HaveFollowed}

-- ---- one room of a list

pub within : (xs : List Room) (k : ℕ) (r : Room) → slice_get xs k ≡ Some r → k < length xs
within [] k r e = absurd cc
within (x ∷ xs) zero r e = omega arith
within (x ∷ xs) (suc k) r e = let less = within xs k r e in omega (arith, less)

-- where one was put in place of another, it is that or was there
set_or : (xs : List Room) (i : ℕ) (y : Room) (k : ℕ) (r : Room) → slice_get (slice_set xs i y) k ≡ Some r → ((i ≡ k) × (y ≡ r)) ⊎ (((k < i) ⊎ (i < k)) × (slice_get xs k ≡ Some r))
set_or [] i y k r e = absurd cc
set_or (x ∷ xs) zero y zero r e = inl (refl, one y r e) where
  one : (a b : Room) → Some a ≡ Some b → a ≡ b
  one a b s = cc
set_or (x ∷ xs) zero y (suc k) r e = inr (inr (omega arith), e)
set_or (x ∷ xs) (suc i) y zero r e = inr (inl (omega arith), e)
set_or (x ∷ xs) (suc i) y (suc k) r e = elim (set_or xs i y k r e) [
  | inl is ↦ inl (ap suc is.0, is.1)
  | inr is ↦ inr (further is.0, is.1)
] where
  further : (k < i) ⊎ (i < k) → (suc k < suc i) ⊎ (suc i < suc k)
  further (inl h) = inl (omega (arith, h))
  further (inr h) = inr (omega (arith, h))

pub last_or : (xs : List Room) (y : Room) (k : ℕ) (r : Room) → slice_get (xs ++ y ∷ []) k ≡ Some r → (y ≡ r) ⊎ (slice_get xs k ≡ Some r)
last_or [] y zero r e = inl (one y r e) where
  one : (a b : Room) → Some a ≡ Some b → a ≡ b
  one a b s = cc
last_or [] y (suc k) r e = absurd cc
last_or (x ∷ xs) y zero r e = inr e
last_or (x ∷ xs) y (suc k) r e = last_or xs y k r e

-- what is left of a list was there
pub where_true : (bs : List Bool) (xs : List Room) (k : ℕ) (r : Room) → slice_get (items_where_true bs xs) k ≡ Some r → (j : ℕ) × (slice_get xs j ≡ Some r)
where_true [] xs k r e = absurd cc
where_true (b ∷ bs) [] k r e = absurd cc
where_true (true ∷ bs) (x ∷ xs) zero r e = (0, e)
where_true (true ∷ bs) (x ∷ xs) (suc k) r e = let rest = where_true bs xs k r e in (suc rest.0, rest.1)
where_true (false ∷ bs) (x ∷ xs) k r e = let rest = where_true bs xs k r e in (suc rest.0, rest.1)

-- one whose files have to be found again
pub loose : (documents : List Document) (room : Room) → Stands documents room → Stands documents (record { folder = room.folder; board = room.board; texts = room.texts; refusals = room.refusals; told = room.told; is_loose = true; is_changed = room.is_changed })
loose documents room stands = record { apart = stands.apart; named = stands.named; has = stands.has; opened = λ (no : true ≡ false). absurd cc; right = λ (no : true ≡ false). absurd cc; met = λ (no : true ≡ false). absurd cc; told = λ (no : true ≡ false) same. absurd cc }

-- ---- rooms that follow

pub followed_next : (before now : List Document) (i : ℕ) (xs : List Room) (y : Room) → HaveFollowed before now i xs → Stands now y → HaveFollowed before now (i + 1) (slice_set xs i y)
followed_next before now i xs y followed stands = record {
  done = λ k r less e. elim (set_or xs i y k r e) [
    | inl is ↦ subst (Stands now) is.1 stands
    | inr is ↦ elim is.0 [
      | inl below ↦ followed.done k r below is.1
      | inr above ↦ absurd (omega (arith, less, above))
    ]
  ];
  left = λ k r from e. elim (set_or xs i y k r e) [
    | inl is ↦ let at = is.0 in absurd (omega (arith, from, at))
    | inr is ↦ followed.left k r (omega (arith, from)) is.1
  ];
}

pub followed_past : (before now : List Document) (i : ℕ) (xs : List Room) → length xs ≤ i → HaveFollowed before now i xs → HaveFollowed before now (i + 1) xs
followed_past before now i xs past followed = record {
  done = λ k r less e. let there = within xs k r e in followed.done k r (omega (arith, there, past)) e;
  left = λ k r from e. followed.left k r (omega (arith, from)) e;
}

pub followed_none : (before now : List Document) (xs : List Room) → AllStand before xs → HaveFollowed before now 0 xs
followed_none before now xs all = record {
  done = λ k r less e. absurd (omega (arith, less));
  left = λ k r from e. all k r e;
}

pub followed_all : (before now : List Document) (i : ℕ) (xs : List Room) → length xs ≤ i → HaveFollowed before now i xs → AllStand now xs
followed_all before now i xs past followed k r e = let there = within xs k r e in followed.done k r (omega (arith, there, past)) e

pub settled_next : (documents : List Document) (i : ℕ) (xs : List Room) (y : Room) → AreSettled documents i xs → IsSettled documents y → AreSettled documents (i + 1) (slice_set xs i y)
settled_next documents i xs y settled is_settled = record {
  done = λ k r less e. elim (set_or xs i y k r e) [
    | inl is ↦ subst (IsSettled documents) is.1 is_settled
    | inr is ↦ elim is.0 [
      | inl below ↦ settled.done k r below is.1
      | inr above ↦ absurd (omega (arith, less, above))
    ]
  ];
  left = λ k r from e. elim (set_or xs i y k r e) [
    | inl is ↦ let at = is.0 in absurd (omega (arith, from, at))
    | inr is ↦ settled.left k r (omega (arith, from)) is.1
  ];
}

pub settled_past : (documents : List Document) (i : ℕ) (xs : List Room) → length xs ≤ i → AreSettled documents i xs → AreSettled documents (i + 1) xs
settled_past documents i xs past settled = record {
  done = λ k r less e. let there = within xs k r e in settled.done k r (omega (arith, there, past)) e;
  left = λ k r from e. settled.left k r (omega (arith, from)) e;
}

pub settled_none : (documents : List Document) (xs : List Room) → AllStand documents xs → AreSettled documents 0 xs
settled_none documents xs all = record {
  done = λ k r less e. absurd (omega (arith, less));
  left = λ k r from e. all k r e;
}

pub settled_all : (documents : List Document) (i : ℕ) (xs : List Room) → length xs ≤ i → AreSettled documents i xs → AllSettled documents xs
settled_all documents i xs past settled k r e = let there = within xs k r e in settled.done k r (omega (arith, there, past)) e

pub stand_next : (documents : List Document) (i : ℕ) (xs : List Room) (y : Room) → AllStand documents xs → Stands documents y → AllStand documents (slice_set xs i y)
stand_next documents i xs y all stands k r e = elim (set_or xs i y k r e) [
  | inl is ↦ subst (Stands documents) is.1 stands
  | inr is ↦ all k r is.1
]

pub stand_more : (documents : List Document) (xs : List Room) (y : Room) → AllStand documents xs → Stands documents y → AllStand documents (xs ++ y ∷ [])
stand_more documents xs y all stands k r e = elim (last_or xs y k r e) [
  | inl is ↦ subst (Stands documents) is stands
  | inr is ↦ all k r is
]
