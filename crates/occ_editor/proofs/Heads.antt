-- The heads of messages, where more are added.
use Rattle.std.proofs.Common.{◌≡◌, ◌++◌, ◌⊎◌, ◌↔◌, inl, inr, Bool, true, false, List, [], ◌∷◌, map, arith, refl, subst, sym, ap}
use Rattle.std.proofs.lemmas.List.Elements.{Contains-append_left, Contains-push, Contains-push_cases}
use Rattle.std.specs.List.{Contains}
use Rattle.occ_messages.specs.Located.{Head, head_of}
use Rattle.occ_messages.specs.declared.message.Message.{Message}

map_push : {X Y : Type 0} (f : X → Y) (xs : List X) (x : X) → map f (xs ++ x ∷ []) ≡ map f xs ++ f x ∷ []
map_push f [] x = refl
map_push {Y = Y} f (y ∷ ys) x = ap (λ (zs : List Y). f y ∷ zs) (map_push f ys x)

pub pushed : (ms : List Message) (m : Message) (head : Head) → Contains (map head_of (ms ++ m ∷ [])) head ↔ (Contains (map head_of ms) head ⊎ (head_of m ≡ head))
pushed ms m head = (there, back) where
  there : Contains (map head_of (ms ++ m ∷ [])) head → Contains (map head_of ms) head ⊎ (head_of m ≡ head)
  there h = Contains-push_cases (map head_of ms) (head_of m) head (subst (λ (hs : List Head). Contains hs head) (map_push head_of ms m) h)

  back : Contains (map head_of ms) head ⊎ (head_of m ≡ head) → Contains (map head_of (ms ++ m ∷ [])) head
  back (inl h) = subst (λ (hs : List Head). Contains hs head) (sym (map_push head_of ms m)) (Contains-append_left (map head_of ms) (head_of m ∷ []) head h)
  back (inr is) = subst (λ (hs : List Head). Contains hs head) (sym (map_push head_of ms m)) (subst (Contains (map head_of ms ++ head_of m ∷ [])) is (Contains-push (map head_of ms) (head_of m)))

pub there_already : (ms : List Message) (m : Message) → Contains (map head_of ms) (head_of m) → (head : Head) → Contains (map head_of ms) head ↔ (Contains (map head_of ms) head ⊎ (head_of m ≡ head))
there_already ms m has head = (λ h. inl h, back) where
  back : Contains (map head_of ms) head ⊎ (head_of m ≡ head) → Contains (map head_of ms) head
  back (inl h) = h
  back (inr is) = subst (Contains (map head_of ms)) is has

-- ---- what is moved from one list to another

pub moved : {P N M R W : Type 0} → (N ↔ (P ⊎ M)) → ((P ⊎ (R ⊎ M)) ↔ W) → (N ⊎ R) ↔ W
moved {P} {N} {M} {R} {W} one all = (there, λ h. back (all.1 h)) where
  there : N ⊎ R → W
  there (inl n) = first (one.0 n) where
    first : P ⊎ M → W
    first (inl p) = all.0 (inl p)
    first (inr m) = all.0 (inr (inr m))
  there (inr r) = all.0 (inr (inl r))

  back : P ⊎ (R ⊎ M) → N ⊎ R
  back (inl p) = inl (one.1 (inl p))
  back (inr (inl r)) = inr r
  back (inr (inr m)) = inl (one.1 (inr m))

pub merged : {P N M D W : Type 0} → (N ↔ (P ⊎ M)) → ((P ⊎ (M ⊎ D)) ↔ W) → (N ⊎ D) ↔ W
merged {P} {N} {M} {D} {W} one all = (there, λ h. back (all.1 h)) where
  there : N ⊎ D → W
  there (inl n) = first (one.0 n) where
    first : P ⊎ M → W
    first (inl p) = all.0 (inl p)
    first (inr m) = all.0 (inr (inl m))
  there (inr d) = all.0 (inr (inr d))

  back : P ⊎ (M ⊎ D) → N ⊎ D
  back (inl p) = inl (one.1 (inl p))
  back (inr (inl m)) = inl (one.1 (inr m))
  back (inr (inr d)) = inr d

pub ended : {N R W : Type 0} → (R → ⊥) → ((N ⊎ R) ↔ W) → N ↔ W
ended {N} {R} {W} none all = (λ n. all.0 (inl n), λ h. back (all.1 h)) where
  back : N ⊎ R → N
  back (inl n) = n
  back (inr r) = absurd (none r)

pub split_right : {P X R M W : Type 0} → (X ↔ (R ⊎ M)) → ((P ⊎ X) ↔ W) → (P ⊎ (R ⊎ M)) ↔ W
split_right {P} {X} {R} {M} {W} parts all = (there, λ h. back (all.1 h)) where
  there : P ⊎ (R ⊎ M) → W
  there (inl p) = all.0 (inl p)
  there (inr rm) = all.0 (inr (parts.1 rm))

  back : P ⊎ X → P ⊎ (R ⊎ M)
  back (inl p) = inl p
  back (inr x) = inr (parts.0 x)

pub none_in : (head : Head) → Contains [] head → ⊥
none_in head h = let less = h.1 in omega (arith, less)

pub clash : (b : Bool) → b ≡ true → b ≡ false → ⊥
clash true e f = let no : true ≡ false = f in absurd cc
clash false e f = let no : false ≡ true = e in absurd cc
