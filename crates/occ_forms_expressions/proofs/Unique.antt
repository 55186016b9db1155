-- Two readings of the same tokens are one: lists and what stands in brackets, where expressions of fewer tokens have one.
use Rattle.std.proofs.Common.{◌≡◌, ◌≤◌, ◌<◌, ◌+◌, ◌∙◌, refl, sym, ap, subst, ℕ, List, [], ◌∷◌, length, arith}
use Rattle.occ_lines.specs.declared.token.Token.{Token}
use Rattle.occ_lines.specs.declared.token.Token.TheVariants as t
use Rattle.occ_lines.specs.declared.token.Symbol.TheVariants as s
use Rattle.occ_lines.specs.declared.token.Word.TheVariants as w
use Rattle.occ_forms_expressions.specs.declared.tree.Bounds.{Bounds}
use Rattle.occ_forms_expressions.specs.declared.tree.Bounds.TheVariants as bv
use Rattle.occ_forms_expressions.specs.declared.tree.Expr.{Expr}
use Rattle.occ_forms_expressions.specs.Reading.{IsEnd, IsEndOfItems, IsNot}
use Rattle.occ_forms_expressions.specs.Spelling.{Spelling, arguments_of, bounds_then, expr_then, many, next_item_of, subscript_of}
use Rattle.occ_forms_expressions.proofs.Arguments.{close_ends}
use Rattle.occ_forms_expressions.proofs.Begins.{no_expr}
use Rattle.occ_forms_expressions.proofs.Cases.{BoundsIs, bounds_for_spells, bounds_from_for_spells, bounds_from_spells, bounds_is, bounds_is_for, bounds_is_from, bounds_is_from_for}
use Rattle.occ_forms_expressions.proofs.Inner.{Inner, inner_expr, inner_next_item, inner_subscript}
use Rattle.occ_forms_expressions.proofs.Lists.{Anything, anything_within, item_within}
use Rattle.occ_forms_expressions.proofs.Many.{Within}
use Rattle.occ_forms_expressions.proofs.Tailed.{cut}

-- two spellings of these tokens are one, with the same after it
abbrev pub One : {X : Type 0} → (X → Spelling) → (List Token → Type 0) → List Token → Type 0
One {X} spells Ends tokens = (x y : X) (j k : List Token) → Ends j → Ends k → tokens ≡ spells x j → tokens ≡ spells y k → (x ≡ y) × (j ≡ k)

-- so of fewer tokens than n
abbrev pub Below : {X : Type 0} → (X → Spelling) → (List Token → Type 0) → ℕ → Type 0
Below spells Ends n = (tokens : List Token) → length tokens < n → One spells Ends tokens

abbrev pub ExprBelow : ℕ → Type 0
ExprBelow n = Below expr_then IsEnd n

-- what is left is shorter
pub left_below : (f : Spelling) (tokens rest : List Token) (n : ℕ) → Inner f → length tokens < n → tokens ≡ f rest → length rest < n
left_below f tokens rest n inner less is = omega (arith, less, ap length is, inner.grows rest)

pub after_below : (token : Token) (tokens rest : List Token) (n : ℕ) → length tokens < n + 1 → tokens ≡ token ∷ rest → length rest < n
after_below token tokens rest n less is = omega (arith, less, ap length is)

pub fewer : {X : Type 0} (spells : X → Spelling) (Ends : List Token → Type 0) (n : ℕ) → Below spells Ends (n + 1) → Below spells Ends n
fewer spells Ends n one tokens less = one tokens (omega (arith, less))

-- what stands after a list is no longer than all
pub list_grows : {X : Type 0} (spells : X → Spelling) → ((x : X) → Inner (spells x)) → (xs : List X) (k : List Token) → length k ≤ length (many spells xs k)
list_grows spells inner [] k = omega arith
list_grows spells inner (x ∷ xs) k = omega (arith, list_grows spells inner xs k, (inner x).grows (many spells xs k))

-- after a token, and in front of one
pub one_after : {X : Type 0} (token : Token) (spells : X → Spelling) (Ends : List Token → Type 0) (n : ℕ) → Below spells Ends n → Below (λ x k. token ∷ spells x k) Ends (n + 1)
one_after token spells Ends n one tokens less x y j k a b e f =
    one (spells x j) (after_below token tokens (spells x j) n less e) x y j k a b refl (cut _ _ _ _ (sym e ∙ f)).1

pub one_before : {X : Type 0} (token : Token) (spells : X → Spelling) (Ends : List Token → Type 0) (n : ℕ) → ((k : List Token) → Ends (token ∷ k)) → Below spells Ends n → Below (λ x k. spells x (token ∷ k)) Anything n
one_before token spells Ends n ends one tokens less x y j k a b e f = let h = one tokens less x y (token ∷ j) (token ∷ k) (ends j) (ends k) e f in
    (h.0, (cut _ _ _ _ h.1).1)

-- a list, where none begins at its end
pub one_many : {X : Type 0} (spells : X → Spelling) (Inside Ends : List Token → Type 0) (n : ℕ) → Within spells Inside Ends → ((x : X) → Inner (spells x)) → ((x : X) (k : List Token) → Ends (spells x k) → ⊥)
    → Below spells Inside n → Below (many spells) Ends n
one_many spells Inside Ends n within inner starts one tokens less [] [] j k a b e f = (refl, sym e ∙ f)
one_many spells Inside Ends n within inner starts one tokens less [] (y ∷ ys) j k a b e f = absurd (starts y (many spells ys k) (subst Ends (sym e ∙ f) a))
one_many spells Inside Ends n within inner starts one tokens less (x ∷ xs) [] j k a b e f = absurd (starts x (many spells xs j) (subst Ends (sym f ∙ e) b))
one_many {X} spells Inside Ends n within inner starts one tokens less (x ∷ xs) (y ∷ ys) j k a b e f =
    let h = one tokens less x y (many spells xs j) (many spells ys k) (within xs j a) (within ys k b) e f in
    let m = one_many spells Inside Ends n within inner starts one (many spells xs j) (left_below (spells x) tokens (many spells xs j) n (inner x) less e) xs ys j k a b refl h.1 in
    (ap (λ (z : X). z ∷ xs) h.0 ∙ ap (λ (zs : List X). y ∷ zs) m.0, m.1)

pub index_ends : (k : List Token) → IsEndOfItems (t.Symbol s.CloseIndex ∷ k)
index_ends k = record { ends = refl; no_comma = λ rest e. absurd cc }

-- an expression in front of a bracket
pub one_indexed : (n : ℕ) → ExprBelow n → Below (λ e k. expr_then e (t.Symbol s.CloseIndex ∷ k)) Anything n
one_indexed n one = one_before (t.Symbol s.CloseIndex) expr_then IsEnd n (λ k. refl) one

pub one_closed : (n : ℕ) → ExprBelow n → Below (λ e k. expr_then e (t.Symbol s.Close ∷ k)) Anything n
one_closed n one = one_before (t.Symbol s.Close) expr_then IsEnd n (λ k. refl) one

pub one_subscript : (n : ℕ) → ExprBelow n → Below subscript_of Anything (n + 1)
one_subscript n one = one_after (t.Symbol s.OpenIndex) (λ e k. expr_then e (t.Symbol s.CloseIndex ∷ k)) Anything n (one_indexed n one)

pub one_subscripts : (n : ℕ) → ExprBelow n → Below (many subscript_of) (IsNot s.OpenIndex) (n + 1)
one_subscripts n one = one_many subscript_of Anything (IsNot s.OpenIndex) (n + 1) (anything_within subscript_of (IsNot s.OpenIndex)) inner_subscript (λ e k ends. ends _ refl) (one_subscript n one)

pub one_next_items : (n : ℕ) → ExprBelow n → Below (many next_item_of) IsEndOfItems (n + 1)
one_next_items n one = one_many next_item_of IsEnd IsEndOfItems (n + 1) item_within inner_next_item (λ e k ends. ends.no_comma _ refl) (one_after (t.Symbol s.Comma) expr_then IsEnd n one)

pub one_arguments : (n : ℕ) → ExprBelow n → Below arguments_of Anything (n + 1)
one_arguments n one tokens less [] [] j k a b e f = let h = (cut _ _ _ _ (sym e ∙ f)).1 in (refl, (cut _ _ _ _ h).1)
one_arguments n one tokens less [] (y ∷ ys) j k a b e f = absurd (no_expr y _ (t.Symbol s.Close ∷ j) refl (cut _ _ _ _ (sym e ∙ f)).1)
one_arguments n one tokens less (x ∷ xs) [] j k a b e f = absurd (no_expr x _ (t.Symbol s.Close ∷ k) refl (cut _ _ _ _ (sym f ∙ e)).1)
one_arguments n one tokens less (x ∷ xs) (y ∷ ys) j k a b e f =
    let rest : List Token = many next_item_of xs (t.Symbol s.Close ∷ j) in
    let short = after_below _ tokens (expr_then x rest) n less e in
    let h = one (expr_then x rest) short x y rest (many next_item_of ys (t.Symbol s.Close ∷ k)) (item_within xs _ (close_ends j)) (item_within ys _ (close_ends k)) refl (cut _ _ _ _ (sym e ∙ f)).1 in
    let m = fewer (many next_item_of) IsEndOfItems n (one_next_items n one) rest (left_below (expr_then x) (expr_then x rest) rest n (inner_expr x) short refl) xs ys (t.Symbol s.Close ∷ j) (t.Symbol s.Close ∷ k) (close_ends j) (close_ends k) refl h.1 in
    (ap (λ (z : Expr). z ∷ xs) h.0 ∙ ap (λ (zs : List Expr). y ∷ zs) m.0, (cut _ _ _ _ m.1).1)

-- the bounds of a segment, in front of the bracket that closes it
abbrev pub bounds_closed : Bounds → Spelling
bounds_closed b k = bounds_then b (t.Symbol s.CloseIndex ∷ k)

pub one_bounds : (n : ℕ) → ExprBelow n → Below bounds_closed Anything (n + 1)
one_bounds n one tokens less x y j k a b e f = by (bounds_is x) (bounds_is y) where
  spelled : (z v : Bounds) (i read : List Token) → tokens ≡ bounds_closed z i → z ≡ v → bounds_closed v i ≡ read → tokens ≡ read
  spelled z v i read p q r = p ∙ ap (λ (u : Bounds). bounds_closed u i) q ∙ r

  from_to : (g h : Expr) → x ≡ bv.From g → y ≡ bv.From h → (x ≡ y) × (j ≡ k)
  from_to g h p q = let m = one_after (t.Word w.From) (λ u i. expr_then u (t.Symbol s.CloseIndex ∷ i)) Anything n (one_indexed n one) tokens less g h j k tt tt (spelled x _ j _ e p (bounds_from_spells g _)) (spelled y _ k _ f q (bounds_from_spells h _)) in
      (p ∙ ap (λ (u : Expr). bv.From u) m.0 ∙ sym q, m.1)

  for_for : (g h : Expr) → x ≡ bv.For g → y ≡ bv.For h → (x ≡ y) × (j ≡ k)
  for_for g h p q = let m = one_after (t.Word w.For) (λ u i. expr_then u (t.Symbol s.CloseIndex ∷ i)) Anything n (one_indexed n one) tokens less g h j k tt tt (spelled x _ j _ e p (bounds_for_spells g _)) (spelled y _ k _ f q (bounds_for_spells h _)) in
      (p ∙ ap (λ (u : Expr). bv.For u) m.0 ∙ sym q, m.1)

  both : (g h c d : Expr) → x ≡ bv.FromFor g h → y ≡ bv.FromFor c d → (x ≡ y) × (j ≡ k)
  both g h c d p q =
      let r = spelled x _ j _ e p (bounds_from_for_spells g h _) in
      let u = spelled y _ k _ f q (bounds_from_for_spells c d _) in
      let m = one_after (t.Word w.From) expr_then IsEnd n one tokens less g c _ _ refl refl r u in
      let short = left_below (expr_then g) (expr_then g (t.Word w.For ∷ expr_then h (t.Symbol s.CloseIndex ∷ j))) (t.Word w.For ∷ expr_then h (t.Symbol s.CloseIndex ∷ j)) n (inner_expr g) (after_below _ tokens _ n less r) refl in
      let o = one_indexed n one (expr_then h (t.Symbol s.CloseIndex ∷ j)) (omega (arith, short)) h d j k tt tt refl (cut _ _ _ _ m.1).1 in
      (p ∙ ap (λ (v : Expr). bv.FromFor v h) m.0 ∙ ap (λ (v : Expr). bv.FromFor c v) o.0 ∙ sym q, o.1)

  -- FROM alone, and with a FOR after it
  part : {Z : Type 0} (g c d : Expr) (i l : List Token) → tokens ≡ t.Word w.From ∷ expr_then g (t.Symbol s.CloseIndex ∷ i) → tokens ≡ t.Word w.From ∷ expr_then c (t.Word w.For ∷ expr_then d (t.Symbol s.CloseIndex ∷ l)) → Z
  part g c d i l p q = let m = one_after (t.Word w.From) expr_then IsEnd n one tokens less g c _ _ refl refl p q in
      let o : t.Symbol s.CloseIndex ∷ i ≡ t.Word w.For ∷ expr_then d (t.Symbol s.CloseIndex ∷ l) = m.1 in absurd cc

  words : {Z : Type 0} (i l : List Token) → tokens ≡ t.Word w.From ∷ i → tokens ≡ t.Word w.For ∷ l → Z
  words i l p q = let h : t.Word w.From ∷ i ≡ t.Word w.For ∷ l = sym p ∙ q in absurd cc

  by : BoundsIs x → BoundsIs y → (x ≡ y) × (j ≡ k)
  by (bounds_is_from g p) (bounds_is_from h q) = from_to g h p q
  by (bounds_is_from g p) (bounds_is_for h q) = words _ _ (spelled x _ j _ e p (bounds_from_spells g _)) (spelled y _ k _ f q (bounds_for_spells h _))
  by (bounds_is_from g p) (bounds_is_from_for c d q) = part g c d j k (spelled x _ j _ e p (bounds_from_spells g _)) (spelled y _ k _ f q (bounds_from_for_spells c d _))
  by (bounds_is_for g p) (bounds_is_from h q) = words _ _ (spelled y _ k _ f q (bounds_from_spells h _)) (spelled x _ j _ e p (bounds_for_spells g _))
  by (bounds_is_for g p) (bounds_is_for h q) = for_for g h p q
  by (bounds_is_for g p) (bounds_is_from_for c d q) = words _ _ (spelled y _ k _ f q (bounds_from_for_spells c d _)) (spelled x _ j _ e p (bounds_for_spells g _))
  by (bounds_is_from_for g h p) (bounds_is_from c q) = part c g h k j (spelled y _ k _ f q (bounds_from_spells c _)) (spelled x _ j _ e p (bounds_from_for_spells g h _))
  by (bounds_is_from_for g h p) (bounds_is_for c q) = words _ _ (spelled x _ j _ e p (bounds_from_for_spells g h _)) (spelled y _ k _ f q (bounds_for_spells c _))
  by (bounds_is_from_for g h p) (bounds_is_from_for c d q) = both g h c d p q
