-- Two readings of the same tokens are one: types.
use Rattle.std.proofs.Common.{◌≡◌, ◌<◌, ◌+◌, ◌∙◌, refl, sym, ap, ℕ, true, false, List, ◌∷◌, length, Some, None, arith}
use Rattle.occ_lines.specs.declared.token.Token.{Token}
use Rattle.occ_lines.specs.declared.token.Token.TheVariants as t
use Rattle.occ_lines.specs.declared.token.Symbol.TheVariants as s
use Rattle.occ_lines.specs.declared.token.Word.TheVariants as w
use Rattle.occ_forms_expressions.specs.declared.tree.Builtin.{Builtin}
use Rattle.occ_forms_expressions.specs.declared.tree.Builtin.TheVariants as uv
use Rattle.occ_forms_expressions.specs.declared.tree.ChannelWords.{ChannelWords}
use Rattle.occ_forms_expressions.specs.declared.tree.ChannelWords.TheVariants as ch
use Rattle.occ_forms_expressions.specs.declared.tree.DataBase.{DataBase}
use Rattle.occ_forms_expressions.specs.declared.tree.DataBase.TheVariants as da
use Rattle.occ_forms_expressions.specs.declared.tree.DataForm.{DataForm}
use Rattle.occ_forms_expressions.specs.declared.tree.Dimension.{Dimension}
use Rattle.occ_forms_expressions.specs.declared.tree.Dimension.TheVariants as dv
use Rattle.occ_forms_expressions.specs.declared.tree.Expr.{Expr}
use Rattle.occ_forms_expressions.specs.declared.tree.PrimitiveWord.{PrimitiveWord}
use Rattle.occ_forms_expressions.specs.declared.tree.TypeForm.{TypeForm}
use Rattle.occ_forms_expressions.specs.declared.tree.TypeForm.TheVariants as tv
use Rattle.occ_forms_expressions.specs.inside.Parts.{based, data_base_of, primitive_of}
use Rattle.occ_forms_expressions.specs.Reading.{IsNot, IsNotCounted, IsNotWord, is_counted}
use Rattle.occ_forms_expressions.specs.Spelling.{Spelling, builtin_then, channel_words, counted_array, data_base_token, data_form_then, decoration_of, dimension_then, many, primitive_word, subscript_of, type_form_then}
use Rattle.occ_forms_expressions.proofs.Begins.{no_expr}
use Rattle.occ_forms_expressions.proofs.Cases.{BuiltinIs, DimensionIs, TypeFormIs, builtin_any_channel_spells, builtin_channel_spells, builtin_counted_spells, builtin_is, builtin_is_any_channel, builtin_is_channel, builtin_is_counted, builtin_is_primitive, builtin_is_timer, builtin_primitive_spells, builtin_timer_spells, dimension_is, dimension_is_open, dimension_is_sized, dimension_open_spells, dimension_sized_spells, type_form_builtin_spells, type_form_is, type_form_is_builtin, type_form_is_named, type_form_named_spells}
use Rattle.occ_forms_expressions.proofs.Dimensions.{base_ends, builtin_ends, builtin_no_name, data_word, dimension_begins, name_ends, primitive_back}
use Rattle.occ_forms_expressions.proofs.Inner.{inner_data_form, inner_dimension}
use Rattle.occ_forms_expressions.proofs.Lists.{Anything, anything_within}
use Rattle.occ_forms_expressions.proofs.Tailed.{cut}
use Rattle.occ_forms_expressions.proofs.Unique.{Below, ExprBelow, fewer, left_below, list_grows, one_before, one_after, one_many, one_subscript}

pub one_dimension : (n : ℕ) → ExprBelow n → Below dimension_then Anything (n + 1)
one_dimension n one tokens less x y j k a b e f = by (dimension_is x) (dimension_is y) where
  spelled : (z v : Dimension) (i read : List Token) → tokens ≡ dimension_then z i → z ≡ v → dimension_then v i ≡ read → tokens ≡ read
  spelled z v i read p q r = p ∙ ap (λ (u : Dimension). dimension_then u i) q ∙ r

  open_sized : {Z : Type 0} (g : Expr) (i l : List Token) → tokens ≡ t.Symbol s.OpenIndex ∷ t.Symbol s.CloseIndex ∷ i → tokens ≡ subscript_of g l → Z
  open_sized g i l p q = absurd (no_expr g _ (t.Symbol s.CloseIndex ∷ i) refl (cut _ _ _ _ (sym p ∙ q)).1)

  by : DimensionIs x → DimensionIs y → (x ≡ y) × (j ≡ k)
  by (dimension_is_open p) (dimension_is_open q) =
      let h = cut _ _ _ _ (sym (spelled x _ j _ e p (dimension_open_spells j)) ∙ spelled y _ k _ f q (dimension_open_spells k)) in
      (p ∙ sym q, (cut _ _ _ _ h.1).1)
  by (dimension_is_open p) (dimension_is_sized g q) = open_sized g j k (spelled x _ j _ e p (dimension_open_spells j)) (spelled y _ k _ f q (dimension_sized_spells g k))
  by (dimension_is_sized g p) (dimension_is_open q) = open_sized g k j (spelled y _ k _ f q (dimension_open_spells k)) (spelled x _ j _ e p (dimension_sized_spells g j))
  by (dimension_is_sized g p) (dimension_is_sized h q) =
      let m = one_subscript n one tokens less g h j k tt tt (spelled x _ j _ e p (dimension_sized_spells g j)) (spelled y _ k _ f q (dimension_sized_spells h k)) in
      (p ∙ ap (λ (u : Expr). dv.Sized u) m.0 ∙ sym q, m.1)

pub one_dimensions : (n : ℕ) → ExprBelow n → Below (many dimension_then) (IsNot s.OpenIndex) (n + 1)
one_dimensions n one = one_many dimension_then Anything (IsNot s.OpenIndex) (n + 1) (anything_within dimension_then (IsNot s.OpenIndex)) inner_dimension
    (λ d k ends. let h = dimension_begins d k in ends h.0 h.1) (one_dimension n one)

base_back : (b : DataBase) → data_base_of (data_base_token b) ≡ Some b
base_back (da.Named n) = refl
base_back (da.Primitive p) = ap based (primitive_back p)

same_base : (a b : DataBase) → data_base_token a ≡ data_base_token b → a ≡ b
same_base a b e = let h : Some a ≡ Some b = sym (base_back a) ∙ ap data_base_of e ∙ base_back b in (cc)

pub one_data_form_below : (n : ℕ) → ExprBelow n → Below data_form_then Anything (n + 1)
one_data_form_below n one tokens less x y j k a b e f =
    let h = one_dimensions n one tokens less x.dimensions y.dimensions (data_base_token x.base ∷ j) (data_base_token y.base ∷ k) (base_ends x.base j) (base_ends y.base k) e f in
    let c = cut _ _ _ _ h.1 in
    (ap (λ (ds : List Dimension). form_of ds x.base) h.0 ∙ ap (λ (z : DataBase). form_of y.dimensions z) (same_base x.base y.base c.0), c.1)
  where
    form_of : List Dimension → DataBase → DataForm
    form_of ds z = record { dimensions = ds; base = z }

-- what a channel carries
pub data Carried : Type 0 where
  anything : Carried
  plain : DataForm → Carried
  counted : DataForm → DataForm → Carried

abbrev pub carried_then : Carried → Spelling
carried_then anything k = t.Word w.Any ∷ k
carried_then (plain form) k = data_form_then form k
carried_then (counted form other) k = data_form_then form (counted_array (data_form_then other k))

abbrev pub carrying : ChannelWords → Carried → Builtin
carrying c anything = uv.AnyChannel c
carrying c (plain form) = uv.Channel c form.dimensions form.base
carrying c (counted form other) = uv.Counted c form.dimensions form.base other.dimensions other.base

no_any : {Z : Type 0} (form : DataForm) (tokens j k : List Token) → tokens ≡ t.Word w.Any ∷ j → tokens ≡ data_form_then form k → Z
no_any form tokens j k e f = absurd (data_word form.dimensions form.base k w.Any j refl (sym f ∙ e))

no_count : (j k : List Token) → IsNotCounted j → j ≡ counted_array k → ⊥
no_count j k none e = let h : true ≡ false = sym (ap is_counted e) ∙ none in absurd cc

-- `::[]` and a type do not lead from the one to the other
abbrev pub Apart : List Token → List Token → Type 0
Apart j k = (form : DataForm) → j ≡ counted_array (data_form_then form k) → ⊥

pub plain_apart : (j k : List Token) → IsNotCounted j → Apart j k
plain_apart j k none form e = no_count j _ none e

-- so where what a channel carries could go on
abbrev CarriedApart : Carried → List Token → List Token → Type 0
CarriedApart x j k = (form : DataForm) → x ≡ plain form → Apart j k

one_carried : (n : ℕ) → ExprBelow n → (tokens : List Token) → length tokens < n + 1 → (x y : Carried) (j k : List Token) → CarriedApart x j k → CarriedApart y k j
    → tokens ≡ carried_then x j → tokens ≡ carried_then y k → (x ≡ y) × (j ≡ k)
one_carried n one tokens less anything anything j k a b e f = (refl, (cut _ _ _ _ (sym e ∙ f)).1)
one_carried n one tokens less anything (plain form) j k a b e f = no_any form tokens _ _ e f
one_carried n one tokens less anything (counted form other) j k a b e f = no_any form tokens _ _ e f
one_carried n one tokens less (plain form) anything j k a b e f = no_any form tokens _ _ f e
one_carried n one tokens less (counted form other) anything j k a b e f = no_any form tokens _ _ f e
one_carried n one tokens less (plain form) (plain same) j k a b e f = let h = one_data_form_below n one tokens less form same j k tt tt e f in (ap (λ (z : DataForm). plain z) h.0, h.1)
one_carried n one tokens less (plain form) (counted same other) j k a b e f = let h = one_data_form_below n one tokens less form same j _ tt tt e f in absurd (a form refl other h.1)
one_carried n one tokens less (counted form other) (plain same) j k a b e f = let h = one_data_form_below n one tokens less form same _ k tt tt e f in absurd (b same refl other (sym h.1))
one_carried n one tokens less (counted form other) (counted same equal) j k a b e f =
    let h = one_data_form_below n one tokens less form same _ _ tt tt e f in
    let c = cut _ _ _ _ (cut _ _ _ _ (cut _ _ _ _ h.1).1).1 in
    let short = left_below (data_form_then form) tokens (counted_array (data_form_then other j)) (n + 1) (inner_data_form form) less e in
    let m = one_data_form_below n one (data_form_then other j) (omega (arith, short)) other equal j k tt tt refl c.1 in
    (ap (λ (z : DataForm). counted z other) h.0 ∙ ap (λ (z : DataForm). counted same z) m.0, m.1)

one_words : (c d : ChannelWords) (j k : List Token) → IsNotWord w.Of j → IsNotWord w.Of k → channel_words c j ≡ channel_words d k → (c ≡ d) × (j ≡ k)
one_words ch.Chan ch.Chan j k a b e = (refl, (cut _ _ _ _ e).1)
one_words ch.Chan ch.ChanOf j k a b e = absurd (a k (cut _ _ _ _ e).1)
one_words ch.ChanOf ch.Chan j k a b e = absurd (b j (sym (cut _ _ _ _ e).1))
one_words ch.ChanOf ch.ChanOf j k a b e = (refl, (cut _ _ _ _ (cut _ _ _ _ e).1).1)

no_of : (x : Carried) (k : List Token) → IsNotWord w.Of (carried_then x k)
no_of anything k rest e = absurd cc
no_of (plain form) k rest e = data_word form.dimensions form.base k w.Of rest refl e
no_of (counted form other) k rest e = data_word form.dimensions form.base _ w.Of rest refl e

-- a type of a reserved word by what stands first
pub data BuiltinAt (tokens k : List Token) (b : Builtin) : Type 0 where
  at_primitive : (p : PrimitiveWord) → b ≡ uv.Primitive p → tokens ≡ t.Word (primitive_word p) ∷ k → BuiltinAt tokens k b
  at_timer : b ≡ uv.Timer → tokens ≡ t.Word w.Timer ∷ k → BuiltinAt tokens k b
  at_channel : (c : ChannelWords) (x : Carried) → b ≡ carrying c x → tokens ≡ channel_words c (carried_then x k) → BuiltinAt tokens k b

pub builtin_at : (b : Builtin) (k tokens : List Token) → tokens ≡ builtin_then b k → BuiltinAt tokens k b
builtin_at b k tokens e = by (builtin_is b) where
  spelled : (v : Builtin) (read : List Token) → b ≡ v → builtin_then v k ≡ read → tokens ≡ read
  spelled v read q r = e ∙ ap (λ (u : Builtin). builtin_then u k) q ∙ r

  by : BuiltinIs b → BuiltinAt tokens k b
  by (builtin_is_primitive p q) = at_primitive p q (spelled _ _ q (builtin_primitive_spells p k))
  by (builtin_is_timer q) = at_timer q (spelled _ _ q (builtin_timer_spells k))
  by (builtin_is_any_channel c q) = at_channel c anything q (spelled _ _ q (builtin_any_channel_spells c k))
  by (builtin_is_channel c ds base q) = at_channel c (plain (record { dimensions = ds; base = base })) q (spelled _ _ q (builtin_channel_spells c ds base k))
  by (builtin_is_counted c ds base es other q) = at_channel c (counted (record { dimensions = ds; base = base }) (record { dimensions = es; base = other })) q (spelled _ _ q (builtin_counted_spells c ds base es other k))

primitive_timer : {Z : Type 0} (p : PrimitiveWord) (tokens j k : List Token) → tokens ≡ t.Word (primitive_word p) ∷ j → tokens ≡ t.Word w.Timer ∷ k → Z
primitive_timer p tokens j k e f = let h : Some p ≡ None = sym (primitive_back p) ∙ ap primitive_of (cut _ _ _ _ (sym e ∙ f)).0 in absurd cc

pub chan_first : (c : ChannelWords) (k : List Token) → (rest : List Token) × (channel_words c k ≡ t.Word w.Chan ∷ rest)
chan_first ch.Chan k = (k, refl)
chan_first ch.ChanOf k = (t.Word w.Of ∷ k, refl)

primitive_channel : {Z : Type 0} (p : PrimitiveWord) (c : ChannelWords) (tokens j k : List Token) → tokens ≡ t.Word (primitive_word p) ∷ j → tokens ≡ channel_words c k → Z
primitive_channel p c tokens j k e f = let i = chan_first c k in
    let h : Some p ≡ None = sym (primitive_back p) ∙ ap primitive_of (cut _ _ _ _ (sym e ∙ f ∙ i.1)).0 in absurd cc

timer_channel : {Z : Type 0} (c : ChannelWords) (tokens j k : List Token) → tokens ≡ t.Word w.Timer ∷ j → tokens ≡ channel_words c k → Z
timer_channel c tokens j k e f = let i = chan_first c k in let h : t.Word w.Timer ∷ j ≡ t.Word w.Chan ∷ i.0 = sym e ∙ f ∙ i.1 in absurd cc

words_first : (c : ChannelWords) (k : List Token) → length k < length (channel_words c k)
words_first ch.Chan k = omega arith
words_first ch.ChanOf k = omega arith

-- so where a type of a reserved word could
abbrev pub BuiltinApart : Builtin → List Token → List Token → Type 0
BuiltinApart b j k = (c : ChannelWords) (ds : List Dimension) (base : DataBase) → b ≡ uv.Channel c ds base → Apart j k

one_builtin_apart : (n : ℕ) → ExprBelow n → (tokens : List Token) → length tokens < n + 1 → (x y : Builtin) (j k : List Token) → BuiltinApart x j k → BuiltinApart y k j
    → tokens ≡ builtin_then x j → tokens ≡ builtin_then y k → (x ≡ y) × (j ≡ k)
one_builtin_apart n one tokens less x y j k a b e f = by (builtin_at x j tokens e) (builtin_at y k tokens f) where
  carried : (g : Builtin) (c : ChannelWords) (z : Carried) (i l : List Token) → BuiltinApart g i l → g ≡ carrying c z → CarriedApart z i l
  carried g c z i l apart p form q = apart c form.dimensions form.base (p ∙ ap (λ (v : Carried). carrying c v) q)

  by : BuiltinAt tokens j x → BuiltinAt tokens k y → (x ≡ y) × (j ≡ k)
  by (at_primitive p q r) (at_primitive o u v) =
      let c = cut _ _ _ _ (sym r ∙ v) in
      let h : Some p ≡ Some o = sym (primitive_back p) ∙ ap primitive_of c.0 ∙ primitive_back o in
      let i : p ≡ o = (cc) in
      (q ∙ ap (λ (z : PrimitiveWord). uv.Primitive z) i ∙ sym u, c.1)
  by (at_primitive p q r) (at_timer u v) = primitive_timer p tokens _ _ r v
  by (at_primitive p q r) (at_channel d z u v) = primitive_channel p d tokens _ _ r v
  by (at_timer q r) (at_primitive o u v) = primitive_timer o tokens _ _ v r
  by (at_timer q r) (at_timer u v) = (q ∙ sym u, (cut _ _ _ _ (sym r ∙ v)).1)
  by (at_timer q r) (at_channel d z u v) = timer_channel d tokens _ _ r v
  by (at_channel c i q r) (at_primitive o u v) = primitive_channel o c tokens _ _ v r
  by (at_channel c i q r) (at_timer u v) = timer_channel c tokens _ _ v r
  by (at_channel c i q r) (at_channel d z u v) =
      let h = one_words c d _ _ (no_of i j) (no_of z k) (sym r ∙ v) in
      let short : length (carried_then i j) < n + 1 = omega (arith, less, ap length r, words_first c (carried_then i j)) in
      let m = one_carried n one (carried_then i j) short i z j k (carried x c i j k a q) (carried y d z k j b u) refl h.1 in
      (q ∙ ap (λ (l : ChannelWords). carrying l i) h.0 ∙ ap (λ (l : Carried). carrying d l) m.0 ∙ sym u, m.1)

pub one_builtin_below : (n : ℕ) → ExprBelow n → Below builtin_then IsNotCounted (n + 1)
one_builtin_below n one tokens less x y j k a b e f = one_builtin_apart n one tokens less x y j k (λ c ds base p. plain_apart j k a) (λ c ds base p. plain_apart k j b) e f

-- so where a type could
abbrev pub TypeApart : TypeForm → List Token → List Token → Type 0
TypeApart type j k = (ds : List Dimension) (b : Builtin) → type ≡ tv.Builtin ds b → BuiltinApart b j k

pub one_type_apart : (n : ℕ) → ExprBelow n → (tokens : List Token) → length tokens < n + 1 → (x y : TypeForm) (j k : List Token) → TypeApart x j k → TypeApart y k j
    → tokens ≡ type_form_then x j → tokens ≡ type_form_then y k → (x ≡ y) × (j ≡ k)
one_type_apart n one tokens less x y j k a b e f = by (type_form_is x) (type_form_is y) where
  spelled : (z v : TypeForm) (i read : List Token) → tokens ≡ type_form_then z i → z ≡ v → type_form_then v i ≡ read → tokens ≡ read
  spelled z v i read p q r = p ∙ ap (λ (u : TypeForm). type_form_then u i) q ∙ r

  word_name : {Z : Type 0} (ds es : List Dimension) (c : Builtin) (m : List ℕ) (i l : List Token) → tokens ≡ many dimension_then ds (builtin_then c i) → tokens ≡ many dimension_then es (t.Name m ∷ l) → Z
  word_name ds es c m i l p q = let h = one_dimensions n one tokens less ds es _ _ (builtin_ends c i) (name_ends m l) p q in absurd (builtin_no_name c i m l h.1)

  by : TypeFormIs x → TypeFormIs y → (x ≡ y) × (j ≡ k)
  by (type_form_is_named ds m p) (type_form_is_named es o q) =
      let h = one_dimensions n one tokens less ds es _ _ (name_ends m j) (name_ends o k) (spelled x _ j _ e p (type_form_named_spells ds m j)) (spelled y _ k _ f q (type_form_named_spells es o k)) in
      let c = cut _ _ _ _ h.1 in
      let i : t.Name m ≡ t.Name o = c.0 in
      let l : m ≡ o = (cc) in
      (p ∙ ap (λ (z : List Dimension). tv.Named z m) h.0 ∙ ap (λ (z : List ℕ). tv.Named es z) l ∙ sym q, c.1)
  by (type_form_is_named ds m p) (type_form_is_builtin es c q) = word_name es ds c m _ _ (spelled y _ k _ f q (type_form_builtin_spells es c k)) (spelled x _ j _ e p (type_form_named_spells ds m j))
  by (type_form_is_builtin ds c p) (type_form_is_named es m q) = word_name ds es c m _ _ (spelled x _ j _ e p (type_form_builtin_spells ds c j)) (spelled y _ k _ f q (type_form_named_spells es m k))
  by (type_form_is_builtin ds c p) (type_form_is_builtin es d q) =
      let r = spelled x _ j _ e p (type_form_builtin_spells ds c j) in
      let h = one_dimensions n one tokens less ds es _ _ (builtin_ends c j) (builtin_ends d k) r (spelled y _ k _ f q (type_form_builtin_spells es d k)) in
      let m = one_builtin_apart n one (builtin_then c j) (omega (arith, less, ap length r, list_grows dimension_then inner_dimension ds (builtin_then c j))) c d j k (a ds c p) (b es d q) refl h.1 in
      (p ∙ ap (λ (z : List Dimension). tv.Builtin z c) h.0 ∙ ap (λ (z : Builtin). tv.Builtin es z) m.0 ∙ sym q, m.1)

pub plain_type : (type : TypeForm) (j k : List Token) → IsNotCounted j → TypeApart type j k
plain_type type j k none ds b p c es base q = plain_apart j k none

pub one_type_form_below : (n : ℕ) → ExprBelow n → Below type_form_then IsNotCounted (n + 1)
one_type_form_below n one tokens less x y j k a b e f = one_type_apart n one tokens less x y j k (plain_type x j k a) (plain_type y k j b) e f

-- a type in brackets
pub one_decoration : (n : ℕ) → ExprBelow n → Below decoration_of Anything (n + 1)
one_decoration n one = one_after (t.Symbol s.Open) (λ ty k. type_form_then ty (t.Symbol s.Close ∷ k)) Anything n
    (one_before (t.Symbol s.Close) type_form_then IsNotCounted n (λ k. refl) (fewer type_form_then IsNotCounted n (one_type_form_below n one)))
