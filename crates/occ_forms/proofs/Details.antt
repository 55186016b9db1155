-- Parts of tags and variants, as they are read.
use Rattle.std.proofs.Common.{◌≡◌, ◌∙◌, ℕ, refl, sym, ap, subst, true, false, List, [], ◌∷◌, Option, Some, None, Result, Ok, Err, IfOk, IfSome, Bor}
use Rattle.std.specs.declared.alloc.AllocError.{AllocError}
use Rattle.occ_lines.specs.declared.token.Symbol.TheVariants as s
use Rattle.occ_lines.specs.declared.token.Token.{Token}
use Rattle.occ_lines.specs.declared.token.Token.TheVariants as t
use Rattle.occ_lines.specs.declared.token.Word.TheVariants as w
use Rattle.occ_forms_expressions.specs.declared.bracket.Closing.TheVariants as cl
use Rattle.occ_forms_expressions.specs.declared.tree.Bounds.{Bounds}
use Rattle.occ_forms_expressions.specs.declared.tree.Bounds.TheOpen.{TypeForm-F}
use Rattle.occ_forms_expressions.specs.declared.tree.Bounds.TheViews.{out-roll-TypeForm}
use Rattle.occ_forms_expressions.specs.declared.tree.Builtin.{Builtin}
use Rattle.occ_forms_expressions.specs.declared.tree.Builtin.TheVariants as uv
use Rattle.occ_forms_expressions.specs.declared.tree.ChannelWords.{ChannelWords}
use Rattle.occ_forms_expressions.specs.declared.tree.ChannelWords.TheVariants as ch
use Rattle.occ_forms_expressions.specs.declared.tree.DataBase.{DataBase}
use Rattle.occ_forms_expressions.specs.declared.tree.DataBase.TheVariants as da
use Rattle.occ_forms_expressions.specs.declared.tree.DataForm.{DataForm}
use Rattle.occ_forms_expressions.specs.declared.tree.Dimension.{Dimension}
use Rattle.occ_forms_expressions.specs.declared.tree.Element.{Element}
use Rattle.occ_forms_expressions.specs.declared.tree.Element.TheVariants as ev
use Rattle.occ_forms_expressions.specs.declared.tree.Expr.{Expr}
use Rattle.occ_forms_expressions.specs.declared.tree.Expr.TheVariants as xv
use Rattle.occ_forms_expressions.specs.declared.tree.NamedOperand.{NamedOperand}
use Rattle.occ_forms_expressions.specs.declared.tree.Operand.{Operand}
use Rattle.occ_forms_expressions.specs.declared.tree.Operand.TheVariants as ov
use Rattle.occ_forms_expressions.specs.declared.tree.PrimitiveWord.{PrimitiveWord}
use Rattle.occ_forms_expressions.specs.declared.tree.TypeForm.{TypeForm, out-TypeForm}
use Rattle.occ_forms_expressions.specs.declared.tree.TypeForm.TheVariants as tv
use Rattle.occ_forms_expressions.specs.inside.Brackets.{bounds_begin, closing_then}
use Rattle.occ_forms_expressions.specs.Reading.{IsNotCounted, Reads, ends_expr, is_counted}
use Rattle.occ_forms_expressions.specs.Spelling.{bounds_then, builtin_then, channel_words, counted_array, data_base_token, data_form_then, dimension_then, element_then, expr_then, many, subscript_of, type_form_then}
use Rattle.occ_forms_expressions.proofs.Begins.{no_expr}
use Rattle.occ_forms_expressions.proofs.Cases.{BoundsIs, bounds_is, bounds_is_for, bounds_is_from, bounds_is_from_for, bounds_for_spells, bounds_from_for_spells, bounds_from_spells, BuiltinIs, builtin_is, builtin_is_any_channel, builtin_is_channel, builtin_is_counted, builtin_is_primitive, builtin_is_timer, builtin_any_channel_spells, builtin_channel_spells, builtin_counted_spells, builtin_primitive_spells, builtin_timer_spells, DimensionIs, dimension_is, dimension_is_open, dimension_is_sized, dimension_open_spells, dimension_sized_spells, ElementIs, element_is, element_is_named, element_is_segment, element_named_spells, element_segment_spells, expr_alone_spells, operand_element_spells, type_form_builtin_spells}
use Rattle.occ_forms_expressions.proofs.Closings.{closing_ends}
use Rattle.occ_forms_expressions.proofs.Dimensions.{base_ends, builtin_ends, data_word, dimension_begins}
use Rattle.occ_forms_expressions.proofs.UniqueExprs.{one_dimension_of, one_expr}
use Rattle.occ_forms.specs.declared.tree.Detail.{Detail}
use Rattle.occ_forms.specs.declared.tree.Detail.TheVariants as de
use Rattle.occ_forms.specs.inside.Details.{typed_of}
use Rattle.occ_forms.specs.Reading.{IsItemEnd, ends_item}
use Rattle.occ_forms.specs.Spelling.{counted, detail_then}
use Rattle.occ_forms.proofs.Ends.{count_ends}

after_token : (token : Token) (j k : List Token) → token ∷ j ≡ token ∷ k → j ≡ k
after_token token j k e = cc

bounds_begins : (b : Bounds) (k : List Token) → bounds_begin (bounds_then b k) ≡ true
bounds_begins b k = by b k (bounds_is b) where
  by : (b : Bounds) (k : List Token) → BoundsIs b → bounds_begin (bounds_then b k) ≡ true
  by b k (bounds_is_from e q) = ap (λ (x : Bounds). bounds_begin (bounds_then x k)) q ∙ ap bounds_begin (bounds_from_spells e k)
  by b k (bounds_is_for e q) = ap (λ (x : Bounds). bounds_begin (bounds_then x k)) q ∙ ap bounds_begin (bounds_for_spells e k)
  by b k (bounds_is_from_for e f q) = ap (λ (x : Bounds). bounds_begin (bounds_then x k)) q ∙ ap bounds_begin (bounds_from_for_spells e f k)

-- a segment begins with an element, and its bounds follow
segment_begins : (el : Element) (b : Bounds) (es : List Expr) (k : List Token)
    → element_then (ev.Segment el b es) k ≡ t.Symbol s.OpenIndex ∷ expr_then (xv.Alone (ov.Element el)) (closing_then (cl.Segment b es) k)
segment_begins el b es k = element_segment_spells el b es k
    ∙ ap (λ (z : List Token). t.Symbol s.OpenIndex ∷ z) (sym (operand_element_spells el (closing_then (cl.Segment b es) k)) ∙ sym (expr_alone_spells (ov.Element el) (closing_then (cl.Segment b es) k)))

-- so it is spelled as no dimension
segment_no_dimension : (el : Element) (b : Bounds) (es : List Expr) (k : List Token) (d : Dimension) (j : List Token) → element_then (ev.Segment el b es) k ≡ dimension_then d j → ⊥
segment_no_dimension el b es k d j e = by (dimension_is d) where
  first : Expr
  first = xv.Alone (ov.Element el)

  by : DimensionIs d → ⊥
  by (dimension_is_open q) = let h = sym (segment_begins el b es k) ∙ e ∙ ap (λ (x : Dimension). dimension_then x j) q ∙ dimension_open_spells j in
      no_expr (xv.Alone (ov.Element el)) _ (t.Symbol s.CloseIndex ∷ j) refl (sym (after_token _ _ _ h))
  by (dimension_is_sized x q) = let h = sym (segment_begins el b es k) ∙ e ∙ ap (λ (y : Dimension). dimension_then y j) q ∙ dimension_sized_spells x j in
      let m = one_expr (xv.Alone (ov.Element el)) x (closing_then (cl.Segment b es) k) (t.Symbol s.CloseIndex ∷ j) (closing_ends (cl.Segment b es) k) refl (after_token _ _ _ h) in
      let c : true ≡ false = sym (bounds_begins b _) ∙ ap bounds_begin m.1 in absurd cc

-- nor is any element spelled as an array's type
pub element_no_array : (el : Element) (k : List Token) (d : Dimension) (j : List Token) → element_then el k ≡ dimension_then d j → ⊥
element_no_array el k d j e = by (element_is el) where
  by : ElementIs el → ⊥
  by (element_is_named n es q) = let h = dimension_begins d j in
      let i : t.Name n ∷ many subscript_of es k ≡ t.Symbol s.OpenIndex ∷ h.0 = sym (element_named_spells n es k) ∙ sym (ap (λ (x : Element). element_then x k) q) ∙ e ∙ h.1 in absurd cc
  by (element_is_segment of b es q) = segment_no_dimension of b es k d j (sym (ap (λ (x : Element). element_then x k) q) ∙ e)

-- a data type is read, and this is left
abbrev pub IsFormRead : List Token → DataForm → List Token → Type 0
IsFormRead tokens form rest = (x : DataForm) (k : List Token) → tokens ≡ data_form_then x k → (form ≡ x) × (rest ≡ k)

abbrev bare : List ℕ → DataForm
bare n = record { dimensions = []; base = da.Named n }

-- where an element stands, the data type is its name
abbrev IsName : DataForm → List Token → List Token → Type 0
IsName form rest k = (n : List ℕ) × (es : List Expr) × (form ≡ bare n) × (rest ≡ many subscript_of es k)

element_name : (tokens : List Token) (form : DataForm) (rest : List Token) (el : Element) (k : List Token) → tokens ≡ data_form_then form rest → IsFormRead tokens form rest → tokens ≡ element_then el k → IsName form rest k
element_name tokens form rest el k found read e = by (element_is el) where
  no_form : (of : Element) (b : Bounds) (es : List Expr) (ds : List Dimension) (base : DataBase) → element_then (ev.Segment of b es) k ≡ many dimension_then ds (data_base_token base ∷ rest) → ⊥
  no_form of b es [] base q = base_ends base rest _ (sym q ∙ segment_begins of b es k)
  no_form of b es (d ∷ ds) base q = segment_no_dimension of b es k d _ q

  by : ElementIs el → IsName form rest k
  by (element_is_named n es q) = let h = read (bare n) (many subscript_of es k) (e ∙ ap (λ (x : Element). element_then x k) q ∙ element_named_spells n es k) in (n, es, h.0, h.1)
  by (element_is_segment of b es q) = absurd (no_form of b es form.dimensions form.base (sym (ap (λ (x : Element). element_then x k) q) ∙ sym e ∙ found))

-- a type of a reserved word that is spelled as a data type is a primitive one
base_primitive : (base : DataBase) (b : Builtin) (j k : List Token) → data_base_token base ∷ j ≡ builtin_then b k → (p : PrimitiveWord) × (b ≡ uv.Primitive p)
base_primitive base b j k e = by (builtin_is b) where
  channel : (c : ChannelWords) (z : List Token) → data_base_token base ∷ j ≡ channel_words c z → ⊥
  channel ch.Chan z q = data_word [] base j w.Chan z refl q
  channel ch.ChanOf z q = data_word [] base j w.Chan (t.Word w.Of ∷ z) refl q

  by : BuiltinIs b → (p : PrimitiveWord) × (b ≡ uv.Primitive p)
  by (builtin_is_primitive p q) = (p, q)
  by (builtin_is_timer q) = absurd (data_word [] base j w.Timer k refl (e ∙ ap (λ (x : Builtin). builtin_then x k) q ∙ builtin_timer_spells k))
  by (builtin_is_any_channel c q) = absurd (channel c _ (e ∙ ap (λ (x : Builtin). builtin_then x k) q ∙ builtin_any_channel_spells c k))
  by (builtin_is_channel c ds a q) = absurd (channel c _ (e ∙ ap (λ (x : Builtin). builtin_then x k) q ∙ builtin_channel_spells c ds a k))
  by (builtin_is_counted c ds a es o q) = absurd (channel c _ (e ∙ ap (λ (x : Builtin). builtin_then x k) q ∙ builtin_counted_spells c ds a es o k))

data_primitive : (ds es : List Dimension) (base : DataBase) (b : Builtin) (j k : List Token) → many dimension_then ds (data_base_token base ∷ j) ≡ many dimension_then es (builtin_then b k) → (p : PrimitiveWord) × (b ≡ uv.Primitive p)
data_primitive [] [] base b j k e = base_primitive base b j k e
data_primitive [] (d ∷ es) base b j k e = let h = dimension_begins d (many dimension_then es (builtin_then b k)) in absurd (base_ends base j h.0 (e ∙ h.1))
data_primitive (d ∷ ds) [] base b j k e = let h = dimension_begins d (many dimension_then ds (data_base_token base ∷ j)) in absurd (builtin_ends b k h.0 (sym e ∙ h.1))
data_primitive (d ∷ ds) (f ∷ es) base b j k e = data_primitive ds es base b j k (one_dimension_of d f _ _ e).1

-- and then it is read as one
pub builtin_form : (tokens : List Token) (form : DataForm) (rest : List Token) (ds : List Dimension) (b : Builtin) (k : List Token) → tokens ≡ data_form_then form rest → IsFormRead tokens form rest
    → tokens ≡ many dimension_then ds (builtin_then b k) → (p : PrimitiveWord) × (b ≡ uv.Primitive p) × (form ≡ record { dimensions = ds; base = da.Primitive p }) × (rest ≡ k)
builtin_form tokens form rest ds b k found read e = let h = data_primitive form.dimensions ds form.base b rest k (sym found ∙ e) in
    let m = read (record { dimensions = ds; base = da.Primitive h.0 }) k (e ∙ ap (λ (x : Builtin). many dimension_then ds (builtin_then x k)) h.1 ∙ ap (many dimension_then ds) (builtin_primitive_spells h.0 k)) in
    (h.0, h.1, m.0, m.1)

-- `::[]` stands after no part
pub no_count : (begun k : List Token) → IsItemEnd k → k ≡ counted_array begun → ⊥
no_count begun k ends e = let h : true ≡ false = sym ends ∙ ap ends_item e in absurd cc

no_count_after : (begun k : List Token) (es : List Expr) → ends_item k ≡ true → many subscript_of es k ≡ counted_array begun → ⊥
no_count_after begun k [] ends e = no_count begun k ends e
no_count_after begun k (x ∷ es) ends e = absurd cc

no_count_between : (begun k : List Token) (es : List Expr) (array : Element) → many subscript_of es (t.Symbol s.Counted ∷ element_then array k) ≡ counted_array begun → ⊥
no_count_between begun k [] array e = let h : true ≡ false = sym (count_ends array k) ∙ ap ends_expr e in absurd cc
no_count_between begun k (x ∷ es) array e = absurd cc

-- what was read is the one part
abbrev pub IsRight : List Token → Option (Detail × Bor (List Token)) → Type 0
IsRight tokens r = (x : Detail) (k : List Token) → IsItemEnd k → tokens ≡ detail_then x k → IfSome r (λ y. (y.0 ≡ x) × (y.1.now ≡ k))

right_of : (r : Option (Detail × Bor (List Token))) (x : Detail) (k : List Token) → Reads r x k → IfSome r (λ y. (y.0 ≡ x) × (y.1.now ≡ k))
right_of None x k h = tt
right_of (Some y) x k h = h

count_inside : (a b : List Token) → counted_array a ≡ counted_array b → a ≡ b
count_inside a b q = cc

-- where `::[]` follows the data type, the part is a counted array of that count
pub counted_part : (tokens : List Token) (form : DataForm) (rest begun : List Token) → tokens ≡ data_form_then form rest → IsFormRead tokens form rest → rest ≡ counted_array begun
    → (x : Detail) (k : List Token) → IsItemEnd k → tokens ≡ detail_then x k → (c : DataForm) × (de.CountedType form c ≡ x) × (begun ≡ data_form_then c k)
counted_part tokens form rest begun found read is (de.Element el) k ends e = let h = element_name tokens form rest el k found read e in absurd (no_count_after begun k h.1 ends (sym h.3 ∙ is))
counted_part tokens form rest begun found read is (de.Counted el array) k ends e = let h = element_name tokens form rest el _ found read e in absurd (no_count_between begun k h.1 array (sym h.3 ∙ is))
counted_part tokens form rest begun found read is (de.Array d ds n) k ends e = let h = read (record { dimensions = d ∷ ds; base = da.Named n }) k e in absurd (no_count begun k ends (sym h.1 ∙ is))
counted_part tokens form rest begun found read is (de.Builtin ds b) k ends e = let h = builtin_form tokens form rest ds b k found read e in absurd (no_count begun k ends (sym h.3 ∙ is))
counted_part tokens form rest begun found read is (de.CountedType a c) k ends e = let h = read a _ e in
    (c, ap (λ (y : DataForm). de.CountedType y c) h.0, count_inside begun (data_form_then c k) (sym is ∙ h.1))

pub counted_right : (tokens : List Token) (form : DataForm) (rest begun : List Token) (result : Result (Option (Detail × Bor (List Token))) AllocError) → tokens ≡ data_form_then form rest → IsFormRead tokens form rest
    → rest ≡ counted_array begun → IfOk result (λ r. (c : DataForm) (k : List Token) → begun ≡ data_form_then c k → Reads r (de.CountedType form c) k)
    → IfOk result (IsRight tokens)
counted_right tokens form rest begun (Err _) found read is only = tt
counted_right tokens form rest begun (Ok r) found read is only = λ x k ends e. let h = counted_part tokens form rest begun found read is x k ends e in
    right_of r x k (subst (λ (y : Detail). Reads r y k) h.1 (only h.0 k h.2))

pub typed_right : (tokens : List Token) (form : DataForm) (rest : List Token) (detail : Detail) → tokens ≡ data_form_then form rest → IsFormRead tokens form rest
    → IsNotCounted rest → typed_of form ≡ Some detail
    → (x : Detail) (k : List Token) → IsItemEnd k → tokens ≡ detail_then x k → (detail ≡ x) × (rest ≡ k)
typed_right tokens form rest detail found read none is (de.Element el) k ends e = let h = element_name tokens form rest el k found read e in
    let m : Some detail ≡ None = sym is ∙ ap typed_of h.2 in absurd cc
typed_right tokens form rest detail found read none is (de.Counted el array) k ends e = let h = element_name tokens form rest el _ found read e in
    let m : Some detail ≡ None = sym is ∙ ap typed_of h.2 in absurd cc
typed_right tokens form rest detail found read none is (de.Array d ds n) k ends e = let h = read (record { dimensions = d ∷ ds; base = da.Named n }) k e in
    let m : Some detail ≡ Some (de.Array d ds n) = sym is ∙ ap typed_of h.0 in (cc, h.1)
typed_right tokens form rest detail found read none is (de.Builtin ds b) k ends e = let h = builtin_form tokens form rest ds b k found read e in
    let m : Some detail ≡ Some (de.Builtin ds (uv.Primitive h.0)) = sym is ∙ ap typed_of h.2 in
    let i : detail ≡ de.Builtin ds (uv.Primitive h.0) = (cc) in
    (i ∙ ap (λ (y : Builtin). de.Builtin ds y) (sym h.1), h.3)
typed_right tokens form rest detail found read none is (de.CountedType a c) k ends e = let h : false ≡ true = sym none ∙ ap is_counted (read a _ e).1 in absurd cc

-- what is spelled as an array or a counted array is read as a data type
pub typed_array : (form : DataForm) (tokens rest : List Token) (d : Dimension) (ds : List Dimension) (n : List ℕ) (k : List Token) → IsFormRead tokens form rest → typed_of form ≡ None
    → tokens ≡ detail_then (de.Array d ds n) k → ⊥
typed_array form tokens rest d ds n k read is e = let m : None ≡ Some (de.Array d ds n) = sym is ∙ ap typed_of (read (record { dimensions = d ∷ ds; base = da.Named n }) k e).0 in absurd cc

pub array_uncounted : (form : DataForm) (tokens rest begun : List Token) (d : Dimension) (ds : List Dimension) (n : List ℕ) (k : List Token) → IsFormRead tokens form rest → rest ≡ counted_array begun
    → IsItemEnd k → tokens ≡ detail_then (de.Array d ds n) k → ⊥
array_uncounted form tokens rest begun d ds n k read is ends e = no_count begun k ends (sym (read (record { dimensions = d ∷ ds; base = da.Named n }) k e).1 ∙ is)

pub counted_counts : (form : DataForm) (tokens rest begun : List Token) (result : Result (Option (Detail × Bor (List Token))) AllocError) → IsFormRead tokens form rest → rest ≡ counted_array begun
    → IfOk result (λ r. (c : DataForm) (k : List Token) → begun ≡ data_form_then c k → Reads r (de.CountedType form c) k)
    → IfOk result (λ r. (count component : DataForm) (k : List Token) → tokens ≡ detail_then (de.CountedType count component) k → Reads r (de.CountedType count component) k)
counted_counts form tokens rest begun (Err _) read is only = tt
counted_counts form tokens rest begun (Ok r) read is only = λ a c k e. let h = read a _ e in
    let m : begun ≡ data_form_then c k = count_inside begun (data_form_then c k) (sym is ∙ h.1) in
    subst (λ (y : DataForm). Reads r (de.CountedType y c) k) h.0 (only c k m)

-- an element is spelled as no type of a reserved word
pub element_no_builtin : (el : Element) (j : List Token) (ds : List Dimension) (b : Builtin) (k : List Token) → element_then el j ≡ many dimension_then ds (builtin_then b k) → ⊥
element_no_builtin el j [] b k e = by (element_is el) where
  by : ElementIs el → ⊥
  by (element_is_named n es q) = let i : t.Name n ∷ many subscript_of es j ≡ builtin_then b k = sym (element_named_spells n es j) ∙ sym (ap (λ (x : Element). element_then x j) q) ∙ e in
      let h = base_primitive (da.Named n) b (many subscript_of es j) k i in
      let m = i ∙ ap (λ (x : Builtin). builtin_then x k) h.1 ∙ builtin_primitive_spells h.0 k in absurd cc
  by (element_is_segment of bounds es q) = builtin_ends b k _ (sym e ∙ ap (λ (x : Element). element_then x j) q ∙ segment_begins of bounds es j)
element_no_builtin el j (d ∷ ds) b k e = element_no_array el j d _ e

-- the parts that are read first, as the other readers have to know
pub record NoType (tokens : List Token) : Type 0 where
  pub array : (d : Dimension) (ds : List Dimension) (n : List ℕ) (k : List Token) → IsItemEnd k → tokens ≡ detail_then (de.Array d ds n) k → ⊥
  pub counted : (count component : DataForm) (k : List Token) → tokens ≡ detail_then (de.CountedType count component) k → ⊥

abbrev pub IsElement : List Token → Type 0
IsElement tokens = (el : Element) × (j : List Token) × (tokens ≡ element_then el j)

pub element_right : (tokens : List Token) (r : Option (Detail × Bor (List Token))) → NoType tokens → IsElement tokens
    → ((el : Element) (k : List Token) → IsItemEnd k → tokens ≡ element_then el k → Reads r (de.Element el) k)
    → ((el array : Element) (k : List Token) → IsItemEnd k → tokens ≡ counted (element_then el) (element_then array) k → Reads r (de.Counted el array) k)
    → (x : Detail) (k : List Token) → IsItemEnd k → tokens ≡ detail_then x k → Reads r x k
element_right tokens r none is element counts (de.Element el) k ends e = element el k ends e
element_right tokens r none is element counts (de.Counted el array) k ends e = counts el array k ends e
element_right tokens r none is element counts (de.Array d ds n) k ends e = absurd (none.array d ds n k ends e)
element_right tokens r none is element counts (de.Builtin ds b) k ends e = absurd (element_no_builtin is.0 is.1 ds b k (sym is.2 ∙ e))
element_right tokens r none is element counts (de.CountedType a c) k ends e = absurd (none.counted a c k e)

pub builtin_right : (tokens : List Token) (result : Result (Option (Detail × Bor (List Token))) AllocError) → NoType tokens
    → ((el : Element) (k : List Token) → IsItemEnd k → tokens ≡ element_then el k → ⊥)
    → ((el array : Element) (k : List Token) → IsItemEnd k → tokens ≡ counted (element_then el) (element_then array) k → ⊥)
    → IfOk result (λ r. (ds : List Dimension) (b : Builtin) (k : List Token) → IsItemEnd k → tokens ≡ many dimension_then ds (builtin_then b k) → Reads r (de.Builtin ds b) k)
    → IfOk result (λ r. (x : Detail) (k : List Token) → IsItemEnd k → tokens ≡ detail_then x k → Reads r x k)
builtin_right tokens (Err _) none element counts builtin = tt
builtin_right tokens (Ok r) none element counts builtin = by where
  by : (x : Detail) (k : List Token) → IsItemEnd k → tokens ≡ detail_then x k → Reads r x k
  by (de.Element el) k ends e = absurd (element el k ends e)
  by (de.Counted el array) k ends e = absurd (counts el array k ends e)
  by (de.Array d ds n) k ends e = absurd (none.array d ds n k ends e)
  by (de.Builtin ds b) k ends e = builtin ds b k ends e
  by (de.CountedType a c) k ends e = absurd (none.counted a c k e)

-- a type of a reserved word, as it is read
pub item_not_counted : (k : List Token) → IsItemEnd k → IsNotCounted k
item_not_counted [] ends = refl
item_not_counted (t.Symbol s.Semicolon ∷ k) ends = refl
item_not_counted (t.Symbol other ∷ k) ends = absurd cc
item_not_counted (other ∷ k) ends = absurd cc

pub type_builtin : (tokens : List Token)
    → ((x : TypeForm) (k : List Token) → IsNotCounted k → tokens ≡ type_form_then x k → ⊥)
    → (ds : List Dimension) (b : Builtin) (k : List Token) → IsItemEnd k → tokens ≡ many dimension_then ds (builtin_then b k) → ⊥
type_builtin tokens none ds b k ends e = none (tv.Builtin ds b) k (item_not_counted k ends) (e ∙ sym (type_form_builtin_spells ds b k))

pub builtin_form_is : (tokens rest : List Token) (form : TypeForm) → ((x : TypeForm) (k : List Token) → IsNotCounted k → tokens ≡ type_form_then x k → (form ≡ x) × (rest ≡ k))
    → (ds : List Dimension) (b : Builtin) (k : List Token) → IsItemEnd k → tokens ≡ many dimension_then ds (builtin_then b k) → (form ≡ tv.Builtin ds b) × (rest ≡ k)
builtin_form_is tokens rest form read ds b k ends e = read (tv.Builtin ds b) k (item_not_counted k ends) (e ∙ sym (type_form_builtin_spells ds b k))

abbrev builtin_step : TypeForm-F Bounds Builtin Dimension Element Expr NamedOperand Operand TypeForm → Option (List Dimension × Builtin)
builtin_step (TypeForm-F.TypeForm::Named ds n) = None
builtin_step (TypeForm-F.Builtin ds b) = Some (ds, b)

builtin_back : (ds : List Dimension) (b : Builtin) → builtin_step (out-TypeForm (tv.Builtin ds b)) ≡ Some (ds, b)
builtin_back ds b = ap (λ (x : TypeForm). builtin_step (out-TypeForm x)) (sym (tv.rolls-Builtin ds b)) ∙ ap builtin_step (out-roll-TypeForm (TypeForm-F.Builtin ds b))

named_back : (ds : List Dimension) (n : List ℕ) → builtin_step (out-TypeForm (tv.Named ds n)) ≡ None
named_back ds n = ap (λ (x : TypeForm). builtin_step (out-TypeForm x)) (sym (tv.rolls-Named ds n)) ∙ ap builtin_step (out-roll-TypeForm (TypeForm-F.TypeForm::Named ds n))

none_some : (x : List Dimension × Builtin) → None ≡ Some x → ⊥
none_some x h = absurd cc

pub not_named : (form : TypeForm) (ds es : List Dimension) (n : List ℕ) (b : Builtin) → form ≡ tv.Named ds n → form ≡ tv.Builtin es b → ⊥
not_named form ds es n b p q = none_some (es, b) (sym (named_back ds n) ∙ ap (λ (x : TypeForm). builtin_step (out-TypeForm x)) (sym p ∙ q) ∙ builtin_back es b)

pub same_builtin : (form : TypeForm) (ds es : List Dimension) (a b r : Builtin) → form ≡ tv.Builtin ds a → r ≡ a → form ≡ tv.Builtin es b → de.Builtin ds r ≡ de.Builtin es b
same_builtin form ds es a b r p i q = let h : Some (ds, a) ≡ Some (es, b) = sym (builtin_back ds a) ∙ ap (λ (x : TypeForm). builtin_step (out-TypeForm x)) (sym p ∙ q) ∙ builtin_back es b in
    let j : (ds, a) ≡ (es, b) = (cc) in
    let c : ds ≡ es = ap (λ (y : List Dimension × Builtin). y.0) j in let d : a ≡ b = ap (λ (y : List Dimension × Builtin). y.1) j in
    ap (λ (y : List Dimension). de.Builtin y r) c ∙ ap (λ (y : Builtin). de.Builtin es y) (i ∙ d)

pub builtin_found : (tokens rest : List Token) (form : TypeForm) (ds : List Dimension) (a r : Builtin) → tokens ≡ type_form_then form rest → form ≡ tv.Builtin ds a → r ≡ a → tokens ≡ many dimension_then ds (builtin_then r rest)
builtin_found tokens rest form ds a r e p i = e ∙ ap (λ (x : TypeForm). type_form_then x rest) p ∙ type_form_builtin_spells ds a rest ∙ ap (λ (x : Builtin). many dimension_then ds (builtin_then x rest)) (sym i)

pub array_right : (form : DataForm) (tokens rest begun : List Token) (result : Result (Option (Detail × Bor (List Token))) AllocError) → IsFormRead tokens form rest → rest ≡ counted_array begun
    → IfOk result (λ r. (d : Dimension) (ds : List Dimension) (n : List ℕ) (k : List Token) → IsItemEnd k → tokens ≡ detail_then (de.Array d ds n) k → Reads r (de.Array d ds n) k)
array_right form tokens rest begun (Err _) read is = tt
array_right form tokens rest begun (Ok r) read is = λ d ds n k ends e. absurd (array_uncounted form tokens rest begun d ds n k read is ends e)
