-- Types, step by step as they are read.
use Rattle.std.proofs.Common.{◌≡◌, inl, inr, ℕ, false, List, [], ◌∷◌, Option, Some, None, Result, Ok, Err, IfOk, Bor, refl, sym, ◌∙◌, ap, subst}
use Rattle.std.specs.declared.alloc.AllocError.{AllocError}
use Rattle.occ_lines.specs.declared.token.Symbol.TheVariants as s
use Rattle.occ_lines.specs.declared.token.Token.{Token}
use Rattle.occ_lines.specs.declared.token.Token.TheVariants as t
use Rattle.occ_forms_expressions.specs.declared.tree.Dimension.{Dimension}
use Rattle.occ_lines.specs.declared.token.Word.{Word}
use Rattle.occ_lines.specs.declared.token.Word.TheVariants as w
use Rattle.occ_forms_expressions.specs.declared.tree.Builtin.{Builtin}
use Rattle.occ_forms_expressions.specs.declared.tree.Builtin.TheVariants as uv
use Rattle.occ_forms_expressions.specs.declared.tree.ChannelWords.{ChannelWords}
use Rattle.occ_forms_expressions.specs.declared.tree.ChannelWords.TheVariants as ch
use Rattle.occ_forms_expressions.specs.declared.tree.DataBase.{DataBase}
use Rattle.occ_forms_expressions.specs.declared.tree.DataBase.TheVariants as da
use Rattle.occ_forms_expressions.specs.declared.tree.DataForm.{DataForm}
use Rattle.occ_forms_expressions.specs.declared.tree.Dimension.TheVariants as dv
use Rattle.occ_forms_expressions.specs.declared.tree.PrimitiveWord.{PrimitiveWord}
use Rattle.occ_forms_expressions.specs.declared.tree.PrimitiveWord.TheVariants as pr
use Rattle.occ_forms_expressions.specs.declared.tree.TypeForm.{TypeForm}
use Rattle.occ_forms_expressions.specs.declared.tree.TypeForm.TheVariants as tv
use Rattle.occ_forms_expressions.specs.inside.Parts.{primitive_of}
use Rattle.occ_forms_expressions.specs.declared.begin.Begin.{Begin}
use Rattle.occ_forms_expressions.specs.declared.types.Following.{Following}
use Rattle.occ_forms_expressions.specs.declared.types.Following.TheVariants as bh
use Rattle.occ_forms_expressions.specs.Reading.{IsEndOfRun, IsNot, IsNotWord, Reads, begin_of, is_operand_begin}
use Rattle.occ_forms_expressions.specs.Spelling.{builtin_then, channel_words, counted_array, data_base_token, data_form_then, dimension_then, expr_then, many, primitive_word, subscript_of, type_form_then}
use Rattle.occ_forms_expressions.specs.TypeEnds.{EndsArray, EndsBuiltin, EndsCarried, EndsType}
use Rattle.occ_forms_expressions.proofs.Begins.{no_expr}
use Rattle.occ_forms_expressions.proofs.Cases.{BuiltinIs, builtin_is, builtin_is_primitive, builtin_is_timer, builtin_is_any_channel, builtin_is_channel, builtin_is_counted, builtin_primitive_spells, builtin_timer_spells, builtin_any_channel_spells, builtin_channel_spells, builtin_counted_spells, DimensionIs, dimension_is, dimension_is_open, dimension_is_sized, dimension_open_spells, dimension_sized_spells, TypeFormIs, type_form_is, type_form_is_named, type_form_is_builtin, type_form_named_spells, type_form_builtin_spells}
use Rattle.occ_forms_expressions.proofs.Tailed.{end_after}
use Rattle.occ_forms_expressions.proofs.Words.{BeginsNone, after_begins}

-- a dimension begins with its bracket
pub dimension_begins : (d : Dimension) (k : List Token) → (rest : List Token) × (dimension_then d k ≡ t.Symbol s.OpenIndex ∷ rest)
dimension_begins d k = by d k (dimension_is d) where
  by : (d : Dimension) (k : List Token) → DimensionIs d → (rest : List Token) × (dimension_then d k ≡ t.Symbol s.OpenIndex ∷ rest)
  by d k (dimension_is_open e) = (_, ap (λ (x : Dimension). dimension_then x k) e ∙ dimension_open_spells k)
  by d k (dimension_is_sized size e) = (_, ap (λ (x : Dimension). dimension_then x k) e ∙ dimension_sized_spells size k)

pub no_dimension : (d : Dimension) (k tokens : List Token) → IsNot s.OpenIndex tokens → tokens ≡ dimension_then d k → ⊥
no_dimension d k tokens none is = let h = dimension_begins d k in none h.0 (is ∙ h.1)

-- after its bracket a dimension that is open
pub open_only : (tokens rest : List Token) → tokens ≡ t.Symbol s.CloseIndex ∷ rest
    → (d : Dimension) (k : List Token) → t.Symbol s.OpenIndex ∷ tokens ≡ dimension_then d k → (dv.Open ≡ d) × (rest ≡ k)
open_only tokens rest is d k e = by d k e (dimension_is d) where
  by : (d : Dimension) (k : List Token) → t.Symbol s.OpenIndex ∷ tokens ≡ dimension_then d k → DimensionIs d → (dv.Open ≡ d) × (rest ≡ k)
  by d k e (dimension_is_open q) =
      let h : t.Symbol s.OpenIndex ∷ tokens ≡ t.Symbol s.OpenIndex ∷ t.Symbol s.CloseIndex ∷ k = e ∙ ap (λ (x : Dimension). dimension_then x k) q ∙ dimension_open_spells k in
      (sym q, cc)
  by d k e (dimension_is_sized size q) =
      let h : t.Symbol s.OpenIndex ∷ tokens ≡ subscript_of size k = e ∙ ap (λ (x : Dimension). dimension_then x k) q ∙ dimension_sized_spells size k in
      let i : tokens ≡ expr_then size (t.Symbol s.CloseIndex ∷ k) = (cc) in
      absurd (no_expr size _ (t.Symbol s.CloseIndex ∷ rest) refl (sym is ∙ i))

pub primitive_back : (p : PrimitiveWord) → primitive_of (t.Word (primitive_word p)) ≡ Some p
primitive_back pr.Bool = refl
primitive_back pr.Byte = refl
primitive_back pr.Int = refl
primitive_back pr.Int16 = refl
primitive_back pr.Int32 = refl
primitive_back pr.Int64 = refl

-- what a channel carries begins with neither ANY nor OF, but where it is ANY
pub base_word : (b : DataBase) (k : List Token) (word : Word) (r : List Token) → primitive_of (t.Word word) ≡ None → data_base_token b ∷ k ≡ t.Word word ∷ r → ⊥
base_word (da.Named n) k word r none e = absurd cc
base_word (da.Primitive p) k word r none e = let h : t.Word (primitive_word p) ≡ t.Word word = (cc) in
    let i : Some p ≡ None = sym (primitive_back p) ∙ ap primitive_of h ∙ none in absurd cc

pub data_word : (ds : List Dimension) (b : DataBase) (k : List Token) (word : Word) (r : List Token) → primitive_of (t.Word word) ≡ None → many dimension_then ds (data_base_token b ∷ k) ≡ t.Word word ∷ r → ⊥
data_word [] b k word r none e = base_word b k word r none e
data_word (d ∷ ds) b k word r none e = let h = dimension_begins d (many dimension_then ds (data_base_token b ∷ k)) in
    let i : t.Symbol s.OpenIndex ∷ h.0 ≡ t.Word word ∷ r = sym h.1 ∙ e in absurd cc

-- no dimension stands after the last
pub base_ends : (b : DataBase) (k : List Token) → IsNot s.OpenIndex (data_base_token b ∷ k)
base_ends (da.Named n) k r e = absurd cc
base_ends (da.Primitive p) k r e = absurd cc

pub channel_found : (words : ChannelWords) (tokens : List Token) (form : DataForm) (rest : List Token) → tokens ≡ data_form_then form rest
    → channel_words words tokens ≡ builtin_then (uv.Channel words form.dimensions form.base) rest
channel_found words tokens form rest e = ap (channel_words words) e ∙ sym (builtin_channel_spells words form.dimensions form.base rest)

pub counted_found : (words : ChannelWords) (tokens : List Token) (form other : DataForm) (following rest : List Token) → tokens ≡ data_form_then form following → following ≡ counted_array (data_form_then other rest)
    → channel_words words tokens ≡ builtin_then (uv.Counted words form.dimensions form.base other.dimensions other.base) rest
counted_found words tokens form other following rest e is =
    ap (channel_words words) (e ∙ ap (data_form_then form) is) ∙ sym (builtin_counted_spells words form.dimensions form.base other.dimensions other.base rest)

-- a data type is read, and this is left
abbrev pub IsFormRead : List Token → DataForm → List Token → Type 0
IsFormRead tokens form rest = (other : DataForm) (k : List Token) → tokens ≡ data_form_then other k → (form ≡ other) × (rest ≡ k)

abbrev form_of : List Dimension → DataBase → DataForm
form_of ds b = record { dimensions = ds; base = b }

pub no_data : (tokens : List Token) → ((form : DataForm) (k : List Token) → tokens ≡ data_form_then form k → ⊥)
    → (ds : List Dimension) (b : DataBase) (k : List Token) → tokens ≡ many dimension_then ds (data_base_token b ∷ k) → ⊥
no_data tokens none ds b k e = none (form_of ds b) k e

pub plain_only : (words : ChannelWords) (tokens rest : List Token) (form : DataForm) → IsFormRead tokens form rest
    → (ds : List Dimension) (b : DataBase) (k : List Token) → tokens ≡ many dimension_then ds (data_base_token b ∷ k) → (uv.Channel words form.dimensions form.base ≡ uv.Channel words ds b) × (rest ≡ k)
plain_only words tokens rest form read ds b k e = let h = read (form_of ds b) k e in (ap (λ (f : DataForm). uv.Channel words f.dimensions f.base) h.0, h.1)

pub counted_no_plain : {Z : Type 0} (following : Following) (tokens rest : List Token) (form : DataForm) → IsFormRead tokens form rest → (EndsCarried following rest → ⊥)
    → (ds : List Dimension) (b : DataBase) (k : List Token) → EndsCarried following k → tokens ≡ many dimension_then ds (data_base_token b ∷ k) → Z
counted_no_plain following tokens rest form read none ds b k ends e = let h = read (form_of ds b) k e in absurd (none (subst (EndsCarried following) (sym h.1) ends))

pub no_counted : (following : Following) (tokens rest : List Token) (form : DataForm) → IsFormRead tokens form rest
    → ((form : DataForm) (k : List Token) → EndsArray following k → rest ≡ counted_array (data_form_then form k) → ⊥)
    → (ds : List Dimension) (b : DataBase) (es : List Dimension) (d : DataBase) (k : List Token) → EndsArray following k → tokens ≡ many dimension_then ds (data_base_token b ∷ counted_array (many dimension_then es (data_base_token d ∷ k))) → ⊥
no_counted following tokens rest form read none ds b es d k ends e = let h = read (form_of ds b) _ e in none (form_of es d) k ends h.1

pub counted_only : (following : Following) (words : ChannelWords) (tokens rest end : List Token) (form other : DataForm) → IsFormRead tokens form rest
    → ((form : DataForm) (k : List Token) → EndsArray following k → rest ≡ counted_array (data_form_then form k) → (other ≡ form) × (end ≡ k))
    → (ds : List Dimension) (b : DataBase) (es : List Dimension) (d : DataBase) (k : List Token) → EndsArray following k → tokens ≡ many dimension_then ds (data_base_token b ∷ counted_array (many dimension_then es (data_base_token d ∷ k)))
    → (uv.Counted words form.dimensions form.base other.dimensions other.base ≡ uv.Counted words ds b es d) × (end ≡ k)
counted_only following words tokens rest end form other read array ds b es d k ends e =
    let h = read (form_of ds b) _ e in
    let m = array (form_of es d) k ends h.1 in
    (ap (λ (f : DataForm). uv.Counted words f.dimensions f.base other.dimensions other.base) h.0 ∙ ap (λ (f : DataForm). uv.Counted words ds b f.dimensions f.base) m.0, m.1)

-- what ends a type ends its parts
none_operand : (b : Begin) → BeginsNone b → is_operand_begin b ≡ false
none_operand b (inl q) = ap is_operand_begin q
none_operand b (inr q) = ap is_operand_begin q

pub run_no_operand : (k : List Token) → IsEndOfRun k → is_operand_begin (begin_of k) ≡ false
run_no_operand k ends = none_operand (begin_of k) (after_begins k (end_after k ends))

ends_array : (following : Following) (b : Builtin) (k : List Token) → EndsBuiltin following b k → EndsArray following k
ends_array bh.More b k ends = tt
ends_array bh.End b k ends = run_no_operand k ends.0

ends_carried : (following : Following) (b : Builtin) (k : List Token) → EndsBuiltin following b k → (words : ChannelWords) (ds : List Dimension) (base : DataBase) → b ≡ uv.Channel words ds base → EndsCarried following k
ends_carried bh.More b k ends words ds base is = ends
ends_carried bh.End b k ends words ds base is = ends.1 words ds base is

ends_builtin : (following : Following) (x : TypeForm) (k : List Token) → EndsType following x k → (ds : List Dimension) (b : Builtin) → x ≡ tv.Builtin ds b → EndsBuiltin following b k
ends_builtin bh.More x k ends ds b is = ends
ends_builtin bh.End x k ends ds b is = (ends.0, λ words es base q. ends.1 ds words es base (is ∙ ap (λ (y : Builtin). tv.Builtin ds y) q))

-- a type of a reserved word begins with a word
channel_word : (words : ChannelWords) (k : List Token) → (word : Word) × (rest : List Token) × (channel_words words k ≡ t.Word word ∷ rest)
channel_word ch.Chan k = (w.Chan, k, refl)
channel_word ch.ChanOf k = (w.Chan, t.Word w.Of ∷ k, refl)

builtin_word : (b : Builtin) (k : List Token) → (word : Word) × (rest : List Token) × (builtin_then b k ≡ t.Word word ∷ rest)
builtin_word b k = by b k (builtin_is b) where
  by : (b : Builtin) (k : List Token) → BuiltinIs b → (word : Word) × (rest : List Token) × (builtin_then b k ≡ t.Word word ∷ rest)
  by b k (builtin_is_primitive p e) = (primitive_word p, k, ap (λ (x : Builtin). builtin_then x k) e ∙ builtin_primitive_spells p k)
  by b k (builtin_is_timer e) = (w.Timer, k, ap (λ (x : Builtin). builtin_then x k) e ∙ builtin_timer_spells k)
  by b k (builtin_is_any_channel words e) = let h = channel_word words (t.Word w.Any ∷ k) in (h.0, h.1, ap (λ (x : Builtin). builtin_then x k) e ∙ builtin_any_channel_spells words k ∙ h.2)
  by b k (builtin_is_channel words ds base e) = let h = channel_word words (many dimension_then ds (data_base_token base ∷ k)) in (h.0, h.1, ap (λ (x : Builtin). builtin_then x k) e ∙ builtin_channel_spells words ds base k ∙ h.2)
  by b k (builtin_is_counted words ds base es other e) = let h = channel_word words (many dimension_then ds (data_base_token base ∷ counted_array (many dimension_then es (data_base_token other ∷ k)))) in (h.0, h.1, ap (λ (x : Builtin). builtin_then x k) e ∙ builtin_counted_spells words ds base es other k ∙ h.2)

pub builtin_ends : (b : Builtin) (k : List Token) → IsNot s.OpenIndex (builtin_then b k)
builtin_ends b k rest e = let h = builtin_word b k in let i : t.Word h.0 ∷ h.1 ≡ t.Symbol s.OpenIndex ∷ rest = sym h.2 ∙ e in absurd cc

pub builtin_no_name : (b : Builtin) (k : List Token) (n : List ℕ) (rest : List Token) → builtin_then b k ≡ t.Name n ∷ rest → ⊥
builtin_no_name b k n rest e = let h = builtin_word b k in let i : t.Word h.0 ∷ h.1 ≡ t.Name n ∷ rest = sym h.2 ∙ e in absurd cc

-- what is read of a type that begins with CHAN
abbrev pub AnswersBuiltin : Following → List Token → Option (Builtin × Bor (List Token)) → Type 0
AnswersBuiltin following tokens r = (b : Builtin) (k : List Token) → EndsBuiltin following b k → tokens ≡ builtin_then b k → Reads r b k

pub channel_only : (following : Following) (tokens after rest : List Token) (words : ChannelWords) (result : Result (Option (Builtin × Bor (List Token))) AllocError)
    → tokens ≡ t.Word w.Chan ∷ after
    → ((ws : ChannelWords) (k : List Token) → IsNotWord w.Of k → t.Word w.Chan ∷ after ≡ channel_words ws k → (words ≡ ws) × (rest ≡ k))
    → IfOk result (λ r. (k : List Token) → rest ≡ t.Word w.Any ∷ k → Reads r (uv.AnyChannel words) k)
    → IfOk result (λ r. (ds : List Dimension) (b : DataBase) (k : List Token) → EndsCarried following k → rest ≡ many dimension_then ds (data_base_token b ∷ k) → Reads r (uv.Channel words ds b) k)
    → IfOk result (λ r. (ds : List Dimension) (b : DataBase) (es : List Dimension) (d : DataBase) (k : List Token) → EndsArray following k → rest ≡ many dimension_then ds (data_base_token b ∷ counted_array (many dimension_then es (data_base_token d ∷ k))) → Reads r (uv.Counted words ds b es d) k)
    → IfOk result (AnswersBuiltin following tokens)
channel_only following tokens after rest words (Err e) is one any simple counted = tt
channel_only following tokens after rest words (Ok r) is one any simple counted = λ b k ends e. by b k ends e (builtin_is b) where
  by : (b : Builtin) (k : List Token) → EndsBuiltin following b k → tokens ≡ builtin_then b k → BuiltinIs b → Reads r b k
  by b k ends e (builtin_is_primitive p q) =
      let h : t.Word w.Chan ∷ after ≡ t.Word (primitive_word p) ∷ k = sym is ∙ e ∙ ap (λ (x : Builtin). builtin_then x k) q ∙ builtin_primitive_spells p k in
      absurd (base_word (da.Primitive p) k w.Chan after refl (sym h))
  by b k ends e (builtin_is_timer q) =
      let h : t.Word w.Chan ∷ after ≡ t.Word w.Timer ∷ k = sym is ∙ e ∙ ap (λ (x : Builtin). builtin_then x k) q ∙ builtin_timer_spells k in absurd cc
  by b k ends e (builtin_is_any_channel ws q) =
      let h = one ws (t.Word w.Any ∷ k) (λ j i. absurd cc) (sym is ∙ e ∙ ap (λ (x : Builtin). builtin_then x k) q ∙ builtin_any_channel_spells ws k) in
      subst (λ (x : Builtin). Reads r x k) (ap (λ (x : ChannelWords). uv.AnyChannel x) h.0 ∙ sym q) (any k h.1)
  by b k ends e (builtin_is_channel ws ds base q) =
      let h = one ws (many dimension_then ds (data_base_token base ∷ k)) (λ j i. data_word ds base k w.Of j refl i) (sym is ∙ e ∙ ap (λ (x : Builtin). builtin_then x k) q ∙ builtin_channel_spells ws ds base k) in
      subst (λ (x : Builtin). Reads r x k) (ap (λ (x : ChannelWords). uv.Channel x ds base) h.0 ∙ sym q) (simple ds base k (ends_carried following b k ends ws ds base q) h.1)
  by b k ends e (builtin_is_counted ws ds base es other q) =
      let h = one ws (many dimension_then ds (data_base_token base ∷ counted_array (many dimension_then es (data_base_token other ∷ k)))) (λ j i. data_word ds base (counted_array (many dimension_then es (data_base_token other ∷ k))) w.Of j refl i) (sym is ∙ e ∙ ap (λ (x : Builtin). builtin_then x k) q ∙ builtin_counted_spells ws ds base es other k) in
      subst (λ (x : Builtin). Reads r x k) (ap (λ (x : ChannelWords). uv.Counted x ds base es other) h.0 ∙ sym q) (counted ds base es other k (ends_array following b k ends) h.1)

pub named_found : (ds : List Dimension) (n : List ℕ) (tokens rest : List Token) → tokens ≡ t.Name n ∷ rest → many dimension_then ds tokens ≡ type_form_then (tv.Named ds n) rest
named_found ds n tokens rest e = ap (many dimension_then ds) e ∙ sym (type_form_named_spells ds n rest)

pub builtin_found : (ds same : List Dimension) (b equal : Builtin) (tokens rest : List Token) → same ≡ ds → equal ≡ b → tokens ≡ builtin_then b rest → many dimension_then ds tokens ≡ type_form_then (tv.Builtin same equal) rest
builtin_found ds same b equal tokens rest q p e = ap (many dimension_then ds) e ∙ sym (type_form_builtin_spells ds b rest) ∙ ap (λ (x : List Dimension). type_form_then (tv.Builtin x b) rest) (sym q) ∙ ap (λ (x : Builtin). type_form_then (tv.Builtin same x) rest) (sym p)

-- what is read of a type
abbrev pub AnswersType : Following → List Token → Option (TypeForm × Bor (List Token)) → Type 0
AnswersType following tokens r = (x : TypeForm) (k : List Token) → EndsType following x k → tokens ≡ type_form_then x k → Reads r x k

pub name_ends : (n : List ℕ) (k : List Token) → IsNot s.OpenIndex (t.Name n ∷ k)
name_ends n k rest e = absurd cc

pub no_type : (following : Following) (tokens : List Token) → ((ds : List Dimension) (k : List Token) → IsNot s.OpenIndex k → tokens ≡ many dimension_then ds k → ⊥)
    → (x : TypeForm) (k : List Token) → EndsType following x k → tokens ≡ type_form_then x k → ⊥
no_type following tokens none x k ends e = by x k e (type_form_is x) where
  by : (x : TypeForm) (k : List Token) → tokens ≡ type_form_then x k → TypeFormIs x → ⊥
  by x k e (type_form_is_named ds n q) = none ds (t.Name n ∷ k) (name_ends n k) (e ∙ ap (λ (y : TypeForm). type_form_then y k) q ∙ type_form_named_spells ds n k)
  by x k e (type_form_is_builtin ds b q) = none ds (builtin_then b k) (builtin_ends b k) (e ∙ ap (λ (y : TypeForm). type_form_then y k) q ∙ type_form_builtin_spells ds b k)

pub type_only : (following : Following) (tokens : List Token) (dims : List Dimension) (rest : List Token) (result : Result (Option (TypeForm × Bor (List Token))) AllocError)
    → ((ds : List Dimension) (k : List Token) → IsNot s.OpenIndex k → tokens ≡ many dimension_then ds k → (dims ≡ ds) × (rest ≡ k))
    → IfOk result (λ r. (n : List ℕ) (k : List Token) → rest ≡ t.Name n ∷ k → Reads r (tv.Named dims n) k)
    → IfOk result (λ r. (b : Builtin) (k : List Token) → EndsBuiltin following b k → rest ≡ builtin_then b k → Reads r (tv.Builtin dims b) k)
    → IfOk result (AnswersType following tokens)
type_only following tokens dims rest (Err e) one named builtin = tt
type_only following tokens dims rest (Ok r) one named builtin = λ x k ends e. by x k ends e (type_form_is x) where
  by : (x : TypeForm) (k : List Token) → EndsType following x k → tokens ≡ type_form_then x k → TypeFormIs x → Reads r x k
  by x k ends e (type_form_is_named ds n q) =
      let h = one ds (t.Name n ∷ k) (name_ends n k) (e ∙ ap (λ (y : TypeForm). type_form_then y k) q ∙ type_form_named_spells ds n k) in
      subst (λ (y : TypeForm). Reads r y k) (ap (λ (y : List Dimension). tv.Named y n) h.0 ∙ sym q) (named n k h.1)
  by x k ends e (type_form_is_builtin ds b q) =
      let h = one ds (builtin_then b k) (builtin_ends b k) (e ∙ ap (λ (y : TypeForm). type_form_then y k) q ∙ type_form_builtin_spells ds b k) in
      subst (λ (y : TypeForm). Reads r y k) (ap (λ (y : List Dimension). tv.Builtin y b) h.0 ∙ sym q) (builtin b k (ends_builtin following x k ends ds b q) h.1)
