-- With what a type begins.
use Rattle.std.proofs.Common.{◌≡◌, ◌∙◌, Bool, true, false, ℕ, List, [], ◌∷◌, refl, sym, ap}
use Rattle.occ_lines.specs.declared.token.Symbol.TheVariants as s
use Rattle.occ_lines.specs.declared.token.Token.{Token}
use Rattle.occ_lines.specs.declared.token.Token.TheVariants as t
use Rattle.occ_lines.specs.declared.token.Word.{Word}
use Rattle.occ_lines.specs.declared.token.Word.TheVariants as w
use Rattle.occ_forms_expressions.specs.declared.tree.Builtin.{Builtin}
use Rattle.occ_forms_expressions.specs.declared.tree.ChannelWords.{ChannelWords}
use Rattle.occ_forms_expressions.specs.declared.tree.ChannelWords.TheVariants as ch
use Rattle.occ_forms_expressions.specs.declared.tree.Dimension.{Dimension}
use Rattle.occ_forms_expressions.specs.declared.tree.PrimitiveWord.{PrimitiveWord}
use Rattle.occ_forms_expressions.specs.declared.tree.PrimitiveWord.TheVariants as pr
use Rattle.occ_forms_expressions.specs.declared.tree.TypeForm.{TypeForm}
use Rattle.occ_forms_expressions.specs.declared.tree.TypeForm.TheVariants as tv
use Rattle.occ_forms_expressions.specs.Spelling.{builtin_then, channel_words, dimension_then, many, primitive_word, type_form_then}
use Rattle.occ_forms_expressions.proofs.Cases.{BuiltinIs, builtin_is, builtin_is_primitive, builtin_is_timer, builtin_is_any_channel, builtin_is_channel, builtin_is_counted, builtin_primitive_spells, builtin_timer_spells, builtin_any_channel_spells, builtin_channel_spells, builtin_counted_spells, TypeFormIs, type_form_is, type_form_is_named, type_form_is_builtin, type_form_named_spells, type_form_builtin_spells}
use Rattle.occ_forms_expressions.proofs.Dimensions.{dimension_begins}
use Rattle.occ_forms.specs.SpecificationReading.{ends_names, start_of, start_word}
use Rattle.occ_forms.specs.declared.start.Start.TheVariants as st
use Rattle.occ_forms.specs.SpecificationSpelling.{names_then}

-- the words with which a type begins
abbrev pub is_type_word : Word → Bool
is_type_word w.Bool = true
is_type_word w.Byte = true
is_type_word w.Int = true
is_type_word w.Int16 = true
is_type_word w.Int32 = true
is_type_word w.Int64 = true
is_type_word w.Timer = true
is_type_word w.Chan = true
is_type_word other = false

abbrev pub begins_type : List Token → Bool
begins_type (t.Name n ∷ k) = true
begins_type (t.Symbol s.OpenIndex ∷ k) = true
begins_type (t.Word word ∷ k) = is_type_word word
begins_type other = false

-- a type is a name alone, or begins with a bracket or with a word
pub data TypeBegins (form : TypeForm) (k tokens : List Token) : Type 0 where
  is_name : (n' : List ℕ) → form ≡ tv.Named [] n' → tokens ≡ t.Name n' ∷ k → TypeBegins form k tokens
  is_bracket : (rest' : List Token) → tokens ≡ t.Symbol s.OpenIndex ∷ rest' → TypeBegins form k tokens
  is_word : (word' : Word) (rest' : List Token) → is_type_word word' ≡ true → start_word word' ≡ st.Other → tokens ≡ t.Word word' ∷ rest' → TypeBegins form k tokens

primitive_is_type : (p : PrimitiveWord) → is_type_word (primitive_word p) ≡ true
primitive_is_type pr.Bool = refl
primitive_is_type pr.Byte = refl
primitive_is_type pr.Int = refl
primitive_is_type pr.Int16 = refl
primitive_is_type pr.Int32 = refl
primitive_is_type pr.Int64 = refl

primitive_starts : (p : PrimitiveWord) → start_word (primitive_word p) ≡ st.Other
primitive_starts pr.Bool = refl
primitive_starts pr.Byte = refl
primitive_starts pr.Int = refl
primitive_starts pr.Int16 = refl
primitive_starts pr.Int32 = refl
primitive_starts pr.Int64 = refl

-- a word of a type
abbrev AtWord : List Token → Type 0
AtWord tokens = (word : Word) × (rest : List Token) × (is_type_word word ≡ true) × (start_word word ≡ st.Other) × (tokens ≡ t.Word word ∷ rest)

at_channel : (words : ChannelWords) (k tokens : List Token) → tokens ≡ channel_words words k → AtWord tokens
at_channel ch.Chan k tokens e = (w.Chan, k, refl, refl, e)
at_channel ch.ChanOf k tokens e = (w.Chan, t.Word w.Of ∷ k, refl, refl, e)

at_builtin : (b : Builtin) (k : List Token) → AtWord (builtin_then b k)
at_builtin b k = by b k (builtin_is b) where
  by : (b : Builtin) (k : List Token) → BuiltinIs b → AtWord (builtin_then b k)
  by b k (builtin_is_primitive p e) = (primitive_word p, k, primitive_is_type p, primitive_starts p, ap (λ (x : Builtin). builtin_then x k) e ∙ builtin_primitive_spells p k)
  by b k (builtin_is_timer e) = (w.Timer, k, refl, refl, ap (λ (x : Builtin). builtin_then x k) e ∙ builtin_timer_spells k)
  by b k (builtin_is_any_channel words e) = at_channel words _ _ (ap (λ (x : Builtin). builtin_then x k) e ∙ builtin_any_channel_spells words k)
  by b k (builtin_is_channel words ds base e) = at_channel words _ _ (ap (λ (x : Builtin). builtin_then x k) e ∙ builtin_channel_spells words ds base k)
  by b k (builtin_is_counted words ds base es other e) = at_channel words _ _ (ap (λ (x : Builtin). builtin_then x k) e ∙ builtin_counted_spells words ds base es other k)

pub type_begins : (form : TypeForm) (k tokens : List Token) → tokens ≡ type_form_then form k → TypeBegins form k tokens
type_begins form k tokens is = by form k is (type_form_is form) where
  named : (ds : List Dimension) (n : List ℕ) → form ≡ tv.Named ds n → tokens ≡ many dimension_then ds (t.Name n ∷ k) → TypeBegins form k tokens
  named [] n e q = is_name n e q
  named (d ∷ ds) n e q = let h = dimension_begins d (many dimension_then ds (t.Name n ∷ k)) in is_bracket h.0 (q ∙ h.1)

  builtin : (ds : List Dimension) (b : Builtin) → tokens ≡ many dimension_then ds (builtin_then b k) → TypeBegins form k tokens
  builtin [] b q = let h = at_builtin b k in is_word h.0 h.1 h.2 h.3 (q ∙ h.4)
  builtin (d ∷ ds) b q = let h = dimension_begins d (many dimension_then ds (builtin_then b k)) in is_bracket h.0 (q ∙ h.1)

  by : (form' : TypeForm) (k' : List Token) → tokens ≡ type_form_then form k → TypeFormIs form → TypeBegins form k tokens
  by form' k' is' (type_form_is_named ds n e) = named ds n e (is' ∙ ap (λ (x : TypeForm). type_form_then x k) e ∙ type_form_named_spells ds n k)
  by form' k' is' (type_form_is_builtin ds b e) = builtin ds b (is' ∙ ap (λ (x : TypeForm). type_form_then x k) e ∙ type_form_builtin_spells ds b k)

begins_by : (form : TypeForm) (k tokens : List Token) → TypeBegins form k tokens → begins_type tokens ≡ true
begins_by form k tokens (is_name n e q) = ap begins_type q
begins_by form k tokens (is_bracket rest q) = ap begins_type q
begins_by form k tokens (is_word word rest h o q) = ap begins_type q ∙ h

-- no type stands where nothing begins a type
pub no_type : (form : TypeForm) (k tokens : List Token) → begins_type tokens ≡ false → tokens ≡ type_form_then form k → ⊥
no_type form k tokens none is = let h : true ≡ false = sym (begins_by form k tokens (type_begins form k tokens is)) ∙ none in absurd cc

-- a type that begins with a name is that name
pub name_type : (form : TypeForm) (k : List Token) (n : List ℕ) (rest : List Token) → t.Name n ∷ rest ≡ type_form_then form k → (tv.Named [] n ≡ form) × (rest ≡ k)
name_type form k n rest is = by (type_begins form k (t.Name n ∷ rest) is) where
  by : TypeBegins form k (t.Name n ∷ rest) → (tv.Named [] n ≡ form) × (rest ≡ k)
  by (is_name m e q) = let h : m ≡ n = (cc) in (ap (λ (x : List ℕ). tv.Named [] x) (sym h) ∙ sym e, cc)
  by (is_bracket other q) = absurd cc
  by (is_word word other h o q) = absurd cc

-- the names before end where a comma, a type and a name follow
pub names_end : (form : TypeForm) (n : List ℕ) (ns : List (List ℕ)) (k : List Token) → ends_names (t.Symbol s.Comma ∷ type_form_then form (names_then n ns k)) ≡ true
names_end form n ns k = by _ (type_begins form (names_then n ns k) _ refl) where
  by : (tokens : List Token) → TypeBegins form (names_then n ns k) tokens → ends_names (t.Symbol s.Comma ∷ tokens) ≡ true
  by tokens (is_name m e q) = ap (λ (x : List Token). ends_names (t.Symbol s.Comma ∷ x)) q
  by tokens (is_bracket rest q) = ap (λ (x : List Token). ends_names (t.Symbol s.Comma ∷ x)) q
  by tokens (is_word word rest h o q) = ap (λ (x : List Token). ends_names (t.Symbol s.Comma ∷ x)) q

-- a name and IS begin no type with a name after it
pub named_is_untyped : (tokens : List Token) (m : List ℕ) (rest : List Token) → tokens ≡ t.Name m ∷ t.Word w.Is ∷ rest
    → (form : TypeForm) (n : List ℕ) (k : List Token) → tokens ≡ type_form_then form (t.Name n ∷ k) → ⊥
named_is_untyped tokens m rest is form n k e = let h = (name_type form (t.Name n ∷ k) m (t.Word w.Is ∷ rest) (sym is ∙ e)).1 in absurd cc

starts_by : (form : TypeForm) (k tokens : List Token) → TypeBegins form k tokens → start_of tokens ≡ st.Other
starts_by form k tokens (is_name n e q) = ap start_of q
starts_by form k tokens (is_bracket rest q) = ap start_of q
starts_by form k tokens (is_word word rest h o q) = ap start_of q ∙ o

-- no other line starts with a type
pub type_starts : (form : TypeForm) (k : List Token) → start_of (type_form_then form k) ≡ st.Other
type_starts form k = starts_by form k _ (type_begins form k _ refl)
