-- What a reader has to answer, what may follow names, and how a line begins.
use Rattle.std.specs.Prelude.{◌≡◌, Bool, true, false, List, ◌∷◌, Option, Some, None}
use denote.Bor.{Bor}
use Rattle.occ_lines.specs.declared.token.Token.{Token}
use Rattle.occ_lines.specs.declared.token.Token.TheVariants as t
use Rattle.occ_lines.specs.declared.token.Symbol.TheVariants as s
use Rattle.occ_lines.specs.declared.token.Word.{Word}
use Rattle.occ_lines.specs.declared.token.Word.TheVariants as w
use Rattle.occ_forms.specs.declared.start.Start.{Start}
use Rattle.occ_forms.specs.declared.start.Start.TheVariants as st
use Rattle.occ_forms.specs.declared.binding.Binding.{Binding}
use Rattle.occ_forms.specs.declared.binding.Binding.TheVariants as bi
use Rattle.occ_forms.specs.SpecificationSpelling.{recast_word}

-- it found a list of x and more, and what follows is k
abbrev pub ReadsList : {X : Type 0} → Option (X × List X × Bor (List Token)) → X → List X → List Token → Type 0
ReadsList (Some found) x more k = (found.0 ≡ x) × (found.1 ≡ more) × (found.2.now ≡ k)
ReadsList None x more k = ⊥

abbrev pub begins_name : List Token → Bool
begins_name (t.Name n ∷ k) = true
begins_name other = false

-- what follows names: neither a name nor `, n`, unless another name follows, for which `n` is the type
abbrev pub ends_names : List Token → Bool
ends_names (t.Name n ∷ k) = false
ends_names (t.Symbol s.Comma ∷ t.Name n ∷ k) = begins_name k
ends_names other = true

abbrev pub IsEndOfNames : List Token → Type 0
IsEndOfNames k = ends_names k ≡ true

-- the word between a name and what it is specified as
abbrev pub binding_word : Binding → Word
binding_word bi.Is = w.Is
binding_word (bi.Recast recast) = recast_word recast

abbrev pub start_word : Word → Start
start_word w.Inline = st.Procedure
start_word w.Proc = st.Procedure
start_word w.Protocol = st.Protocol
start_word w.Data = st.DataType
start_word w.Val = st.Value
start_word other = st.Other

-- with what a line of these tokens starts
abbrev pub start_of : List Token → Start
start_of (t.Word word ∷ k) = start_word word
start_of other = st.Other
