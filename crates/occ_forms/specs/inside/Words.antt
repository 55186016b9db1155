-- A word with the form of a line of that word alone.
use Rattle.std.specs.Prelude.{[], ◌∷◌}
use Rattle.occ_lines.specs.declared.token.Token.TheVariants as token
use Rattle.occ_forms.specs.Depth.{HasForm}
use Rattle.occ_forms.specs.declared.words.WordForm.TheInside.{Inside}

abbrev pub IsOfWord : Inside → Type 0
IsOfWord a = HasForm (token.Word a.word ∷ []) a.form
