-- What follows a list whose items stand after a separator.
use Rattle.std.proofs.Common.{List, [], ◌∷◌}
use Rattle.occ_lines.specs.declared.token.Symbol.{Symbol}
use Rattle.occ_lines.specs.declared.token.Token.{Token}
use Rattle.occ_lines.specs.declared.token.Token.TheVariants as t
use Rattle.occ_forms_expressions.specs.Reading.{IsNot}
use Rattle.occ_forms_expressions.specs.Spelling.{Spelling, many}
use Rattle.occ_forms_expressions.proofs.Many.{Within}
use Rattle.occ_forms.specs.SpecificationSpelling.{next}

-- an item may end here, and no separator stands here
pub record ListEnds (separator : Symbol) (Ends : List Token → Type 0) (k : List Token) : Type 0 where
  pub ends : Ends k
  pub no_more : IsNot separator k

pub list_within : {X : Type 0} (separator : Symbol) (spells : X → Spelling) (Ends : List Token → Type 0)
    → ((x : X) (k : List Token) → Ends (t.Symbol separator ∷ spells x k)) → Within (next separator spells) Ends (ListEnds separator Ends)
list_within separator spells Ends apart [] k ends = ends.ends
list_within separator spells Ends apart (x ∷ xs) k ends = apart x _

-- what follows an item of a list that ends here
pub item_ends : {X : Type 0} (separator : Symbol) (spells : X → Spelling) (Ends : List Token → Type 0)
    → ((x : X) (k : List Token) → Ends (t.Symbol separator ∷ spells x k))
    → (xs : List X) (k : List Token) → Ends k → IsNot separator k → Ends (many (next separator spells) xs k)
item_ends separator spells Ends apart xs k ends none = list_within separator spells Ends apart xs k (record { ends = ends; no_more = none })
