-- What follows the items of each kind of list, and readings after a first token.
use Rattle.std.proofs.Common.{◌≡◌, ◌≤◌, ◌<◌, List, [], ◌∷◌, ◌++◌, length, ap, refl, sym, ◌∙◌, arith}
use Rattle.occ_lines.specs.declared.token.Token.{Token}
use Rattle.occ_forms_expressions.specs.Reading.{IsEnd, IsEndOfItems}
use Rattle.occ_forms_expressions.specs.Spelling.{Spelling, next_item_of}
use Rattle.occ_forms_expressions.proofs.Many.{Within}

-- anything may follow
abbrev pub Anything : List Token → Type 0
Anything k = Unit {0}

pub anything_within : {X : Type 0} (spells : X → Spelling) (Ends : List Token → Type 0) → Within spells Anything Ends
anything_within spells Ends xs k ends = tt

-- an item ends at the next comma or where the list ends
pub item_within : Within next_item_of IsEnd IsEndOfItems
item_within [] k ends = ends.ends
item_within (e ∷ es) k ends = refl

-- a list that begins with one item, and then gets more
pub first_and_more : {X : Type 0} (none one all more : List X) (first : X) → none ≡ [] → one ≡ none ++ first ∷ [] → all ≡ one ++ more → all ≡ first ∷ more
first_and_more none one all more first empty pushed appended = appended ∙ ap (λ xs. xs ++ more) (pushed ∙ ap (λ xs. xs ++ first ∷ []) empty)

-- what is read after a token
pub following : (token : Token) (rest begun read : List Token) → rest ≡ token ∷ begun → begun ≡ read → rest ≡ token ∷ read
following token rest begun read a b = cc

pub after_same : (token : Token) (rest begun read : List Token) → rest ≡ token ∷ begun → rest ≡ token ∷ read → begun ≡ read
after_same token rest begun read a b = let h : token ∷ begun ≡ token ∷ read = sym a ∙ b in (cc)

pub shorter_after : (token : Token) (rest begun next : List Token) → rest ≡ token ∷ begun → length next < length begun → length next ≤ length rest
shorter_after token rest begun next is less = rw is (omega (arith, less))
