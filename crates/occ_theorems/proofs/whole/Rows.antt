-- Where lines stand by the table of what may stand under which line, and what their parents say of them.
use Rattle.std.proofs.Common.{◌≡◌, ◌∙◌, ◌||◌, ◌&&◌, Bool, true, false, List, [], ◌∷◌, length, Option, None, if◌then◌else◌, refl, ap, sym, subst, arith}
use Rattle.occ_protocol.specs.Carrying.{carrier}
use Rattle.occ_tree.specs.Obeys.{AreItems, AreOpenings, Fits, Headed, Item, OneLine, Opening, items_sorts, openings_sorts}
use Rattle.occ_tree.specs.Sorts.{parts_sort}
use Rattle.occ_tree.specs.Table.{is_close, is_head, is_main, is_process, is_result, is_valof, is_variant, lets_line, may_stand, own_row, row_or, row_under, takes_specifications, under_main}
use Rattle.occ_tree.specs.declared.row.Row.{Row}
use Rattle.occ_tree.specs.declared.row.Row.TheVariants as row
use Rattle.occ_tree.specs.declared.sort.Sort.{Sort}
use Rattle.occ_tree.specs.declared.sort.Sort.TheVariants as sort
use Rattle.occ_typing_lines.specs.declared.parent.Role.{Role}
use Rattle.occ_typing_lines.specs.declared.parent.Role.TheVariants as role
use Rattle.occ_theorems.proofs.whole.Exchanges.{IsVariants}
use Rattle.occ_theorems.proofs.whole.Heads.{IsTypes}
use Rattle.occ_theorems.proofs.whole.Reading.{IsKnown}

-- ---- lines under one parent

abbrev pub AllStand : Row → List Sort → Type 0
AllStand r [] = Unit {0}
AllStand r (s ∷ ss) = (may_stand r s ≡ true) × AllStand r ss

-- after a VALOF there is none
abbrev pub LastValOf : List Sort → Type 0
LastValOf [] = Unit {0}
LastValOf (s ∷ ss) = (is_valof s ≡ true → ss ≡ []) × LastValOf ss

pub record StandIn (r : Row) (ss : List Sort) : Type 0 where
  pub all : AllStand r ss
  pub last : LastValOf ss

or_first : (a b : Bool) → a ≡ true → (a || b) ≡ true
or_first true b e = refl
or_first false b e = absurd cc

or_second : (a b : Bool) → b ≡ true → (a || b) ≡ true
or_second true b e = refl
or_second false b e = e

both : (a b : Bool) → a ≡ true → b ≡ true → (a && b) ≡ true
both true b e f = f
both false b e f = absurd cc

main_stands : (r : Row) (s : Sort) → is_main r s ≡ true → may_stand r s ≡ true
main_stands r s e = or_first (is_main r s) (lets_line r s || (takes_specifications r && (is_head s || is_close s))) e

line_stands : (r : Row) (s : Sort) → lets_line r s ≡ true → may_stand r s ≡ true
line_stands r s e = or_second (is_main r s) (lets_line r s || (takes_specifications r && (is_head s || is_close s))) (or_first (lets_line r s) (takes_specifications r && (is_head s || is_close s)) e)

end_stands : (r : Row) (s : Sort) → takes_specifications r ≡ true → (is_head s || is_close s) ≡ true → may_stand r s ≡ true
end_stands r s e f = or_second (is_main r s) (lets_line r s || (takes_specifications r && (is_head s || is_close s))) (or_second (lets_line r s) (takes_specifications r && (is_head s || is_close s)) (both (takes_specifications r) (is_head s || is_close s) e f))

openings_stand : (r : Row) (os : List Opening) (ss : List Sort) → AreOpenings r os → AllStand r ss → AllStand r (openings_sorts os ss)
openings_stand r [] ss h g = g
openings_stand r (OneLine s ∷ os) ss h g = (line_stands r s h.0, openings_stand r os ss h.1 g)
openings_stand r (Headed s ∷ os) ss h g =
    (end_stands r s h.0.0 (or_first (is_head s) (is_close s) h.0.1), (end_stands r sort.Close h.0.0 refl, openings_stand r os ss h.1 g))

items_stand : (r : Row) (xs : List Item) (ss : List Sort) → AreItems r xs → AllStand r ss → AllStand r (items_sorts xs ss)
items_stand r [] ss h g = g
items_stand r (x ∷ xs) ss h g = openings_stand r x.openings (x.main ∷ items_sorts xs ss) h.0 (main_stands r x.main h.1, items_stand r xs ss h.2 g)

all_stand : (r : Row) (ss : List Sort) → Fits r ss → AllStand r ss
all_stand r ss f = subst (AllStand r) (sym f.spelled) (items_stand r f.items (openings_sorts f.last []) f.are_items (openings_stand r f.last [] f.are_openings tt))

-- ---- VALOF

valof_is : (s : Sort) → is_valof s ≡ true → s ≡ sort.ValueOf
valof_is sort.ValueOf e = refl
valof_is _ e = absurd cc

no_line : (s : Sort) → lets_line row.ValueOf s ≡ true → is_valof s ≡ true → ⊥
no_line s e f = let g : false ≡ true = sym (ap (lets_line row.ValueOf) (valof_is s f)) ∙ e in absurd cc

no_head : (s : Sort) → is_head s ≡ true → is_valof s ≡ true → ⊥
no_head s e f = let g : false ≡ true = sym (ap is_head (valof_is s f)) ∙ e in absurd cc

openings_last : (os : List Opening) (ss : List Sort) → AreOpenings row.ValueOf os → LastValOf ss → LastValOf (openings_sorts os ss)
openings_last [] ss h g = g
openings_last (OneLine s ∷ os) ss h g = ((λ e. absurd (no_line s h.0 e)), openings_last os ss h.1 g)
openings_last (Headed s ∷ os) ss h g = ((λ e. absurd (no_head s h.0.1 e)), ((λ e. absurd cc), openings_last os ss h.1 g))

one_last : (xs : List Item) (last : List Opening) → AreItems row.ValueOf xs → length xs ≡ 1 → last ≡ [] → LastValOf (items_sorts xs (openings_sorts last []))
one_last [] last h e f = absurd (omega (arith, e))
one_last (x ∷ []) [] h e f = openings_last x.openings (x.main ∷ []) h.0 ((λ g. refl), tt)
one_last (x ∷ []) (y ∷ ys) h e f = absurd cc
one_last (x ∷ y ∷ xs) last h e f = absurd (omega (arith, e))

valof_fits : (ss : List Sort) → Fits row.ValueOf ss → LastValOf ss
valof_fits ss f = subst LastValOf (sym f.spelled) (one_last f.items f.last f.are_items (f.one refl) (f.alone refl))

valof_row : (r : Row) → may_stand r sort.ValueOf ≡ true → r ≡ row.ValueOf
valof_row row.ValueOf e = refl
valof_row _ e = absurd cc

last_of : (r : Row) (ss : List Sort) → (may_stand r sort.ValueOf ≡ true → ⊥) → AllStand r ss → LastValOf ss
last_of r [] none h = tt
last_of r (s ∷ ss) none h = ((λ e. absurd (none (sym (ap (may_stand r) (valof_is s e)) ∙ h.0))), last_of r ss none h.1)

fits_last : (r : Row) (ss : List Sort) → Fits r ss → LastValOf ss
fits_last row.ValueOf ss f = valof_fits ss f
fits_last r ss f = last_of r ss (λ e. absurd cc) (all_stand r ss f)

pub fits_stand : (r : Row) (ss : List Sort) → Fits r ss → StandIn r ss
fits_stand r ss f = record { all = all_stand r ss f; last = fits_last r ss f }

-- ---- what a parent says of the lines in a row

abbrev pub IsProcessRow : Row → Type 0
IsProcessRow row.File = Unit {0}
IsProcessRow row.Processes = Unit {0}
IsProcessRow row.Process = Unit {0}
IsProcessRow row.Nothing = Unit {0}
IsProcessRow _ = ⊥

abbrev pub IsConditionRow : Row → Type 0
IsConditionRow row.Conditions = Unit {0}
IsConditionRow row.Condition = Unit {0}
IsConditionRow row.Nothing = Unit {0}
IsConditionRow _ = ⊥

abbrev pub IsGuardRow : Row → Type 0
IsGuardRow row.Guards = Unit {0}
IsGuardRow row.Guard = Unit {0}
IsGuardRow row.Nothing = Unit {0}
IsGuardRow _ = ⊥

abbrev pub IsOptionRow : Row → Type 0
IsOptionRow row.Options = Unit {0}
IsOptionRow row.Nothing = Unit {0}
IsOptionRow _ = ⊥

abbrev pub IsVariantRow : Row → Type 0
IsVariantRow row.Variants = Unit {0}
IsVariantRow row.Nothing = Unit {0}
IsVariantRow _ = ⊥

abbrev pub IsFunctionRow : Row → Type 0
IsFunctionRow row.ValueOf = Unit {0}
IsFunctionRow row.Value = Unit {0}
IsFunctionRow row.Nothing = Unit {0}
IsFunctionRow _ = ⊥

-- lines of this row are of this role, and what the role knows of their parent is known
abbrev pub Suits : Row → Role → Type 0
Suits r role.Process = IsProcessRow r
Suits r role.Conditional = IsConditionRow r
Suits r role.Alternation = IsGuardRow r
Suits r (role.Selection c) = IsOptionRow r × IsKnown c.selector
Suits r (role.Variants x) = IsVariantRow r × IsVariants (carrier x.channel)
Suits r (role.Function wanted) = IsFunctionRow r × IsTypes wanted
Suits r role.Members = Unit {0}

abbrev pub NoMembers : Role → Type 0
NoMembers role.Members = ⊥
NoMembers _ = Unit {0}

-- what stands under a line whose words say nothing of it, are processes or nothing
abbrev IsPlainRow : Row → Type 0
IsPlainRow row.Case = ⊥
IsPlainRow row.Tags = ⊥
IsPlainRow row.Record = ⊥
IsPlainRow row.Fields = ⊥
IsPlainRow _ = Unit {0}

process_plain : (r : Row) → IsProcessRow r → IsPlainRow r
process_plain row.File h = tt
process_plain row.Processes h = tt
process_plain row.Process h = tt
process_plain row.Nothing h = tt
process_plain _ h = absurd h

condition_plain : (r : Row) → IsConditionRow r → IsPlainRow r
condition_plain row.Conditions h = tt
condition_plain row.Condition h = tt
condition_plain row.Nothing h = tt
condition_plain _ h = absurd h

guard_plain : (r : Row) → IsGuardRow r → IsPlainRow r
guard_plain row.Guards h = tt
guard_plain row.Guard h = tt
guard_plain row.Nothing h = tt
guard_plain _ h = absurd h

option_plain : (r : Row) → IsOptionRow r → IsPlainRow r
option_plain row.Options h = tt
option_plain row.Nothing h = tt
option_plain _ h = absurd h

variant_plain : (r : Row) → IsVariantRow r → IsPlainRow r
variant_plain row.Variants h = tt
variant_plain row.Nothing h = tt
variant_plain _ h = absurd h

function_plain : (r : Row) → IsFunctionRow r → IsPlainRow r
function_plain row.ValueOf h = tt
function_plain row.Value h = tt
function_plain row.Nothing h = tt
function_plain _ h = absurd h

row_plain : (r : Row) (x : Role) → NoMembers x → Suits r x → IsPlainRow r
row_plain r role.Process h g = process_plain r g
row_plain r role.Conditional h g = condition_plain r g
row_plain r role.Alternation h g = guard_plain r g
row_plain r (role.Selection c) h g = option_plain r g.0
row_plain r (role.Variants x) h g = variant_plain r g.0
row_plain r (role.Function wanted) h g = function_plain r g.0
row_plain r role.Members h g = absurd h

main_under : (r : Row) → IsPlainRow r → IsProcessRow (under_main r)
main_under row.Case h = absurd h
main_under row.Tags h = absurd h
main_under row.Record h = absurd h
main_under row.Fields h = absurd h
main_under _ h = tt

under_if : (b : Bool) (r : Row) → IsPlainRow r → IsProcessRow (if b then under_main r else row.Nothing)
under_if true r h = main_under r h
under_if false r h = tt

pub plain_under : (r : Row) (x : Role) (s : Sort) → NoMembers x → Suits r x → own_row s ≡ None → IsProcessRow (row_under r s)
plain_under r x s h g e = subst (λ (o : Option Row). IsProcessRow (row_or o (if is_main r s then under_main r else row.Nothing))) (sym e) (under_if (is_main r s) r (row_plain r x h g))

-- ---- lines that stand only where they may

pub nowhere : (r : Row) → may_stand r sort.Nowhere ≡ true → ⊥
nowhere row.File e = absurd cc
nowhere row.Processes e = absurd cc
nowhere row.Process e = absurd cc
nowhere row.Conditions e = absurd cc
nowhere row.Condition e = absurd cc
nowhere row.Guards e = absurd cc
nowhere row.Guard e = absurd cc
nowhere row.Options e = absurd cc
nowhere row.Variants e = absurd cc
nowhere row.ValueOf e = absurd cc
nowhere row.Value e = absurd cc
nowhere row.Case e = absurd cc
nowhere row.Tags e = absurd cc
nowhere row.Record e = absurd cc
nowhere row.Fields e = absurd cc
nowhere row.Nothing e = absurd cc

record_row : (r : Row) → may_stand r sort.Record ≡ true → r ≡ row.Record
record_row row.Record e = refl
record_row _ e = absurd cc

pub no_record : (r : Row) (x : Role) → NoMembers x → Suits r x → may_stand r sort.Record ≡ true → ⊥
no_record r x h g e = subst IsPlainRow (record_row r e) (row_plain r x h g)

result_row : (r : Row) → may_stand r sort.Result ≡ true → r ≡ row.Value
result_row row.Value e = refl
result_row _ e = absurd cc

-- VALOF and RESULT stand in functions alone
abbrev pub IsFunctionRole : Role → Type 0
IsFunctionRole (role.Function wanted) = Unit {0}
IsFunctionRole _ = ⊥

pub valof_role : (r : Row) (x : Role) → NoMembers x → Suits r x → may_stand r sort.ValueOf ≡ true → IsFunctionRole x
valof_role r role.Process h g e = subst IsProcessRow (valof_row r e) g
valof_role r role.Conditional h g e = subst IsConditionRow (valof_row r e) g
valof_role r role.Alternation h g e = subst IsGuardRow (valof_row r e) g
valof_role r (role.Selection c) h g e = subst IsOptionRow (valof_row r e) g.0
valof_role r (role.Variants x) h g e = subst IsVariantRow (valof_row r e) g.0
valof_role r (role.Function wanted) h g e = tt
valof_role r role.Members h g e = absurd h

pub result_role : (r : Row) (x : Role) → NoMembers x → Suits r x → may_stand r sort.Result ≡ true → IsFunctionRole x
result_role r role.Process h g e = subst IsProcessRow (result_row r e) g
result_role r role.Conditional h g e = subst IsConditionRow (result_row r e) g
result_role r role.Alternation h g e = subst IsGuardRow (result_row r e) g
result_role r (role.Selection c) h g e = subst IsOptionRow (result_row r e) g.0
result_role r (role.Variants x) h g e = subst IsVariantRow (result_row r e) g.0
result_role r (role.Function wanted) h g e = tt
result_role r role.Members h g e = absurd h

-- ---- lines of expressions

abbrev pub IsExpressionSort : Sort → Type 0
IsExpressionSort sort.Name = Unit {0}
IsExpressionSort sort.Call = Unit {0}
IsExpressionSort sort.Expression = Unit {0}
IsExpressionSort sort.Expressions = Unit {0}
IsExpressionSort _ = ⊥

only_main : (a b : Bool) → (a || (false || (b && false))) ≡ true → a ≡ true
only_main true b e = refl
only_main false true e = absurd cc
only_main false false e = absurd cc

expression_main : (r : Row) (s : Sort) → IsExpressionSort s → may_stand r s ≡ true → is_main r s ≡ true
expression_main r sort.Name h e = only_main (is_main r sort.Name) (takes_specifications r) e
expression_main r sort.Call h e = only_main (is_main r sort.Call) (takes_specifications r) e
expression_main r sort.Expression h e = only_main (is_main r sort.Expression) (takes_specifications r) e
expression_main r sort.Expressions h e = only_main (is_main r sort.Expressions) (takes_specifications r) e
expression_main r _ h e = absurd h

process_main : (r : Row) (s : Sort) → IsProcessRow r → is_main r s ≡ true → is_process s ≡ true
process_main row.File s h e = absurd cc
process_main row.Processes s h e = e
process_main row.Process s h e = e
process_main row.Nothing s h e = absurd cc
process_main _ s h e = absurd h

no_result : (s : Sort) → IsExpressionSort s → (is_process s || is_result s) ≡ true → is_process s ≡ true
no_result sort.Name h e = absurd cc
no_result sort.Call h e = refl
no_result sort.Expression h e = absurd cc
no_result sort.Expressions h e = absurd cc
no_result _ h e = absurd h

function_main : (r : Row) (s : Sort) → IsFunctionRow r → IsExpressionSort s → is_main r s ≡ true → is_process s ≡ true
function_main row.ValueOf s h g e = absurd (subst IsExpressionSort (valof_is s e) g)
function_main row.Value s h g e = no_result s g e
function_main row.Nothing s h g e = absurd cc
function_main _ s h g e = absurd h

variant_main : (r : Row) (s : Sort) → IsVariantRow r → is_main r s ≡ true → is_variant s ≡ true
variant_main row.Variants s h e = e
variant_main row.Nothing s h e = absurd cc
variant_main _ s h e = absurd h

pub process_only : (r : Row) (s : Sort) → IsExpressionSort s → IsProcessRow r → may_stand r s ≡ true → is_process s ≡ true
process_only r s h g e = process_main r s g (expression_main r s h e)

pub function_only : (r : Row) (s : Sort) → IsExpressionSort s → IsFunctionRow r → may_stand r s ≡ true → is_process s ≡ true
function_only r s h g e = function_main r s g h (expression_main r s h e)

pub variant_only : (r : Row) (s : Sort) → IsExpressionSort s → IsVariantRow r → may_stand r s ≡ true → is_variant s ≡ true
variant_only r s h g e = variant_main r s g (expression_main r s h e)

-- ---- lines with tags

pub variant_parts : (r : Row) (a b : Bool) → IsVariantRow r → may_stand r (parts_sort a b) ≡ true → a ≡ false
variant_parts row.Variants true true h e = absurd cc
variant_parts row.Variants true false h e = absurd cc
variant_parts row.Variants false b h e = refl
variant_parts row.Nothing true true h e = absurd cc
variant_parts row.Nothing true false h e = absurd cc
variant_parts row.Nothing false b h e = refl
variant_parts _ a b h e = absurd h

pub tag_parts : (a b : Bool) → may_stand row.Tags (parts_sort a b) ≡ true → b ≡ false
tag_parts true true e = absurd cc
tag_parts false true e = absurd cc
tag_parts a false e = refl

-- under the head of a protocol stands CASE
pub case_row : (s : Sort) → may_stand row.Case s ≡ true → row_under row.Case s ≡ row.Tags
case_row sort.Case e = refl
case_row _ e = absurd cc
