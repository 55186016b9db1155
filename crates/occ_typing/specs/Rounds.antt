-- What is in scope at a line, said over the whole tree: outermost first, what the lines of specification before each
-- ancestor in its item add and what the ancestor enters, and last what those before the line in its own item add.
use Rattle.std.specs.Prelude.{◌≡◌, Option, Some, None, List, [], ◌++◌}
use Rattle.occ_scope.specs.Visible.{nothing, with_all}
use Rattle.occ_scope.specs.declared.meaning.ScopeEntry.{ScopeEntry}
use Rattle.occ_scope.specs.declared.scope.Scope.{Scope}
use Rattle.occ_tree.specs.Forest.{Forest}
use Rattle.occ_typing_lines.specs.Lines.{body_of}
use Rattle.occ_typing.specs.Places.{At, Stands, first, inner, inside, judged_at, later}
use Rattle.occ_typing.specs.Units.{after_line}
use Rattle.occ_typing_lines.specs.declared.parent.Parent.{Parent}
use Rattle.occ_typing_lines.specs.declared.parent.Role.TheVariants as role
use Rattle.occ_typing_lines.specs.declared.using.Import.{Import}

-- what the lines of an item have added after one more of its lines: a main line ends the item
abbrev pub item_after : List ScopeEntry → Option (List ScopeEntry) → List ScopeEntry
item_after item None = []
item_after item (Some adds) = item ++ adds

-- of a line that stands in trees, where the lines before these in their item have added this
abbrev pub round : (is : List Import) (p : Parent) (outer s : Scope) (f : Forest) (a : At) → Stands is p outer s f a → List ScopeEntry → List ScopeEntry
round is p outer s f a (first _ _ _ l under following) item = item
round is p outer s f a (inside _ _ _ l under following _ below) item =
    let x = judged_at is p s l under in
    item ++ (x.line.enters ++ round is x.line.parent (inner x s) (inner x s) under a below [])
round is p outer s f a (later _ _ _ l under following _ below) item =
    let x = judged_at is p s l under in
    round is x.line.next outer (after_line outer s x.line.adds) following a below (item_after item x.line.adds)

-- of a line of a unit
abbrev pub unit_round : (is : List Import) (f : Forest) (a : At) → Stands is (body_of role.Process) nothing nothing f a → List ScopeEntry
unit_round is f a h = round is (body_of role.Process) nothing nothing f a h []

abbrev pub IsRound : List Import → Forest → Type 0
IsRound is f = (a : At) (h : Stands is (body_of role.Process) nothing nothing f a) → a.scope ≡ with_all nothing (unit_round is f a h)
