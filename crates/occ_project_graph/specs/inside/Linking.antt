-- What is kept of a graph, and what of it is made anew where one node more comes to an index.
use Rattle.std.specs.Global.{Global}
use Rattle.std.specs.Prelude.{◌≡◌, ◌<◌, ◌+◌, ◌-◌, ◌++◌, ◌==◌, ℕ, Bool, false, true, List, [], ◌∷◌, None, Option, Some, Vec, cond, get_or, length, map, nat_lt, not, slice_set}
use Rattle.std.specs.List.{filter}
use Rattle.occ_project_graph.specs.Graph.{Graph, all_rests, reaches}
use Rattle.occ_project_graph.specs.Sources.{once_each, sources}
use Rattle.occ_project_graph.specs.inside.Numbering.{AreSourceRows, IsFrontBefore, IsNumbered, IsOver, IsSourceRow, graph_by, index_at}

-- what the nodes of a graph rest on: what is kept, or, if nothing is, all to which edges lead
abbrev pub rests_kept : Graph → Option (Vec (List ℕ) Global) → Graph
rests_kept g None = g
rests_kept g (Some rows) = rows.items

-- of each node those that it rests on, and those from which edges lead to it, all by numbers
pub record IsLinked (numbers indices : List ℕ) (edges rests turned : Graph) : Type 0 where
  pub numbered : IsNumbered numbers indices
  pub edges_over : IsOver (length numbers) edges
  pub rests_over : IsOver (length numbers) rests
  pub turned_over : IsOver (length numbers) turned
  pub rests_are : graph_by numbers indices rests ≡ all_rests (graph_by numbers indices edges)
  pub turned_are : (p : ℕ) → p < length numbers → get_or (graph_by numbers indices turned) p [] ≡ sources (graph_by numbers indices edges) p

-- those of these that are not this one
abbrev pub others : ℕ → List ℕ → List ℕ
others at ws = filter (λ w. not (w == at)) ws

-- those of these that stand before an index, and the indices of the others where one comes to it
abbrev pub before : ℕ → List ℕ → List ℕ
before at us = filter (λ u. nat_lt u at) us

abbrev pub following : ℕ → List ℕ → List ℕ
following at us = map (λ u. u + 1) (filter (λ u. not (nat_lt u at)) us)

-- those from which edges led to the node that then has this index
abbrev pub sources_till : Graph → ℕ → ℕ → List ℕ
sources_till turned at v = cond (v == at) [] (get_or turned (cond (nat_lt v at) v (v - 1)) [])

-- those from which edges lead to it then, where edges lead from the new node to these
abbrev pub sources_then : Graph → ℕ → List ℕ → ℕ → List ℕ
sources_then turned at ws v = before at (sources_till turned at v) ++ (once_each at ws v ++ following at (sources_till turned at v))

-- rows at these indices are replaced
abbrev pub with_rows : Graph → List ℕ → List (List ℕ) → Graph
with_rows g [] rows = g
with_rows g (w ∷ ws) [] = g
with_rows g (w ∷ ws) (row ∷ rows) = slice_set (with_rows g ws rows) w row

-- a number is added to the rows of these, once for each, the last of them first
abbrev pub pushed : Graph → List ℕ → ℕ → Graph
pushed g [] n = g
pushed g (w ∷ ws) n = slice_set (pushed g ws n) w (get_or (pushed g ws n) w [] ++ n ∷ [])

-- a node that comes to an index comes behind all in the rows of these, which are there
abbrev pub IsBehindAll : List ℕ → Graph → ℕ → List ℕ → Type 0
IsBehindAll indices g at ws = (i : ℕ) → i < length ws → (get_or ws i 0 < length g) × IsFrontBefore indices at (get_or g (get_or ws i 0) []) (length (get_or g (get_or ws i 0) []))

-- rows where edges lead from the new node to these: it is added to them, or they are as before and rows are found that are to be put
abbrev pub AreLeading : List ℕ → ℕ → ℕ → List ℕ → Graph → Graph → Option (List (List ℕ)) → Type 0
AreLeading indices at number nodes before rows None = IsBehindAll indices before at nodes × (rows ≡ pushed before nodes number)
AreLeading indices at number nodes before rows (Some found) = AreSourceRows indices before at number nodes nodes found × (rows ≡ before)

-- rows are put, and one for the new node before that, to which none leads but its own
pub record IsLedFrom (indices : List ℕ) (at number : ℕ) (nodes : List ℕ) (before rows : Graph) : Type 0 where
  pub found : Graph
  pub are : AreSourceRows indices before at number nodes nodes found
  pub is : rows ≡ with_rows (before ++ [] ∷ []) nodes found

-- those that have a mark at their place
abbrev pub marked : List ℕ → List Bool → List ℕ
marked [] marks = []
marked (n ∷ ns) [] = []
marked (n ∷ ns) (m ∷ marks) = cond m (n ∷ marked ns marks) (marked ns marks)

-- the row of a node, to which the new one is added behind those before its index if this is so
abbrev pub IsLedRow : List ℕ → ℕ → ℕ → Bool → List ℕ → List ℕ → Type 0
IsLedRow indices at number true before row = IsSourceRow indices at number 1 before row
IsLedRow indices at number false before row = row ≡ before

-- the same of all that have a mark, and a row for the new node, from which no edge leads
pub record AreLedRows (indices : List ℕ) (marks : List Bool) (at number : ℕ) (before rows : Graph) : Type 0 where
  pub len : length rows ≡ length before + 1
  pub led : (n : ℕ) → n < length before → IsLedRow indices at number (get_or marks (index_at indices n) false) (get_or before n []) (get_or rows n [])
  pub last : get_or rows (length before) [] ≡ []

-- the rows of these nodes, with the new one added to each
pub record AreLed (indices : List ℕ) (at number : ℕ) (before : Graph) (nodes : List ℕ) (rows : Graph) : Type 0 where
  pub len : length rows ≡ length nodes
  pub led : (i : ℕ) → i < length nodes → IsSourceRow indices at number 1 (get_or before (get_or nodes i 0) []) (get_or rows i [])

-- these are put, and a row for the new node, from which no edge leads
pub record IsLed (indices : List ℕ) (at number : ℕ) (nodes : List ℕ) (before rows : Graph) : Type 0 where
  pub found : Graph
  pub are : AreLed indices at number before nodes found
  pub is : rows ≡ with_rows (before ++ [] ∷ []) nodes found

-- the same of what is kept of what nodes rest on, if something is
abbrev pub AreLedRests : List ℕ → ℕ → ℕ → List ℕ → Option (Vec (List ℕ) Global) → Option (Vec (List ℕ) Global) → Type 0
AreLedRests indices at number nodes None None = Unit {0}
AreLedRests indices at number nodes None (Some rows) = ⊥
AreLedRests indices at number nodes (Some before) None = ⊥
AreLedRests indices at number nodes (Some before) (Some rows) = IsLed indices at number nodes before.items rows.items

-- The new node is put, from which edges lead to these, and to which edges lead from those users. It reaches itself by no way. The same
-- of what is kept of what nodes rest on, but for the row of the new one.
pub record IsBetween (indices : List ℕ) (at : ℕ) (users led : List ℕ) (before after : Graph) (rests next : Option (Vec (List ℕ) Global)) : Type 0 where
  pub joined : Graph
  pub are : IsLed indices at (length before) users before joined
  pub is : after ≡ slice_set joined (length before) led
  pub rests_are : AreLedRests indices at (length before) users rests next
  pub none : reaches after (length before) (length before) ≡ false
