-- One line of the walk down a unit.
use Rattle.std.proofs.Common.{◌≡◌, ◌∙◌, ◌≤◌, ◌+◌, ℕ, List, [], ◌∷◌, ◌++◌, Option, Some, None, length, ap, sym, subst, arith, append_assoc}
use Rattle.std.proofs.Common.{◌<◌, slice_index_or, drop}
use Rattle.std.proofs.lemmas.List.{drop_more}
use Rattle.occ_base.specs.declared.diag.Diag.{Diag}
use Rattle.occ_scope.specs.declared.meaning.ScopeEntry.{ScopeEntry}
use Rattle.occ_scope.specs.declared.scope.Scope.{Scope}
use Rattle.occ_scope.specs.Visible.{back_to, with_all}
use Rattle.occ_scope.proofs.Leaving.{back_done, back_over, length_back, length_with_all}
use Rattle.occ_tree.specs.declared.tree.Node.{Node, out-Node}
use Rattle.occ_tree.specs.Forest.{forest_of}
use Rattle.occ_typing_lines.specs.declared.parent.Parent.{Parent}
use Rattle.occ_typing.specs.TypedLines.{line_with, typed_lines}
use Rattle.occ_typing_lines.specs.Judging.{judged}
use Rattle.occ_typing.specs.Units.{after_line, line_faults, lines}
use Rattle.occ_typing.specs.declared.tree.TypedLine.{TypedLine}
use Rattle.occ_typing_lines.specs.declared.using.Import.{Import}
use Rattle.occ_typing_lines.proofs.Trees.{first_tree}

-- what stood in scope round the item stands there after the line too
pub stays : (count : ℕ) (s : Scope) (adds : Option (List ScopeEntry)) → count ≤ length s.meanings
    → (count ≤ length (after_line (back_to count s) s adds).meanings) × (back_to count (after_line (back_to count s) s adds) ≡ back_to count s)
stays count s None h =
    let e : length (back_to count s).meanings ≡ count = length_back count s h in
    (omega (arith, e), back_done count (back_to count s) (omega (arith, e)))
stays count s (Some xs) h =
    let e : length (with_all s xs).meanings ≡ length s.meanings + length xs = length_with_all xs s in
    (omega (arith, e, h), back_over count xs s h)

pub stays_so : (count : ℕ) (s t outer : Scope) (adds : Option (List ScopeEntry)) → count ≤ length s.meanings → back_to count s ≡ outer
    → t ≡ after_line (back_to count s) s adds → (count ≤ length t.meanings) × (back_to count t ≡ outer)
stays_so count s t outer adds h here is =
    let r = subst (λ (u : Scope). (count ≤ length u.meanings) × (back_to count u ≡ back_to count s)) (sym is) (stays count s adds h) in
    (r.0, r.1 ∙ here)

pub split_at : (ns : List Node) (i : ℕ) (n : Node) → i < length ns → n ≡ slice_index_or ns i n → drop i ns ≡ n ∷ drop (i + 1) ns
split_at ns i n h e = drop_more ns i n h ∙ ap (λ (z : Node). z ∷ drop (i + 1) ns) (sym e)

-- the lines from a node on are the line, those under it, and those after it
from_node : (us : List Import) (p : Parent) (outer s : Scope) (n : Node) (ns : List Node)
    → lines us p outer s (forest_of (n ∷ ns))
    ≡ line_faults us p s (out-Node n).line (forest_of (out-Node n).children)
    ++ lines us (judged us s (out-Node n).line.body (forest_of (out-Node n).children) p).line.next outer (after_line outer s (judged us s (out-Node n).line.body (forest_of (out-Node n).children) p).line.adds) (forest_of ns)
from_node us p outer s n ns = ap (lines us p outer s) (first_tree n ns)

pub step : (us : List Import) (p q : Parent) (outer s t : Scope) (n : Node) (ns : List Node) (found more all : List Diag) (count : ℕ)
    → back_to count s ≡ outer
    → found ++ lines us p outer s (forest_of (n ∷ ns)) ≡ all
    → q ≡ (judged us s (out-Node n).line.body (forest_of (out-Node n).children) p).line.next
    → t ≡ after_line (back_to count s) s (judged us s (out-Node n).line.body (forest_of (out-Node n).children) p).line.adds
    → more ≡ found ++ line_faults us p s (out-Node n).line (forest_of (out-Node n).children)
    → more ++ lines us q outer t (forest_of ns) ≡ all
step us p q outer s t n ns found more all count here whole next following reported =
    let x = judged us s (out-Node n).line.body (forest_of (out-Node n).children) p in
    let rest : lines us q outer t (forest_of ns) ≡ lines us x.line.next outer (after_line outer s x.line.adds) (forest_of ns)
    = ap (λ (z : Parent). lines us z outer t (forest_of ns)) next
    ∙ ap (λ (z : Scope). lines us x.line.next outer z (forest_of ns)) (following ∙ ap (λ (z : Scope). after_line z s x.line.adds) here) in
    ap (λ (z : List Diag). z ++ lines us q outer t (forest_of ns)) reported
    ∙ ap (λ (z : List Diag). (found ++ line_faults us p s (out-Node n).line (forest_of (out-Node n).children)) ++ z) rest
    ∙ append_assoc found (line_faults us p s (out-Node n).line (forest_of (out-Node n).children)) (lines us x.line.next outer (after_line outer s x.line.adds) (forest_of ns))
    ∙ ap (λ (z : List Diag). found ++ z) (sym (from_node us p outer s n ns))
    ∙ whole

-- the typed lines from a node on are the line with those under it, and those after it
pub step_lines : (us : List Import) (p q : Parent) (outer s t : Scope) (n : Node) (ns : List Node) (found more all : List TypedLine) (count : ℕ)
    → back_to count s ≡ outer
    → found ++ typed_lines us p outer s (forest_of (n ∷ ns)) ≡ all
    → q ≡ (judged us s (out-Node n).line.body (forest_of (out-Node n).children) p).line.next
    → t ≡ after_line (back_to count s) s (judged us s (out-Node n).line.body (forest_of (out-Node n).children) p).line.adds
    → more ≡ found ++ line_with us p s (out-Node n).line (forest_of (out-Node n).children) ∷ []
    → more ++ typed_lines us q outer t (forest_of ns) ≡ all
step_lines us p q outer s t n ns found more all count here whole next following made =
    let l = (out-Node n).line in
    let under = forest_of (out-Node n).children in
    let x = judged us s l.body under p in
    let rest : typed_lines us q outer t (forest_of ns) ≡ typed_lines us x.line.next outer (after_line outer s x.line.adds) (forest_of ns)
    = ap (λ (z : Parent). typed_lines us z outer t (forest_of ns)) next
    ∙ ap (λ (z : Scope). typed_lines us x.line.next outer z (forest_of ns)) (following ∙ ap (λ (z : Scope). after_line z s x.line.adds) here) in
    ap (λ (z : List TypedLine). z ++ typed_lines us q outer t (forest_of ns)) made
    ∙ ap (λ (z : List TypedLine). (found ++ line_with us p s l under ∷ []) ++ z) rest
    ∙ append_assoc found (line_with us p s l under ∷ []) (typed_lines us x.line.next outer (after_line outer s x.line.adds) (forest_of ns))
    ∙ ap (λ (z : List TypedLine). found ++ z) (sym (ap (typed_lines us p outer s) (first_tree n ns)))
    ∙ whole
