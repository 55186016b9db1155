-- That the tokens of a line are spelled by one form: class by class.
use Rattle.std.proofs.Common.{◌≡◌, ◌∙◌, ℕ, refl, sym, ap, List, [], ◌∷◌, Option, Some, None}
use Rattle.occ_lines.specs.declared.token.Symbol.TheVariants as s
use Rattle.occ_lines.specs.declared.token.Token.{Token}
use Rattle.occ_lines.specs.declared.token.Token.TheVariants as t
use Rattle.occ_lines.specs.declared.token.Word.{Word}
use Rattle.occ_lines.specs.declared.token.Word.TheVariants as w
use Rattle.occ_forms_expressions.specs.declared.tree.Element.{Element}
use Rattle.occ_forms_expressions.specs.declared.tree.Expr.{Expr}
use Rattle.occ_forms_expressions.specs.Reading.{IsEnd}
use Rattle.occ_forms_expressions.specs.Spelling.{element_then, expr_then}
use Rattle.occ_forms_expressions.proofs.UniqueExprs.{one_expr}
use Rattle.occ_forms.specs.declared.specification_tree.Specified.{Specified}
use Rattle.occ_forms.proofs.SpecificationLists.{ListEnds}
use Rattle.occ_forms.proofs.Once.{element_once, listed_once, more_once, named_once, same_after}
use Rattle.occ_forms.proofs.OneTree.{one_tree}
use Rattle.occ_forms.specs.declared.class.Class.{Class}
use Rattle.occ_forms.specs.declared.class.Class.TheVariants as cl
use Rattle.occ_forms.specs.declared.input.Received.{Received}
use Rattle.occ_forms.specs.declared.input.Received.TheVariants as re
use Rattle.occ_forms.specs.declared.tree.Action.TheVariants as ac
use Rattle.occ_forms.specs.declared.tree.Construct.TheVariants as co
use Rattle.occ_forms.specs.declared.tree.Detail.{Detail}
use Rattle.occ_forms.specs.declared.tree.Form.{Form}
use Rattle.occ_forms.specs.declared.tree.Form.TheVariants as fo
use Rattle.occ_forms.specs.declared.tree.Guarded.{Guarded}
use Rattle.occ_forms.specs.declared.tree.Guarded.TheVariants as gu
use Rattle.occ_forms.specs.declared.tree.Input.{Input}
use Rattle.occ_forms.specs.declared.tree.Input.TheVariants as ip
use Rattle.occ_forms.specs.declared.tree.InputItem.{InputItem}
use Rattle.occ_forms.specs.declared.tree.ConstructKind.{ConstructKind}
use Rattle.occ_forms.specs.declared.tree.ConstructKind.TheVariants as ki
use Rattle.occ_forms.specs.declared.tree.OutputItem.{OutputItem}
use Rattle.occ_forms.specs.declared.tree.PartForm.TheVariants as pa
use Rattle.occ_forms.specs.declared.tree.Replicator.{Replicator}
use Rattle.occ_forms.specs.inside.Classes.{class_of}
use Rattle.occ_forms.specs.Reading.{IsItemEnd}
use Rattle.occ_forms.specs.inside.Received.{received_tokens}
use Rattle.occ_forms.specs.Spelling.{detail_then, form_tokens, guarded_then, input_item_then, kind_then, output_item_then, perhaps_replicator_then}
use Rattle.occ_forms.proofs.Classes.{FormAt, at_assignment, at_case, at_case_alone, at_case_input, at_close, at_declaration, at_else, at_expressions, at_guard, at_input, at_output, at_packed_record, at_record, at_replicable, at_result, at_skip, at_specified, at_stop, at_tagged, at_value_of, at_while, form_at, specified_no_close}
use Rattle.occ_forms.proofs.Lines.{no_empty}
use Rattle.occ_forms.proofs.Lists.{assign_ends, no_comma, no_more}
use Rattle.occ_forms.proofs.OneItem.{detail_once, element_no_word, input_item_no_word, input_item_once, output_item_once}

-- a list may end at the end of a line, and one with commas at `:=`
comma_ends : ListEnds s.Comma IsEnd []
comma_ends = record { ends = refl; no_more = no_more s.Comma }

semicolon_ends : ListEnds s.Semicolon IsItemEnd []
semicolon_ends = record { ends = refl; no_more = no_more s.Semicolon }

values_follow : (k : List Token) → ListEnds s.Comma IsEnd (t.Symbol s.Assign ∷ k)
values_follow k = record { ends = assign_ends k; no_more = no_comma k }

-- expressions with commas between them
one_list : (x y : Expr) (xs ys : List Expr) → form_tokens (fo.Expressions x xs) ≡ form_tokens (fo.Expressions y ys) → (x ≡ y) × (xs ≡ ys)
one_list x y xs ys e = let h = listed_once s.Comma expr_then IsEnd (λ z k. refl) one_expr x y xs ys [] [] comma_ends comma_ends e in (h.0, h.1)

-- what is received
from_once : (a b : Element) (j k : List Token) → element_then a (t.Symbol s.Input ∷ j) ≡ element_then b (t.Symbol s.Input ∷ k) → (a ≡ b) × (j ≡ k)
from_once a b j k e = let h = element_once a b _ _ refl refl e in (h.0, same_after _ _ _ h.1)

item_no_word : {Z : Type 0} (x : InputItem) (k : List Token) (word : Word) (rest : List Token) → input_item_then x k ≡ t.Word word ∷ rest → Z
item_no_word x k word rest e = absurd (input_item_no_word x k word rest e)

one_received : (a b : Received) → received_tokens a ≡ received_tokens b → a ≡ b
one_received (re.Input (ip.Plain a x xs)) (re.Input (ip.Plain b y ys)) e =
    let f = from_once a b _ _ e in
    let h = listed_once s.Semicolon input_item_then IsItemEnd (λ z k. refl) input_item_once x y xs ys [] [] semicolon_ends semicolon_ends f.1 in
    ap (λ (z : Element). re.Input (ip.Plain z x xs)) f.0 ∙ ap (λ (z : InputItem). re.Input (ip.Plain b z xs)) h.0 ∙ ap (λ (z : List InputItem). re.Input (ip.Plain b y z)) h.1
one_received (re.Input (ip.Plain a x xs)) (re.Input (ip.After b y)) e = item_no_word x _ w.After _ (from_once a b _ _ e).1
one_received (re.Input (ip.Plain a x xs)) (re.Input (ip.Tagged b n ys)) e = item_no_word x _ w.Case _ (from_once a b _ _ e).1
one_received (re.Input (ip.Plain a x xs)) (re.Case b) e = item_no_word x _ w.Case _ (from_once a b _ _ e).1
one_received (re.Input (ip.After a x)) (re.Input (ip.Plain b y ys)) e = item_no_word y _ w.After _ (sym (from_once a b _ _ e).1)
one_received (re.Input (ip.After a x)) (re.Input (ip.After b y)) e =
    let f = from_once a b _ _ e in
    let h = one_expr x y [] [] refl refl (same_after _ _ _ f.1) in
    ap (λ (z : Element). re.Input (ip.After z x)) f.0 ∙ ap (λ (z : Expr). re.Input (ip.After b z)) h.0
one_received (re.Input (ip.After a x)) (re.Input (ip.Tagged b n ys)) e = let h = (from_once a b _ _ e).1 in absurd cc
one_received (re.Input (ip.After a x)) (re.Case b) e = let h = (from_once a b _ _ e).1 in absurd cc
one_received (re.Input (ip.Tagged a n xs)) (re.Input (ip.Plain b y ys)) e = item_no_word y _ w.Case _ (sym (from_once a b _ _ e).1)
one_received (re.Input (ip.Tagged a n xs)) (re.Input (ip.After b y)) e = let h = (from_once a b _ _ e).1 in absurd cc
one_received (re.Input (ip.Tagged a n xs)) (re.Input (ip.Tagged b m ys)) e =
    let f = from_once a b _ _ e in
    let g = named_once n m _ _ (same_after _ _ _ f.1) in
    let h = more_once s.Semicolon input_item_then IsItemEnd (λ z k. refl) input_item_once xs ys [] [] semicolon_ends semicolon_ends g.1 in
    ap (λ (z : Element). re.Input (ip.Tagged z n xs)) f.0 ∙ ap (λ (z : List ℕ). re.Input (ip.Tagged b z xs)) g.0 ∙ ap (λ (z : List InputItem). re.Input (ip.Tagged b m z)) h.0
one_received (re.Input (ip.Tagged a n xs)) (re.Case b) e = let h = same_after _ _ _ (from_once a b _ _ e).1 in absurd cc
one_received (re.Case a) (re.Input (ip.Plain b y ys)) e = item_no_word y _ w.Case _ (sym (from_once a b _ _ e).1)
one_received (re.Case a) (re.Input (ip.After b y)) e = let h = (from_once a b _ _ e).1 in absurd cc
one_received (re.Case a) (re.Input (ip.Tagged b n ys)) e = let h = same_after _ _ _ (from_once a b _ _ e).1 in absurd cc
one_received (re.Case a) (re.Case b) e = ap (λ (z : Element). re.Case z) (from_once a b _ _ e).0

one_input : (a b : Input) → received_tokens (re.Input a) ≡ received_tokens (re.Input b) → a ≡ b
one_input a b e = let h = one_received (re.Input a) (re.Input b) e in (cc)

one_case : (a b : Element) → received_tokens (re.Case a) ≡ received_tokens (re.Case b) → a ≡ b
one_case a b e = let h = one_received (re.Case a) (re.Case b) e in (cc)

no_input_case : {Z : Type 0} (a : Input) (b : Element) → received_tokens (re.Input a) ≡ received_tokens (re.Case b) → Z
no_input_case a b e = let h = one_received (re.Input a) (re.Case b) e in absurd cc

-- what stands after a guard
received_no_word : {Z : Type 0} (x : Received) (word : Word) (rest : List Token) → received_tokens x ≡ t.Word word ∷ rest → Z
received_no_word (re.Input (ip.Plain el x xs)) word rest e = absurd (element_no_word el _ word rest e)
received_no_word (re.Input (ip.After el x)) word rest e = absurd (element_no_word el _ word rest e)
received_no_word (re.Input (ip.Tagged el n xs)) word rest e = absurd (element_no_word el _ word rest e)
received_no_word (re.Case el) word rest e = absurd (element_no_word el _ word rest e)

one_guarded : (a b : Guarded) → guarded_then a [] ≡ guarded_then b [] → a ≡ b
one_guarded gu.Skip gu.Skip e = refl
one_guarded gu.Skip (gu.Input b) e = received_no_word (re.Input b) w.Skip [] (sym e)
one_guarded gu.Skip (gu.CaseInput b) e = received_no_word (re.Case b) w.Skip [] (sym e)
one_guarded (gu.Input a) gu.Skip e = received_no_word (re.Input a) w.Skip [] e
one_guarded (gu.Input a) (gu.Input b) e = ap (λ (z : Input). gu.Input z) (one_input a b e)
one_guarded (gu.Input a) (gu.CaseInput b) e = no_input_case a b e
one_guarded (gu.CaseInput a) gu.Skip e = received_no_word (re.Case a) w.Skip [] e
one_guarded (gu.CaseInput a) (gu.Input b) e = no_input_case b a (sym e)
one_guarded (gu.CaseInput a) (gu.CaseInput b) e = ap (λ (z : Element). gu.CaseInput z) (one_case a b e)

-- the words of a construct, and what stands after them
abbrev following_pri : Word → List Token → Option (ConstructKind × List Token)
following_pri w.Par k = Some (ki.PriParallel, k)
following_pri w.Alt k = Some (ki.PriAlternation, k)
following_pri other k = None

abbrev after_pri : List Token → Option (ConstructKind × List Token)
after_pri (t.Word word ∷ k) = following_pri word k
after_pri other = None

abbrev at_word : Word → List Token → Option (ConstructKind × List Token)
at_word w.Seq k = Some (ki.Sequence, k)
at_word w.Par k = Some (ki.Parallel, k)
at_word w.Pri k = after_pri k
at_word w.If k = Some (ki.Conditional, k)
at_word w.Alt k = Some (ki.Alternation, k)
at_word other k = None

abbrev kind_at : List Token → Option (ConstructKind × List Token)
kind_at (t.Word word ∷ k) = at_word word k
kind_at other = None

kind_back : (kind : ConstructKind) (k : List Token) → kind_at (kind_then kind k) ≡ Some (kind, k)
kind_back ki.Sequence k = refl
kind_back ki.Parallel k = refl
kind_back ki.PriParallel k = refl
kind_back ki.Conditional k = refl
kind_back ki.Alternation k = refl
kind_back ki.PriAlternation k = refl

kind_once : (a b : ConstructKind) (j k : List Token) → kind_then a j ≡ kind_then b k → (a ≡ b) × (j ≡ k)
kind_once a b j k e =
    let h : Some (a, j) ≡ Some (b, k) = sym (kind_back a j) ∙ ap kind_at e ∙ kind_back b k in
    let i : (a, j) ≡ (b, k) = (cc) in
    (ap (λ (z : ConstructKind × List Token). z.0) i, ap (λ (z : ConstructKind × List Token). z.1) i)

replicator_same : (r q : Replicator) → r.name ≡ q.name → r.base ≡ q.base → r.count ≡ q.count → r ≡ q
replicator_same r q a b c = ap (λ (z : List ℕ). record { name = z; base = r.base; count = r.count }) a
    ∙ ap (λ (z : Expr). record { name = q.name; base = z; count = r.count }) b
    ∙ ap (λ (z : Expr). record { name = q.name; base = q.base; count = z }) c

one_replicator : (a b : Option Replicator) → perhaps_replicator_then a [] ≡ perhaps_replicator_then b [] → a ≡ b
one_replicator None None e = refl
one_replicator None (Some r) e = absurd cc
one_replicator (Some r) None e = absurd cc
one_replicator (Some r) (Some q) e =
    let n = named_once r.name q.name _ _ e in
    let b = one_expr r.base q.base _ _ refl refl (same_after _ _ _ n.1) in
    let c = one_expr r.count q.count [] [] refl refl (same_after _ _ _ b.1) in
    ap (λ (z : Replicator). Some z) (replicator_same r q n.0 b.0 c.0)

-- each form against its like
assignments : (a b : Element) (fs gs : List Element) (x y : Expr) (xs ys : List Expr) → form_tokens (fo.Action (ac.Assignment a fs x xs)) ≡ form_tokens (fo.Action (ac.Assignment b gs y ys)) → fo.Action (ac.Assignment a fs x xs) ≡ fo.Action (ac.Assignment b gs y ys)
assignments a b fs gs x y xs ys e =
    let h = listed_once s.Comma element_then IsEnd (λ z k. refl) element_once a b fs gs _ _ (values_follow _) (values_follow _) e in
    let i = one_list x y xs ys (same_after _ _ _ h.2) in
    ap (λ (z : Element). fo.Action (ac.Assignment z fs x xs)) h.0 ∙ ap (λ (z : List Element). fo.Action (ac.Assignment b z x xs)) h.1
    ∙ ap (λ (z : Expr). fo.Action (ac.Assignment b gs z xs)) i.0 ∙ ap (λ (z : List Expr). fo.Action (ac.Assignment b gs y z)) i.1

outputs : (a b : Element) (x y : OutputItem) (xs ys : List OutputItem) → form_tokens (fo.Action (ac.Output a x xs)) ≡ form_tokens (fo.Action (ac.Output b y ys)) → fo.Action (ac.Output a x xs) ≡ fo.Action (ac.Output b y ys)
outputs a b x y xs ys e =
    let h = element_once a b _ _ refl refl e in
    let i = listed_once s.Semicolon output_item_then IsItemEnd (λ z k. refl) output_item_once x y xs ys [] [] semicolon_ends semicolon_ends (same_after _ _ _ h.1) in
    ap (λ (z : Element). fo.Action (ac.Output z x xs)) h.0 ∙ ap (λ (z : OutputItem). fo.Action (ac.Output b z xs)) i.0 ∙ ap (λ (z : List OutputItem). fo.Action (ac.Output b y z)) i.1

replicables : (k l : ConstructKind) (r q : Option Replicator) → form_tokens (fo.Construct (co.Replicable k r)) ≡ form_tokens (fo.Construct (co.Replicable l q)) → fo.Construct (co.Replicable k r) ≡ fo.Construct (co.Replicable l q)
replicables k l r q e =
    let h = kind_once k l _ _ e in
    ap (λ (z : ConstructKind). fo.Construct (co.Replicable z r)) h.0 ∙ ap (λ (z : Option Replicator). fo.Construct (co.Replicable l z)) (one_replicator r q h.1)

guards : (x y : Expr) (a b : Guarded) → form_tokens (fo.Part (pa.Guard x a)) ≡ form_tokens (fo.Part (pa.Guard y b)) → fo.Part (pa.Guard x a) ≡ fo.Part (pa.Guard y b)
guards x y a b e =
    let h = one_expr x y _ _ refl refl e in
    ap (λ (z : Expr). fo.Part (pa.Guard z a)) h.0 ∙ ap (λ (z : Guarded). fo.Part (pa.Guard y z)) (one_guarded a b (same_after _ _ _ h.1))

results : (x y : Expr) (xs ys : List Expr) → form_tokens (fo.Part (pa.Result x xs)) ≡ form_tokens (fo.Part (pa.Result y ys)) → fo.Part (pa.Result x xs) ≡ fo.Part (pa.Result y ys)
results x y xs ys e = let h = one_list x y xs ys (same_after _ _ _ e) in
    ap (λ (z : Expr). fo.Part (pa.Result z xs)) h.0 ∙ ap (λ (z : List Expr). fo.Part (pa.Result y z)) h.1

tags : (n m : List ℕ) (x y : Detail) (xs ys : List Detail) → form_tokens (fo.Tagged n x xs) ≡ form_tokens (fo.Tagged m y ys) → fo.Tagged n x xs ≡ fo.Tagged m y ys
tags n m x y xs ys e =
    let h = named_once n m _ _ e in
    let i = listed_once s.Semicolon detail_then IsItemEnd (λ z k. refl) detail_once x y xs ys [] [] semicolon_ends semicolon_ends (same_after _ _ _ h.1) in
    ap (λ (z : List ℕ). fo.Tagged z x xs) h.0 ∙ ap (λ (z : Detail). fo.Tagged m z xs) i.0 ∙ ap (λ (z : List Detail). fo.Tagged m y z) i.1

specifications : (x y : Specified) → form_tokens (fo.Specified x) ≡ form_tokens (fo.Specified y) → fo.Specified x ≡ fo.Specified y
specifications x y e = ap (λ (z : Specified). fo.Specified z) (one_tree x y e)

-- an expression after a word
after_word : (word : Token) (x y : Expr) → word ∷ expr_then x [] ≡ word ∷ expr_then y [] → x ≡ y
after_word word x y e = (one_expr x y [] [] refl refl (same_after _ _ _ e)).0

as_seen : (a b x y : Form) → a ≡ x → b ≡ y → (form_tokens x ≡ form_tokens y → x ≡ y) → form_tokens a ≡ form_tokens b → a ≡ b
as_seen a b x y p q one e = p ∙ one (sym (ap form_tokens p) ∙ e ∙ ap form_tokens q) ∙ sym q

by : (a b : Form) (c : Class) → FormAt a c → FormAt b c → form_tokens a ≡ form_tokens b → a ≡ b
by a b cl.Close (at_close p) (at_close q) e = p ∙ sym q
by a b cl.Close (at_close p) (at_declaration y q) e = as_seen a b _ _ p q (λ h. absurd (specified_no_close y (sym h))) e
by a b cl.Close (at_declaration x p) (at_close q) e = as_seen a b _ _ p q (λ h. absurd (specified_no_close x h)) e
by a b cl.Close (at_declaration x p) (at_declaration y q) e = as_seen a b _ _ p q (specifications x y) e
by a b cl.Other (at_specified x p) (at_specified y q) e = as_seen a b _ _ p q (specifications x y) e
by a b cl.Skip (at_skip p) (at_skip q) e = p ∙ sym q
by a b cl.Stop (at_stop p) (at_stop q) e = p ∙ sym q
by a b cl.Else (at_else p) (at_else q) e = p ∙ sym q
by a b cl.ValueOf (at_value_of p) (at_value_of q) e = p ∙ sym q
by a b cl.Record (at_record p) (at_record q) e = p ∙ sym q
by a b cl.PackedRecord (at_packed_record p) (at_packed_record q) e = p ∙ sym q
by a b cl.Assignment (at_assignment f fs x xs p) (at_assignment g gs y ys q) e = as_seen a b _ _ p q (assignments f g fs gs x y xs ys) e
by a b cl.Output (at_output f x xs p) (at_output g y ys q) e = as_seen a b _ _ p q (outputs f g x y xs ys) e
by a b cl.Input (at_input x p) (at_input y q) e = as_seen a b _ _ p q (λ h. ap (λ (z : Input). fo.Action (ac.Input z)) (one_input x y h)) e
by a b cl.Input (at_input x p) (at_case_input f q) e = as_seen a b _ _ p q (λ h. no_input_case x f h) e
by a b cl.Input (at_case_input f p) (at_input x q) e = as_seen a b _ _ p q (λ h. no_input_case x f (sym h)) e
by a b cl.Input (at_case_input f p) (at_case_input g q) e = as_seen a b _ _ p q (λ h. ap (λ (z : Element). fo.Construct (co.CaseInput z)) (one_case f g h)) e
by a b cl.Replicable (at_replicable k r p) (at_replicable l g q) e = as_seen a b _ _ p q (replicables k l r g) e
by a b cl.While (at_while x p) (at_while y q) e = as_seen a b _ _ p q (λ h. ap (λ (z : Expr). fo.Construct (co.While z)) (after_word _ x y h)) e
by a b cl.Case (at_case x p) (at_case y q) e = as_seen a b _ _ p q (λ h. ap (λ (z : Expr). fo.Construct (co.Case z)) (after_word _ x y h)) e
by a b cl.Case (at_case x p) (at_case_alone q) e = as_seen a b _ _ p q (λ h. no_empty (t.Word w.Case) _ [] x refl refl (sym h)) e
by a b cl.Case (at_case_alone p) (at_case x q) e = as_seen a b _ _ p q (λ h. no_empty (t.Word w.Case) _ [] x refl refl h) e
by a b cl.Case (at_case_alone p) (at_case_alone q) e = p ∙ sym q
by a b cl.Result (at_result x xs p) (at_result y ys q) e = as_seen a b _ _ p q (results x y xs ys) e
by a b cl.Guard (at_guard x f p) (at_guard y g q) e = as_seen a b _ _ p q (guards x y f g) e
by a b cl.Expressions (at_expressions x xs p) (at_expressions y ys q) e = as_seen a b _ _ p q (λ h. let i = one_list x y xs ys h in ap (λ (z : Expr). fo.Expressions z xs) i.0 ∙ ap (λ (z : List Expr). fo.Expressions y z) i.1) e
by a b cl.Tagged (at_tagged n x xs p) (at_tagged m y ys q) e = as_seen a b _ _ p q (tags n m x y xs ys) e

-- the law
pub one_form : (a b : Form) → form_tokens a ≡ form_tokens b → a ≡ b
one_form a b e = by a b (class_of (form_tokens a)) (form_at a _ _ refl refl) (form_at b _ _ e refl) e
