-- Which forms are of which class, and that the tokens say so.
use Rattle.std.proofs.Common.{◌≡◌, ◌≢◌, ◌∙◌, ℕ, refl, sym, ap, subst, List, [], ◌∷◌, Option, Some, None, Result, Ok, Err, IfOk, IfSome, MatchOption, ◌<◌, arith, length}
use Rattle.std.specs.declared.alloc.AllocError.{AllocError}
use Rattle.occ_lines.specs.declared.token.Symbol.TheVariants as s
use Rattle.occ_lines.specs.declared.token.Token.{Token}
use Rattle.occ_lines.specs.declared.token.Token.TheVariants as t
use Rattle.occ_forms_expressions.specs.declared.tree.Element.{Element}
use Rattle.occ_forms_expressions.specs.declared.tree.Expr.{Expr}
use Rattle.occ_forms_expressions.specs.Marks.{first_mark}
use Rattle.occ_forms_expressions.specs.declared.tree.TypeForm.{TypeForm}
use Rattle.occ_forms_expressions.specs.Spelling.{Spelling, element_then, expr_then, many, type_form_then}
use Rattle.occ_forms_expressions.proofs.Inner.{inner_type_form}
use Rattle.occ_forms_expressions.proofs.Marks.{PassesMarks, element_mark, expr_mark, type_form_mark}
use Rattle.occ_forms.specs.declared.class.Class.{Class}
use Rattle.occ_forms.specs.declared.class.Class.TheVariants as cl
use Rattle.occ_forms.specs.declared.tree.Action.TheVariants as ac
use Rattle.occ_forms.specs.declared.tree.Construct.TheVariants as co
use Rattle.occ_forms.specs.declared.tree.Detail.{Detail}
use Rattle.occ_forms.specs.declared.tree.Form.{Form}
use Rattle.occ_forms.specs.declared.tree.Form.TheVariants as fo
use Rattle.occ_forms.specs.declared.tree.Guarded.{Guarded}
use Rattle.occ_forms.specs.declared.tree.Input.{Input}
use Rattle.occ_forms.specs.declared.tree.Input.TheVariants as ip
use Rattle.occ_forms.specs.declared.tree.ConstructKind.{ConstructKind}
use Rattle.occ_forms.specs.declared.tree.ConstructKind.TheVariants as ki
use Rattle.occ_forms.specs.declared.tree.OutputItem.{OutputItem}
use Rattle.occ_forms.specs.declared.tree.PartForm.TheVariants as pa
use Rattle.occ_forms.specs.declared.tree.Replicator.{Replicator}
use Rattle.occ_forms.specs.SpecificationSpelling.{colon, function_head_then, function_then, inlined_then, listed, name_then, next, recast_word, specified_tokens}
use Rattle.occ_forms.specs.declared.specification_tree.FunctionHead.{FunctionHead}
use Rattle.occ_forms.specs.declared.specification_tree.Head.TheVariants as he
use Rattle.occ_forms.specs.declared.specification_tree.Inlined.{Inlined}
use Rattle.occ_forms.specs.declared.specification_tree.Inlined.TheVariants as nl
use Rattle.occ_forms.specs.declared.specification_tree.Recast.{Recast}
use Rattle.occ_forms.specs.declared.specification_tree.Recast.TheVariants as rc
use Rattle.occ_forms.specs.declared.specification_tree.Specification.TheVariants as sp
use Rattle.occ_forms.specs.declared.specification_tree.Specified.{Specified}
use Rattle.occ_forms.specs.declared.specification_tree.Specified.TheVariants as sd
use Rattle.occ_lines.specs.declared.token.Word.TheVariants as w
use Rattle.occ_forms.specs.inside.Classes.{class_at, class_of}
use Rattle.occ_forms.specs.Reading.{IsFormOf}
use Rattle.occ_forms.specs.Spelling.{form_tokens}

-- the forms of each class
pub data FormAt (form : Form) : Class → Type 0 where
  at_close : form ≡ fo.Close → FormAt form cl.Close
  at_declaration : (x : Specified) → form ≡ fo.Specified x → FormAt form cl.Close
  at_specified : (x : Specified) → form ≡ fo.Specified x → FormAt form cl.Other
  at_skip : form ≡ fo.Action ac.Skip → FormAt form cl.Skip
  at_stop : form ≡ fo.Action ac.Stop → FormAt form cl.Stop
  at_assignment : (el : Element) (els : List Element) (e : Expr) (es : List Expr) → form ≡ fo.Action (ac.Assignment el els e es) → FormAt form cl.Assignment
  at_output : (el : Element) (x : OutputItem) (xs : List OutputItem) → form ≡ fo.Action (ac.Output el x xs) → FormAt form cl.Output
  at_input : (input : Input) → form ≡ fo.Action (ac.Input input) → FormAt form cl.Input
  at_replicable : (kind : ConstructKind) (r : Option Replicator) → form ≡ fo.Construct (co.Replicable kind r) → FormAt form cl.Replicable
  at_while : (e : Expr) → form ≡ fo.Construct (co.While e) → FormAt form cl.While
  at_case : (e : Expr) → form ≡ fo.Construct (co.Case e) → FormAt form cl.Case
  at_case_input : (el : Element) → form ≡ fo.Construct (co.CaseInput el) → FormAt form cl.Input
  at_case_alone : form ≡ fo.Part pa.Case → FormAt form cl.Case
  at_else : form ≡ fo.Part pa.Else → FormAt form cl.Else
  at_value_of : form ≡ fo.Part pa.ValueOf → FormAt form cl.ValueOf
  at_result : (e : Expr) (es : List Expr) → form ≡ fo.Part (pa.Result e es) → FormAt form cl.Result
  at_record : form ≡ fo.Part pa.Record → FormAt form cl.Record
  at_packed_record : form ≡ fo.Part pa.PackedRecord → FormAt form cl.PackedRecord
  at_guard : (e : Expr) (guarded : Guarded) → form ≡ fo.Part (pa.Guard e guarded) → FormAt form cl.Guard
  at_expressions : (e : Expr) (es : List Expr) → form ≡ fo.Expressions e es → FormAt form cl.Expressions
  at_tagged : (n : List ℕ) (x : Detail) (xs : List Detail) → form ≡ fo.Tagged n x xs → FormAt form cl.Tagged

-- a list with commas has no mark of its own
many_mark : {X : Type 0} (spells : X → Spelling) → ((x : X) → PassesMarks (spells x)) → (xs : List X) (k : List Token) → first_mark (many (next s.Comma spells) xs k) ≡ first_mark k
many_mark spells passes [] k = refl
many_mark spells passes (x ∷ xs) k = passes x _ ∙ many_mark spells passes xs k

list_mark : {X : Type 0} (spells : X → Spelling) → ((x : X) → PassesMarks (spells x)) → (x : X) (xs : List X) (k : List Token) → first_mark (listed s.Comma spells x xs k) ≡ first_mark k
list_mark spells passes x xs k = passes x _ ∙ many_mark spells passes xs k

-- nor have the names and types of specifications
names_mark : (ns : List (List ℕ)) (k : List Token) → first_mark (many (next s.Comma name_then) ns k) ≡ first_mark k
names_mark [] k = refl
names_mark (n ∷ ns) k = names_mark ns k

types_mark : (forms : List TypeForm) (k : List Token) → first_mark (many (next s.Comma type_form_then) forms k) ≡ first_mark k
types_mark [] k = refl
types_mark (form ∷ forms) k = type_form_mark form _ ∙ types_mark forms k

recast_class : (recast : Recast) (k : List Token) → class_at (first_mark (t.Word (recast_word recast) ∷ k)) ≡ cl.Other
recast_class rc.Retypes k = refl
recast_class rc.Reshapes k = refl

function_class : (inlined : Inlined) (k : List Token) → class_at (first_mark (inlined_then inlined (t.Word w.Function ∷ k))) ≡ cl.Other
function_class nl.No k = refl
function_class nl.Yes k = refl

head_class : (head : FunctionHead) (k : List Token) → class_at (first_mark (function_head_then head k)) ≡ cl.Other
head_class head k = ap class_at (type_form_mark head.first _ ∙ types_mark head.more (function_then head k)) ∙ function_class head.inlined _

has_specified_class : (x : Specified) (c : Class) → class_of (specified_tokens x) ≡ c → FormAt (fo.Specified x) c
has_specified_class (sd.Line (sp.Declaration form n ns)) c is = subst (FormAt (fo.Specified (sd.Line (sp.Declaration form n ns)))) (sym (ap class_at (type_form_mark form _ ∙ names_mark ns colon)) ∙ is) (at_declaration _ refl)
has_specified_class (sd.Line (sp.Abbreviation None n el)) c is = subst (FormAt (fo.Specified (sd.Line (sp.Abbreviation None n el)))) is (at_specified _ refl)
has_specified_class (sd.Line (sp.Abbreviation (Some form) n el)) c is = subst (FormAt (fo.Specified (sd.Line (sp.Abbreviation (Some form) n el)))) (sym (ap class_at (type_form_mark form _)) ∙ is) (at_specified _ refl)
has_specified_class (sd.Line (sp.Value form n e)) c is = subst (FormAt (fo.Specified (sd.Line (sp.Value form n e)))) is (at_specified _ refl)
has_specified_class (sd.Line (sp.Retyped recast form n el)) c is = subst (FormAt (fo.Specified (sd.Line (sp.Retyped recast form n el)))) (sym (ap class_at (type_form_mark form _) ∙ recast_class recast (element_then el colon)) ∙ is) (at_specified _ refl)
has_specified_class (sd.Line (sp.RetypedValue recast form n e)) c is = subst (FormAt (fo.Specified (sd.Line (sp.RetypedValue recast form n e)))) is (at_specified _ refl)
has_specified_class (sd.Line (sp.Protocol n item more)) c is = subst (FormAt (fo.Specified (sd.Line (sp.Protocol n item more)))) is (at_specified _ refl)
has_specified_class (sd.Line (sp.DataType n form)) c is = subst (FormAt (fo.Specified (sd.Line (sp.DataType n form)))) is (at_specified _ refl)
has_specified_class (sd.Line (sp.Function head e more)) c is = subst (FormAt (fo.Specified (sd.Line (sp.Function head e more)))) (sym (head_class head _) ∙ is) (at_specified _ refl)
has_specified_class (sd.Head (he.Procedure nl.No n gs)) c is = subst (FormAt (fo.Specified (sd.Head (he.Procedure nl.No n gs)))) is (at_specified _ refl)
has_specified_class (sd.Head (he.Procedure nl.Yes n gs)) c is = subst (FormAt (fo.Specified (sd.Head (he.Procedure nl.Yes n gs)))) is (at_specified _ refl)
has_specified_class (sd.Head (he.Function head)) c is = subst (FormAt (fo.Specified (sd.Head (he.Function head)))) (sym (head_class head []) ∙ is) (at_specified _ refl)
has_specified_class (sd.Head (he.Protocol n)) c is = subst (FormAt (fo.Specified (sd.Head (he.Protocol n)))) is (at_specified _ refl)
has_specified_class (sd.Head (he.DataType n)) c is = subst (FormAt (fo.Specified (sd.Head (he.DataType n)))) is (at_specified _ refl)

-- the form, whose tokens are of that class
has_class : (form : Form) (c : Class) → class_of (form_tokens form) ≡ c → FormAt form c
has_class (fo.Specified x) c is = has_specified_class x c is
has_class fo.Close c is = subst (FormAt fo.Close) (is) (at_close refl)
has_class (fo.Action ac.Skip) c is = subst (FormAt (fo.Action ac.Skip)) (is) (at_skip refl)
has_class (fo.Action ac.Stop) c is = subst (FormAt (fo.Action ac.Stop)) (is) (at_stop refl)
has_class (fo.Action (ac.Assignment el els e es)) c is = subst (FormAt (fo.Action (ac.Assignment el els e es))) (sym (ap class_at (list_mark element_then element_mark el els _)) ∙ is) (at_assignment el els e es refl)
has_class (fo.Action (ac.Output el x xs)) c is = subst (FormAt (fo.Action (ac.Output el x xs))) (sym (ap class_at (element_mark el _)) ∙ is) (at_output el x xs refl)
has_class (fo.Action (ac.Input (ip.Plain el x xs))) c is = subst (FormAt (fo.Action (ac.Input (ip.Plain el x xs)))) (sym (ap class_at (element_mark el _)) ∙ is) (at_input (ip.Plain el x xs) refl)
has_class (fo.Action (ac.Input (ip.After el e))) c is = subst (FormAt (fo.Action (ac.Input (ip.After el e)))) (sym (ap class_at (element_mark el _)) ∙ is) (at_input (ip.After el e) refl)
has_class (fo.Action (ac.Input (ip.Tagged el n xs))) c is = subst (FormAt (fo.Action (ac.Input (ip.Tagged el n xs)))) (sym (ap class_at (element_mark el _)) ∙ is) (at_input (ip.Tagged el n xs) refl)
has_class (fo.Construct (co.Replicable ki.Sequence r)) c is = subst (FormAt (fo.Construct (co.Replicable ki.Sequence r))) (is) (at_replicable ki.Sequence r refl)
has_class (fo.Construct (co.Replicable ki.Parallel r)) c is = subst (FormAt (fo.Construct (co.Replicable ki.Parallel r))) (is) (at_replicable ki.Parallel r refl)
has_class (fo.Construct (co.Replicable ki.PriParallel r)) c is = subst (FormAt (fo.Construct (co.Replicable ki.PriParallel r))) (is) (at_replicable ki.PriParallel r refl)
has_class (fo.Construct (co.Replicable ki.Conditional r)) c is = subst (FormAt (fo.Construct (co.Replicable ki.Conditional r))) (is) (at_replicable ki.Conditional r refl)
has_class (fo.Construct (co.Replicable ki.Alternation r)) c is = subst (FormAt (fo.Construct (co.Replicable ki.Alternation r))) (is) (at_replicable ki.Alternation r refl)
has_class (fo.Construct (co.Replicable ki.PriAlternation r)) c is = subst (FormAt (fo.Construct (co.Replicable ki.PriAlternation r))) (is) (at_replicable ki.PriAlternation r refl)
has_class (fo.Construct (co.While e)) c is = subst (FormAt (fo.Construct (co.While e))) (is) (at_while e refl)
has_class (fo.Construct (co.Case e)) c is = subst (FormAt (fo.Construct (co.Case e))) (is) (at_case e refl)
has_class (fo.Construct (co.CaseInput el)) c is = subst (FormAt (fo.Construct (co.CaseInput el))) (sym (ap class_at (element_mark el _)) ∙ is) (at_case_input el refl)
has_class (fo.Part pa.Case) c is = subst (FormAt (fo.Part pa.Case)) (is) (at_case_alone refl)
has_class (fo.Part pa.Else) c is = subst (FormAt (fo.Part pa.Else)) (is) (at_else refl)
has_class (fo.Part pa.ValueOf) c is = subst (FormAt (fo.Part pa.ValueOf)) (is) (at_value_of refl)
has_class (fo.Part (pa.Result e es)) c is = subst (FormAt (fo.Part (pa.Result e es))) (is) (at_result e es refl)
has_class (fo.Part pa.Record) c is = subst (FormAt (fo.Part pa.Record)) (is) (at_record refl)
has_class (fo.Part pa.PackedRecord) c is = subst (FormAt (fo.Part pa.PackedRecord)) (is) (at_packed_record refl)
has_class (fo.Part (pa.Guard e guarded)) c is = subst (FormAt (fo.Part (pa.Guard e guarded))) (sym (ap class_at (expr_mark e _)) ∙ is) (at_guard e guarded refl)
has_class (fo.Expressions e es) c is = subst (FormAt (fo.Expressions e es)) (sym (ap class_at (list_mark expr_then expr_mark e es [])) ∙ is) (at_expressions e es refl)
has_class (fo.Tagged n x xs) c is = subst (FormAt (fo.Tagged n x xs)) (is) (at_tagged n x xs refl)

pub form_at : (form : Form) (tokens : List Token) (c : Class) → tokens ≡ form_tokens form → class_of tokens ≡ c → FormAt form c
form_at form tokens c e is = has_class form c (sym (ap class_of e) ∙ is)

-- a class of one form alone
abbrev pub IsAlone : Class → Form → Type 0
IsAlone c form = (x : Form) → FormAt x c → x ≡ form

pub skip_alone : IsAlone cl.Skip (fo.Action ac.Skip)
skip_alone x (at_skip q) = q

pub stop_alone : IsAlone cl.Stop (fo.Action ac.Stop)
stop_alone x (at_stop q) = q

pub else_alone : IsAlone cl.Else (fo.Part pa.Else)
else_alone x (at_else q) = q

pub value_of_alone : IsAlone cl.ValueOf (fo.Part pa.ValueOf)
value_of_alone x (at_value_of q) = q

pub record_alone : IsAlone cl.Record (fo.Part pa.Record)
record_alone x (at_record q) = q

pub packed_record_alone : IsAlone cl.PackedRecord (fo.Part pa.PackedRecord)
packed_record_alone x (at_packed_record q) = q

pub alone_line : (tokens : List Token) (c : Class) (form : Form) (r : Option Form) → class_of tokens ≡ c → IsAlone c form
    → MatchOption r (tokens ≢ form_tokens form) (λ found. (found ≡ form) × (tokens ≡ form_tokens form)) → IsFormOf tokens r
alone_line tokens c form None is one none = record { found = tt; only = λ x e. absurd (none (e ∙ ap form_tokens (one x (form_at x tokens c e is)))) }
alone_line tokens c form (Some found) is one (same, spelled) = record {
  found = spelled ∙ ap form_tokens (sym same);
  only = λ x e. ap (λ (y : Form). Some y) (same ∙ sym (one x (form_at x tokens c e is)));
}

-- what a reader of a class answers for a form of it
abbrev pub Finds : List Token → Option Form → Type 0
Finds tokens answer = IfSome answer (λ form. tokens ≡ form_tokens form)

abbrev pub Answers : List Token → Option Form → Form → Type 0
Answers tokens answer form = tokens ≡ form_tokens form → answer ≡ Some form

pub assignment_line : (tokens : List Token) (result : Result (Option Form) AllocError) → class_of tokens ≡ cl.Assignment → IfOk result (Finds tokens)
    → IfOk result (λ answer. (el : Element) (els : List Element) (e1 : Expr) (es : List Expr) → Answers tokens answer (fo.Action (ac.Assignment el els e1 es)))
    → IfOk result (IsFormOf tokens)
assignment_line tokens (Err _) is found only = tt
assignment_line tokens (Ok answer) is found only = record { found = found; only = λ x e. by x e (form_at x tokens cl.Assignment e is) } where
  by : (x : Form) → tokens ≡ form_tokens x → FormAt x cl.Assignment → answer ≡ Some x
  by x e (at_assignment el els e1 es q) = only el els e1 es (e ∙ ap form_tokens q) ∙ ap (λ (y : Form). Some y) (sym q)

pub output_line : (tokens : List Token) (result : Result (Option Form) AllocError) → class_of tokens ≡ cl.Output → IfOk result (Finds tokens)
    → IfOk result (λ answer. (el : Element) (y : OutputItem) (ys : List OutputItem) → Answers tokens answer (fo.Action (ac.Output el y ys)))
    → IfOk result (IsFormOf tokens)
output_line tokens (Err _) is found only = tt
output_line tokens (Ok answer) is found only = record { found = found; only = λ x e. by x e (form_at x tokens cl.Output e is) } where
  by : (x : Form) → tokens ≡ form_tokens x → FormAt x cl.Output → answer ≡ Some x
  by x e (at_output el y ys q) = only el y ys (e ∙ ap form_tokens q) ∙ ap (λ (y : Form). Some y) (sym q)

pub input_line : (tokens : List Token) (result : Result (Option Form) AllocError) → class_of tokens ≡ cl.Input → IfOk result (Finds tokens)
    → IfOk result (λ answer. (input : Input) → Answers tokens answer (fo.Action (ac.Input input)))
    → IfOk result (λ answer. (el : Element) → Answers tokens answer (fo.Construct (co.CaseInput el)))
    → IfOk result (IsFormOf tokens)
input_line tokens (Err _) is found only1 only2 = tt
input_line tokens (Ok answer) is found only1 only2 = record { found = found; only = λ x e. by x e (form_at x tokens cl.Input e is) } where
  by : (x : Form) → tokens ≡ form_tokens x → FormAt x cl.Input → answer ≡ Some x
  by x e (at_input input q) = only1 input (e ∙ ap form_tokens q) ∙ ap (λ (y : Form). Some y) (sym q)
  by x e (at_case_input el q) = only2 el (e ∙ ap form_tokens q) ∙ ap (λ (y : Form). Some y) (sym q)

pub replicable_line : (tokens : List Token) (result : Result (Option Form) AllocError) → class_of tokens ≡ cl.Replicable → IfOk result (Finds tokens)
    → IfOk result (λ answer. (kind : ConstructKind) (r : Option Replicator) → Answers tokens answer (fo.Construct (co.Replicable kind r)))
    → IfOk result (IsFormOf tokens)
replicable_line tokens (Err _) is found only = tt
replicable_line tokens (Ok answer) is found only = record { found = found; only = λ x e. by x e (form_at x tokens cl.Replicable e is) } where
  by : (x : Form) → tokens ≡ form_tokens x → FormAt x cl.Replicable → answer ≡ Some x
  by x e (at_replicable kind r q) = only kind r (e ∙ ap form_tokens q) ∙ ap (λ (y : Form). Some y) (sym q)

pub while_line : (tokens : List Token) (result : Result (Option Form) AllocError) → class_of tokens ≡ cl.While → IfOk result (Finds tokens)
    → IfOk result (λ answer. (e1 : Expr) → Answers tokens answer (fo.Construct (co.While e1)))
    → IfOk result (IsFormOf tokens)
while_line tokens (Err _) is found only = tt
while_line tokens (Ok answer) is found only = record { found = found; only = λ x e. by x e (form_at x tokens cl.While e is) } where
  by : (x : Form) → tokens ≡ form_tokens x → FormAt x cl.While → answer ≡ Some x
  by x e (at_while e1 q) = only e1 (e ∙ ap form_tokens q) ∙ ap (λ (y : Form). Some y) (sym q)

pub case_line : (tokens : List Token) (result : Result (Option Form) AllocError) → class_of tokens ≡ cl.Case → IfOk result (Finds tokens)
    → IfOk result (λ answer. Answers tokens answer (fo.Part pa.Case))
    → IfOk result (λ answer. (e1 : Expr) → Answers tokens answer (fo.Construct (co.Case e1)))
    → IfOk result (IsFormOf tokens)
case_line tokens (Err _) is found only1 only2 = tt
case_line tokens (Ok answer) is found only1 only2 = record { found = found; only = λ x e. by x e (form_at x tokens cl.Case e is) } where
  by : (x : Form) → tokens ≡ form_tokens x → FormAt x cl.Case → answer ≡ Some x
  by x e (at_case_alone q) = only1 (e ∙ ap form_tokens q) ∙ ap (λ (y : Form). Some y) (sym q)
  by x e (at_case e1 q) = only2 e1 (e ∙ ap form_tokens q) ∙ ap (λ (y : Form). Some y) (sym q)

pub result_line : (tokens : List Token) (result : Result (Option Form) AllocError) → class_of tokens ≡ cl.Result → IfOk result (Finds tokens)
    → IfOk result (λ answer. (e1 : Expr) (es : List Expr) → Answers tokens answer (fo.Part (pa.Result e1 es)))
    → IfOk result (IsFormOf tokens)
result_line tokens (Err _) is found only = tt
result_line tokens (Ok answer) is found only = record { found = found; only = λ x e. by x e (form_at x tokens cl.Result e is) } where
  by : (x : Form) → tokens ≡ form_tokens x → FormAt x cl.Result → answer ≡ Some x
  by x e (at_result e1 es q) = only e1 es (e ∙ ap form_tokens q) ∙ ap (λ (y : Form). Some y) (sym q)

pub guard_line : (tokens : List Token) (result : Result (Option Form) AllocError) → class_of tokens ≡ cl.Guard → IfOk result (Finds tokens)
    → IfOk result (λ answer. (e1 : Expr) (guarded : Guarded) → Answers tokens answer (fo.Part (pa.Guard e1 guarded)))
    → IfOk result (IsFormOf tokens)
guard_line tokens (Err _) is found only = tt
guard_line tokens (Ok answer) is found only = record { found = found; only = λ x e. by x e (form_at x tokens cl.Guard e is) } where
  by : (x : Form) → tokens ≡ form_tokens x → FormAt x cl.Guard → answer ≡ Some x
  by x e (at_guard e1 guarded q) = only e1 guarded (e ∙ ap form_tokens q) ∙ ap (λ (y : Form). Some y) (sym q)

pub expressions_line : (tokens : List Token) (result : Result (Option Form) AllocError) → class_of tokens ≡ cl.Expressions → IfOk result (Finds tokens)
    → IfOk result (λ answer. (e1 : Expr) (es : List Expr) → Answers tokens answer (fo.Expressions e1 es))
    → IfOk result (IsFormOf tokens)
expressions_line tokens (Err _) is found only = tt
expressions_line tokens (Ok answer) is found only = record { found = found; only = λ x e. by x e (form_at x tokens cl.Expressions e is) } where
  by : (x : Form) → tokens ≡ form_tokens x → FormAt x cl.Expressions → answer ≡ Some x
  by x e (at_expressions e1 es q) = only e1 es (e ∙ ap form_tokens q) ∙ ap (λ (y : Form). Some y) (sym q)

pub tagged_line : (tokens : List Token) (result : Result (Option Form) AllocError) → class_of tokens ≡ cl.Tagged → IfOk result (Finds tokens)
    → IfOk result (λ answer. (n : List ℕ) (y : Detail) (ys : List Detail) → Answers tokens answer (fo.Tagged n y ys))
    → IfOk result (IsFormOf tokens)
tagged_line tokens (Err _) is found only = tt
tagged_line tokens (Ok answer) is found only = record { found = found; only = λ x e. by x e (form_at x tokens cl.Tagged e is) } where
  by : (x : Form) → tokens ≡ form_tokens x → FormAt x cl.Tagged → answer ≡ Some x
  by x e (at_tagged n y ys q) = only n y ys (e ∙ ap form_tokens q) ∙ ap (λ (y : Form). Some y) (sym q)

pub close_line : (tokens : List Token) (result : Result (Option Form) AllocError) → class_of tokens ≡ cl.Close → IfOk result (Finds tokens)
    → IfOk result (λ answer. Answers tokens answer fo.Close)
    → IfOk result (λ answer. (y : Specified) → Answers tokens answer (fo.Specified y))
    → IfOk result (IsFormOf tokens)
close_line tokens (Err _) is found close only = tt
close_line tokens (Ok answer) is found close only = record { found = found; only = λ x e. by x e (form_at x tokens cl.Close e is) } where
  by : (x : Form) → tokens ≡ form_tokens x → FormAt x cl.Close → answer ≡ Some x
  by x e (at_close q) = close (e ∙ ap form_tokens q) ∙ ap (λ (y : Form). Some y) (sym q)
  by x e (at_declaration y q) = only y (e ∙ ap form_tokens q) ∙ ap (λ (z : Form). Some z) (sym q)

pub specified_line : (tokens : List Token) (result : Result (Option Form) AllocError) → class_of tokens ≡ cl.Other → IfOk result (Finds tokens)
    → IfOk result (λ answer. (y : Specified) → Answers tokens answer (fo.Specified y))
    → IfOk result (IsFormOf tokens)
specified_line tokens (Err _) is found only = tt
specified_line tokens (Ok answer) is found only = record { found = found; only = λ x e. by x e (form_at x tokens cl.Other e is) } where
  by : (x : Form) → tokens ≡ form_tokens x → FormAt x cl.Other → answer ≡ Some x
  by x e (at_specified y q) = only y (e ∙ ap form_tokens q) ∙ ap (λ (z : Form). Some z) (sym q)

-- a line that specifies something is longer than one token
function_some : (inlined : Inlined) (k : List Token) → 0 < length (inlined_then inlined (t.Word w.Function ∷ k))
function_some nl.No k = omega arith
function_some nl.Yes k = omega arith

types_some : (forms : List TypeForm) (k : List Token) → 0 < length k → 0 < length (many (next s.Comma type_form_then) forms k)
types_some [] k some = some
types_some (form ∷ forms) k some = omega arith

type_no_close : (form : TypeForm) (k : List Token) → 0 < length k → type_form_then form k ≡ t.Symbol s.Colon ∷ [] → ⊥
type_no_close form k some e = absurd (omega (arith, some, (inner_type_form form).grows k, ap (λ (z : List Token). length z) e))

pub specified_no_close : (x : Specified) → specified_tokens x ≡ t.Symbol s.Colon ∷ [] → ⊥
specified_no_close (sd.Line (sp.Declaration form n ns)) e = type_no_close form _ (omega arith) e
specified_no_close (sd.Line (sp.Abbreviation None n el)) e = absurd cc
specified_no_close (sd.Line (sp.Abbreviation (Some form) n el)) e = type_no_close form _ (omega arith) e
specified_no_close (sd.Line (sp.Value form n x)) e = absurd cc
specified_no_close (sd.Line (sp.Retyped recast form n el)) e = type_no_close form _ (omega arith) e
specified_no_close (sd.Line (sp.RetypedValue recast form n x)) e = absurd cc
specified_no_close (sd.Line (sp.Protocol n item more)) e = absurd cc
specified_no_close (sd.Line (sp.DataType n form)) e = absurd cc
specified_no_close (sd.Line (sp.Function head x more)) e = type_no_close head.first _ (types_some head.more _ (function_some head.inlined _)) e
specified_no_close (sd.Head (he.Procedure nl.No n gs)) e = absurd cc
specified_no_close (sd.Head (he.Procedure nl.Yes n gs)) e = absurd cc
specified_no_close (sd.Head (he.Function head)) e = type_no_close head.first _ (types_some head.more _ (function_some head.inlined _)) e
specified_no_close (sd.Head (he.Protocol n)) e = absurd cc
specified_no_close (sd.Head (he.DataType n)) e = absurd cc
