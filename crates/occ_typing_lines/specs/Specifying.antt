-- Specifications: of one line, and heads.
use Rattle.std.specs.Prelude.{ℕ, Bool, true, false, Some, List, [], ◌∷◌, ◌++◌}
use Rattle.occ_typing_specifications.specs.Declaring.{declaration}
use Rattle.occ_typing_specifications.specs.Defining.{data_type}
use Rattle.occ_typing_specifications.specs.Entering.{Declared}
use Rattle.occ_typing_specifications.specs.Abbreviating.{abbreviation}
use Rattle.occ_typing_specifications.specs.Recasting.{recast_element, recast_value, source_tree}
use Rattle.occ_expr_operations.specs.Views.{element_view}
use Rattle.occ_typing_specifications.specs.Recording.{recorded}
use Rattle.occ_typing_specifications.specs.Valuing.{value, value_tree}
use Rattle.occ_forms_expressions.specs.declared.tree.Expr.{Expr}
use Rattle.occ_typing_specifications.specs.Heads.{Headed, function, procedure}
use Rattle.occ_scope.specs.Visible.{with_all}
use Rattle.occ_scope.specs.declared.meaning.ScopeEntry.{ScopeEntry}
use Rattle.occ_scope.specs.declared.meaning.Meaning.{Meaning}
use Rattle.occ_scope.specs.declared.meaning.Meaning.TheVariants as m
use Rattle.occ_scope.specs.declared.scope.Scope.{Scope}
use Rattle.occ_base.specs.declared.fault.Fault.{Fault}
use Rattle.occ_typing_statements.specs.Statements.{is_any_faulty}
use Rattle.occ_forms.specs.declared.specification_tree.FunctionHead.{FunctionHead}
use Rattle.occ_forms.specs.declared.specification_tree.Head.{Head}
use Rattle.occ_forms.specs.declared.specification_tree.Head.TheVariants as head
use Rattle.occ_forms.specs.declared.specification_tree.Specification.{Specification}
use Rattle.occ_forms.specs.declared.specification_tree.Specification.TheVariants as specification
use Rattle.occ_tree.specs.Forest.{Forest}
use Rattle.occ_typing_rules.specs.declared.expr.TypedExpr.{TypedExpr}
use Rattle.occ_typing_lines.specs.Lines.{Judged, Own, body_of, made, specifying, with_role}
use Rattle.occ_typing_lines.specs.Protocols.{TagLines, protocol_of}
use Rattle.occ_typing_lines.specs.Parts.{results_in, results_of}
use Rattle.occ_typing_lines.specs.declared.tree.TypedForm.{TypedForm}
use Rattle.occ_typing_lines.specs.declared.tree.TypedForm.TheVariants as t
use Rattle.occ_typing_lines.specs.Records.{Recorded, record_of}
use Rattle.occ_typing_lines.specs.declared.parent.Parent.{Parent}
use Rattle.occ_typing_lines.specs.declared.parent.Role.TheVariants as role
use Rattle.occ_typing_specifications.specs.Protocols.{protocol, tagged_protocol}

-- nothing is known of the name of a line that reports something, or has an expression that is faulty
abbrev pub known_unless : List Fault → Bool → Meaning → Meaning
known_unless [] false meaning = meaning
known_unless [] true meaning = m.Faulty
known_unless (fault ∷ faults) faulty meaning = m.Faulty

abbrev pub named : List ℕ → Meaning → List ScopeEntry
named name meaning = (record { name = name; meaning = meaning }) ∷ []

-- `t, .. FUNCTION n (formals) IS e, ..:`: its formals are judged by its head alone, and it by its whole line
unfoldable pub function_faults : Scope → Headed → List Expr → List Fault
function_faults s h es = h.faults ++ results_of (with_all s h.heading.formals) h.heading.results es

unfoldable pub function_meaning : Scope → Headed → List Expr → Meaning
function_meaning s h es = known_unless (function_faults s h es) (is_any_faulty (with_all s h.heading.formals) es) h.heading.meaning

abbrev pub one_line_function : List ScopeEntry → List TypedExpr → TypedForm
one_line_function formals ts = t.OneLineFunction formals ts

unfoldable pub function_form : Scope → Headed → List Expr → TypedForm
function_form s h es = made (one_line_function h.heading.formals) (results_in (with_all s h.heading.formals) h.heading.results es)

abbrev pub function_line : Scope → FunctionHead → List Expr → Parent → Own
function_line s head es next =
    let h = function s head in
    specifying (function_faults s h es) (named head.name (function_meaning s h es)) (function_form s h es) next

abbrev pub declared_line : Declared → TypedForm → Parent → Own
declared_line x form next = specifying x.faults x.adds form next

abbrev pub one_line : Scope → Specification → Parent → Own
one_line s (specification.Declaration of first more) next = declared_line (declaration s of first more) t.Declaration next
one_line s (specification.Value of name e) next = declared_line (value s of name e) (made t.Value (value_tree s of e)) next
one_line s (specification.DataType name of) next = declared_line (data_type s name of) t.DataType next
one_line s (specification.Function head e es) next = function_line s head (e ∷ es) next
one_line s (specification.Abbreviation of name el) next = declared_line (abbreviation s of name el) (made t.Abbreviation ((element_view el).tree s)) next
one_line s (specification.Retyped how of name el) next = declared_line (recast_element s how of name el) (made t.Retyped ((element_view el).tree s)) next
one_line s (specification.RetypedValue how of name e) next = declared_line (recast_value s how of name e) (made t.RetypedValue (source_tree s e)) next
one_line s (specification.Protocol name item items) next = declared_line (protocol s name (item ∷ items)) t.Protocol next

-- a PROC or a FUNCTION, which says this of the lines of its body
abbrev pub headed : List ℕ → Headed → Parent → TypedForm → Parent → Judged
headed name x under form next =
    record {
      faults = x.faults;
      beneath = [];
      line = record { parent = under; enters = x.heading.formals; next = next; adds = Some (named name x.heading.meaning); form = form };
    }

abbrev pub function_head : FunctionHead → Headed → Parent → Judged
function_head head x next = headed head.name x (body_of (role.Function x.heading.results)) t.FunctionHead next

-- the type of a record is judged whole at its head, and its lines with it
abbrev pub record_head : List ℕ → Recorded → Parent → Judged
record_head name r next =
    let x = recorded name r.packing r.fields.fields in
    record {
      faults = x.faults;
      beneath = r.fields.diags;
      line = record { parent = with_role role.Members next; enters = []; next = next; adds = Some (named name x.meaning); form = t.RecordHead };
    }

-- a protocol likewise
abbrev pub protocol_head : List ℕ → TagLines → Parent → Judged
protocol_head name r next =
    let x = tagged_protocol name r.tags in
    record {
      faults = x.faults;
      beneath = r.diags;
      line = record { parent = with_role role.Members next; enters = []; next = next; adds = Some (named name x.meaning); form = t.ProtocolHead };
    }

abbrev pub heading : Scope → Head → Forest → Parent → Judged
heading s (head.Procedure inlined name formals) under next = headed name (procedure s formals) (body_of role.Process) t.ProcedureHead next
heading s (head.Function h) under next = function_head h (function s h) next
heading s (head.Protocol name) under next = protocol_head name (protocol_of s under) next
heading s (head.DataType name) under next = record_head name (record_of s under) next
