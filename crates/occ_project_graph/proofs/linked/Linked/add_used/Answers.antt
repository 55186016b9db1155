use Rattle.std.proofs.Common.{◌≡◌, ◌∙◌, ◌≤◌, ◌++◌, ◌∷◌, ℕ, Bool, List, [], ap, arith, length, map, subst, sym}
use Rattle.std.specs.List.{insert}
use Rattle.occ_project_graph.specs.Adding.{IsParted, raised}
use Rattle.occ_project_graph.specs.Graph.{Graph, targets}
use Rattle.occ_project_graph.specs.inside.Linking.{AreLed, AreLedRests, AreLedRows, marked, rests_kept, with_rows}
use Rattle.occ_project_graph.specs.inside.Numbering.{IsNumbered}
use Rattle.occ_project_graph.proofs.Led.{led_are, led_kept, used_linked, used_view}
use Rattle.occ_project_graph.proofs.Numbered.{by_long}
use Rattle.occ_project_graph.proofs.linked.Linked.add_used.Goals as goal

pub insert_node-requires-clause-numbered : goal.insert_node-requires-clause-numbered
insert_node-requires-clause-numbered c =
    subst (λ (ns : List ℕ). IsNumbered ns c.reserve-2.new.self.items) (sym c.reserve.ensures.items) (subst (IsNumbered c.self.inside.numbers.items) (sym c.reserve-2.ensures.items) c.self.invariant.numbered)

pub put_rows-requires : goal.put_rows-requires
put_rows-requires c = c.in_ok-found.ensures.len ∙ ap (length {A = ℕ}) (c.as_slice-4.ensures ∙ sym c.as_slice-7.ensures)

pub invariant_of-self-2 : goal.invariant_of-self-2
invariant_of-self-2 c =
    let numbers : List ℕ = c.self.inside.numbers.items in
    let indices : List ℕ = c.self.inside.indices.items in
    let edges : Graph = c.self.inside.edges.items in
    let turned : Graph = c.self.inside.sources.items in
    let marks : List Bool = c.args.marks.now in
    let nodes : List ℕ = c.in_ok-users.users in
    let at : ℕ = c.args.at in
    let long : length c.args.self.now ≡ length numbers = ap (length {A = List ℕ}) (sym c.self.view_is) ∙ by_long numbers indices edges in
    let index = c.requires.index in
    let h : at ≤ length numbers = omega (arith, index, long) in
    let number : c.len-number.result ≡ length numbers = c.len-number.ensures ∙ c.self.inside.numbers.ok.0 in
    let users : nodes ≡ marked numbers marks = c.in_ok-users.ensures ∙ ap (λ (ns : List ℕ). marked ns marks) c.as_slice.ensures.value in
    let found : AreLed indices at (length numbers) edges nodes c.in_ok-found.found =
    subst (λ (n : ℕ). AreLed indices at n edges nodes c.in_ok-found.found) number
    (subst (λ (ns : List ℕ). AreLed indices at c.len-number.result edges ns c.in_ok-found.found) c.as_slice-4.ensures
    (subst (λ (g : Graph). AreLed indices at c.len-number.result g c.as_slice-4.result.now c.in_ok-found.found) c.as_slice-3.ensures.value
    (subst (λ (is : List ℕ). AreLed is at c.len-number.result c.as_slice-3.result.now c.as_slice-4.result.now c.in_ok-found.found) c.as_slice-2.ensures.value c.in_ok-found.ensures))) in
    let rows : c.put_rows.new.rows.items ≡ with_rows (edges ++ [] ∷ []) nodes c.in_ok-found.found =
    c.put_rows.ensures
    ∙ ap (λ (ws : List ℕ). with_rows c.push_within.new.items.items ws c.in_ok-found.found) c.as_slice-7.ensures
    ∙ ap (λ (g : Graph). with_rows g nodes c.in_ok-found.found) (c.push_within.ensures ∙ ap (λ (ws : List ℕ). c.reserve-3.new.self.items ++ ws ∷ []) c.new.ensures ∙ ap (λ (g : Graph). g ++ [] ∷ []) c.reserve-3.ensures.items) in
    let are : AreLedRows indices marks at (length numbers) edges c.put_rows.new.rows.items =
    led_are numbers indices marks at (length numbers) nodes edges c.put_rows.new.rows.items c.self.invariant.numbered c.self.invariant.edges_over.len users (record { found = c.in_ok-found.found; are = found; is = rows }) in
    let rests : AreLedRests indices at (length numbers) nodes c.self.inside.rests c.lead_rests.new.rests =
    subst (λ (n : ℕ). AreLedRests indices at n nodes c.self.inside.rests c.lead_rests.new.rests) number
    (subst (λ (ns : List ℕ). AreLedRests indices at c.len-number.result ns c.self.inside.rests c.lead_rests.new.rests) c.as_slice-6.ensures
    (subst (λ (is : List ℕ). AreLedRests is at c.len-number.result c.as_slice-6.result.now c.self.inside.rests c.lead_rests.new.rests) (c.as_slice-5.ensures.value ∙ c.reserve-2.ensures.items) c.in_ok-lead_rests.ensures.ok)) in
    used_linked numbers indices edges (rests_kept edges c.self.inside.rests) turned c.self.invariant at h marks (λ u m. subst (λ (g : Graph). IsParted at (targets g u)) (sym c.self.view_is) (c.requires.parted u m))
    c.put_rows.new.rows.items (rests_kept c.put_rows.new.rows.items c.lead_rests.new.rests) are
    (led_kept numbers indices marks at (length numbers) nodes edges c.put_rows.new.rows.items c.self.inside.rests c.lead_rests.new.rests c.self.invariant.numbered c.self.invariant.rests_over.len users are rests)
    c.insert_node.new.numbers.items c.insert_node.new.indices.items c.push_within-2.new.items.items
    (c.insert_node.ensures.numbers ∙ ap (λ (ns : List ℕ). insert ns at (length ns)) c.reserve.ensures.items)
    (c.insert_node.ensures.indices ∙ ap (λ (is : List ℕ). map (raised at) is ++ at ∷ []) c.reserve-2.ensures.items)
    (c.push_within-2.ensures ∙ ap (λ (g : Graph). g ++ nodes ∷ []) c.reserve-4.ensures.items ∙ ap (λ (ws : List ℕ). turned ++ ws ∷ []) users)

pub returns-clause-ok : goal.returns-clause-ok
returns-clause-ok c =
    let numbers : List ℕ = c.self.inside.numbers.items in
    let indices : List ℕ = c.self.inside.indices.items in
    let edges : Graph = c.self.inside.edges.items in
    let turned : Graph = c.self.inside.sources.items in
    let marks : List Bool = c.args.marks.now in
    let nodes : List ℕ = c.in_ok-users.users in
    let at : ℕ = c.args.at in
    let long : length c.args.self.now ≡ length numbers = ap (length {A = List ℕ}) (sym c.self.view_is) ∙ by_long numbers indices edges in
    let index = c.requires.index in
    let h : at ≤ length numbers = omega (arith, index, long) in
    let number : c.len-number.result ≡ length numbers = c.len-number.ensures ∙ c.self.inside.numbers.ok.0 in
    let users : nodes ≡ marked numbers marks = c.in_ok-users.ensures ∙ ap (λ (ns : List ℕ). marked ns marks) c.as_slice.ensures.value in
    let found : AreLed indices at (length numbers) edges nodes c.in_ok-found.found =
    subst (λ (n : ℕ). AreLed indices at n edges nodes c.in_ok-found.found) number
    (subst (λ (ns : List ℕ). AreLed indices at c.len-number.result edges ns c.in_ok-found.found) c.as_slice-4.ensures
    (subst (λ (g : Graph). AreLed indices at c.len-number.result g c.as_slice-4.result.now c.in_ok-found.found) c.as_slice-3.ensures.value
    (subst (λ (is : List ℕ). AreLed is at c.len-number.result c.as_slice-3.result.now c.as_slice-4.result.now c.in_ok-found.found) c.as_slice-2.ensures.value c.in_ok-found.ensures))) in
    let rows : c.put_rows.new.rows.items ≡ with_rows (edges ++ [] ∷ []) nodes c.in_ok-found.found =
    c.put_rows.ensures
    ∙ ap (λ (ws : List ℕ). with_rows c.push_within.new.items.items ws c.in_ok-found.found) c.as_slice-7.ensures
    ∙ ap (λ (g : Graph). with_rows g nodes c.in_ok-found.found) (c.push_within.ensures ∙ ap (λ (ws : List ℕ). c.reserve-3.new.self.items ++ ws ∷ []) c.new.ensures ∙ ap (λ (g : Graph). g ++ [] ∷ []) c.reserve-3.ensures.items) in
    let are : AreLedRows indices marks at (length numbers) edges c.put_rows.new.rows.items =
    led_are numbers indices marks at (length numbers) nodes edges c.put_rows.new.rows.items c.self.invariant.numbered c.self.invariant.edges_over.len users (record { found = c.in_ok-found.found; are = found; is = rows }) in
    used_view numbers indices edges (rests_kept edges c.self.inside.rests) turned c.args.self.now c.self.invariant at h marks c.self.view_is (λ u m. subst (λ (g : Graph). IsParted at (targets g u)) (sym c.self.view_is) (c.requires.parted u m))
    c.put_rows.new.rows.items are c.insert_node.new.numbers.items c.insert_node.new.indices.items
    (c.insert_node.ensures.numbers ∙ ap (λ (ns : List ℕ). insert ns at (length ns)) c.reserve.ensures.items)
    (c.insert_node.ensures.indices ∙ ap (λ (is : List ℕ). map (raised at) is ++ at ∷ []) c.reserve-2.ensures.items)
