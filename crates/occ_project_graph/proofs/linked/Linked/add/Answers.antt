use Rattle.std.proofs.Common.{◌≡◌, ◌∙◌, ◌≤◌, ◌++◌, ◌∷◌, ℕ, List, [], ap, arith, get_or, length, map, refl, subst, sym, true}
use Rattle.std.specs.List.{insert}
use Rattle.occ_project_graph.specs.Adding.{raised}
use Rattle.occ_project_graph.specs.Graph.{Graph, is_among}
use Rattle.occ_project_graph.specs.inside.Linking.{others, rests_kept, with_rows}
use Rattle.occ_project_graph.specs.inside.Numbering.{AreSourceRows, IsNumbered}
use Rattle.occ_project_graph.proofs.Numbered.{by_long}
use Rattle.occ_project_graph.proofs.Pushed.{leading, linked_still}
use Rattle.occ_project_graph.proofs.Renumbered.{add_few, add_linked, add_view}
use Rattle.occ_project_graph.proofs.linked.Linked.add.Goals as goal

pub insert_node-requires-clause-numbered : goal.insert_node-requires-clause-numbered
insert_node-requires-clause-numbered c =
    subst (λ (ns : List ℕ). IsNumbered ns c.reserve-2.new.self.items) (sym c.reserve.ensures.items) (subst (IsNumbered c.self.inside.numbers.items) (sym c.reserve-2.ensures.items) c.self.invariant.numbered)

pub invariant_of-self-in-Err : goal.invariant_of-self-in-Err
invariant_of-self-in-Err c =
    let edges : Graph = c.self.inside.edges.items in
    let turned : Graph = c.self.inside.sources.items in
    let before : c.as_slice-5.result.now ≡ edges = c.as_slice-5.ensures.value ∙ c.reserve-3.ensures.items in
    let k_is : rests_kept c.reserve-3.new.self.items c.make_ready-ready.new.rests ≡ rests_kept edges c.self.inside.rests =
    ap (λ (g : Graph). rests_kept g c.make_ready-ready.new.rests) (c.reserve-3.ensures.items ∙ sym before)
    ∙ c.in-Err.ensures.err
    ∙ ap (λ (g : Graph). rests_kept g c.self.inside.rests) before in
    let led = leading c.as_slice-3.result.now c.args.at c.len-number.result c.as_slice-4.result.now c.as_slice-in-Err.result.now turned c.lead.new.sources.items c.make_ready-ready.new.sources.items c.in_ok-found.found (c.as_slice-4.ensures ∙ sym c.as_slice-in-Err.ensures) c.make_ready-ready.ensures.same c.in_ok-found.ensures.ok in
    linked_still c.self.inside.numbers.items c.self.inside.indices.items edges (rests_kept edges c.self.inside.rests) turned
    c.reserve.new.self.items c.reserve-2.new.self.items c.reserve-3.new.self.items (rests_kept c.reserve-3.new.self.items c.make_ready-ready.new.rests) c.lead_no_more.new.sources.items
    c.self.invariant c.reserve.ensures.items c.reserve-2.ensures.items c.reserve-3.ensures.items k_is (c.lead_no_more.ensures c.as_slice-3.result.now c.args.at c.len-number.result turned led)

pub invariant_of-self-2 : goal.invariant_of-self-2
invariant_of-self-2 c =
    let numbers : List ℕ = c.self.inside.numbers.items in
    let indices : List ℕ = c.self.inside.indices.items in
    let edges : Graph = c.self.inside.edges.items in
    let turned : Graph = c.self.inside.sources.items in
    let kept : Graph = rests_kept edges c.self.inside.rests in
    let at : ℕ = c.args.at in
    let row : List ℕ = c.in_ok-row.row in
    let targets : List ℕ = c.args.targets in
    let long : length c.args.self.now ≡ length numbers = ap (length {A = List ℕ}) (sym c.self.view_is) ∙ by_long numbers indices edges in
    let index = c.requires.index in
    let h : at ≤ length numbers = omega (arith, index, long) in
    let within : (v : ℕ) → is_among targets v ≡ true → v ≤ length numbers = λ v k. let le = c.requires.within v k in omega (arith, le, long) in
    let number : c.len-number.result ≡ length numbers = c.len-number.ensures ∙ c.self.inside.numbers.ok.0 in
    let row_is : row ≡ map (λ (p : ℕ). get_or (insert numbers at (length numbers)) p 0) targets =
    c.in_ok-row.ensures
    ∙ ap (λ (ns : List ℕ). map (λ (p : ℕ). get_or (insert ns at (length ns)) p 0) c.as_slice-2.result.now) c.as_slice.ensures.value
    ∙ ap (map (λ (p : ℕ). get_or (insert numbers at (length numbers)) p 0)) c.as_slice-2.ensures in
    let led = c.put_found.ensures c.as_slice-3.result.now at c.len-number.result turned c.lead.new.sources.items
    (leading c.as_slice-3.result.now at c.len-number.result c.as_slice-4.result.now c.as_slice-7.result.now turned c.lead.new.sources.items c.lead.new.sources.items c.in_ok-found.found (c.as_slice-4.ensures ∙ sym c.as_slice-7.ensures) refl c.in_ok-found.ensures.ok)
    (c.push_within.ensures ∙ ap (λ (ws : List ℕ). c.make_ready-ready.new.sources.items ++ ws ∷ []) c.new.ensures ∙ ap (λ (g : Graph). g ++ [] ∷ []) c.make_ready-ready.ensures.same) in
    let found = subst (λ (ws : List ℕ). AreSourceRows indices turned at (length numbers) ws ws led.found) c.as_slice-7.ensures
    (subst (λ (n : ℕ). AreSourceRows indices turned at n c.as_slice-7.result.now c.as_slice-7.result.now led.found) number
    (subst (λ (is : List ℕ). AreSourceRows is turned at c.len-number.result c.as_slice-7.result.now c.as_slice-7.result.now led.found) (c.as_slice-3.ensures.value ∙ c.reserve-2.ensures.items) led.are)) in
    let e_is : c.push_within-2.new.items.items ≡ edges ++ row ∷ [] = c.push_within-2.ensures ∙ ap (λ (g : Graph). g ++ row ∷ []) c.reserve-3.ensures.items in
    let before : c.as_slice-5.result.now ≡ edges = c.as_slice-5.ensures.value ∙ c.reserve-3.ensures.items in
    let k_is : rests_kept c.push_within-2.new.items.items c.make_ready-ready.new.rests ≡ kept ++ others (length numbers) row ∷ [] =
    ap (λ (g : Graph). rests_kept g c.make_ready-ready.new.rests) (e_is ∙ ap (λ (g : Graph). g ++ row ∷ []) (sym before) ∙ ap (λ (ws : List ℕ). c.as_slice-5.result.now ++ ws ∷ []) (sym c.as_slice-6.ensures))
    ∙ c.in_default.ensures.ok
    ∙ ap (λ (g : Graph). rests_kept g c.self.inside.rests ++ others c.len-number.result c.as_slice-6.result.now ∷ []) before
    ∙ ap (λ (ws : List ℕ). kept ++ others c.len-number.result ws ∷ []) c.as_slice-6.ensures
    ∙ ap (λ (n : ℕ). kept ++ others n row ∷ []) number in
    let t_is : c.put_found.new.sources.items ≡ with_rows (turned ++ [] ∷ []) row led.found = led.is ∙ ap (λ (ws : List ℕ). with_rows (turned ++ [] ∷ []) ws led.found) c.as_slice-7.ensures in
    add_linked numbers indices edges kept turned c.self.invariant at h row (add_few numbers indices c.self.invariant.numbered at h row targets row_is within) led.found found
    c.insert_node.new.numbers.items c.insert_node.new.indices.items c.push_within-2.new.items.items (rests_kept c.push_within-2.new.items.items c.make_ready-ready.new.rests) c.put_found.new.sources.items
    (c.insert_node.ensures.numbers ∙ ap (λ (ns : List ℕ). insert ns at (length ns)) c.reserve.ensures.items)
    (c.insert_node.ensures.indices ∙ ap (λ (is : List ℕ). map (raised at) is ++ at ∷ []) c.reserve-2.ensures.items)
    e_is k_is t_is

pub returns-clause-ok : goal.returns-clause-ok
returns-clause-ok c =
    let numbers : List ℕ = c.self.inside.numbers.items in
    let indices : List ℕ = c.self.inside.indices.items in
    let edges : Graph = c.self.inside.edges.items in
    let at : ℕ = c.args.at in
    let row : List ℕ = c.in_ok-row.row in
    let targets : List ℕ = c.args.targets in
    let long : length c.args.self.now ≡ length numbers = ap (length {A = List ℕ}) (sym c.self.view_is) ∙ by_long numbers indices edges in
    let index = c.requires.index in
    let h : at ≤ length numbers = omega (arith, index, long) in
    let row_is : row ≡ map (λ (p : ℕ). get_or (insert numbers at (length numbers)) p 0) targets =
    c.in_ok-row.ensures
    ∙ ap (λ (ns : List ℕ). map (λ (p : ℕ). get_or (insert ns at (length ns)) p 0) c.as_slice-2.result.now) c.as_slice.ensures.value
    ∙ ap (map (λ (p : ℕ). get_or (insert numbers at (length numbers)) p 0)) c.as_slice-2.ensures in
    add_view numbers indices edges (rests_kept edges c.self.inside.rests) c.self.inside.sources.items c.args.self.now c.self.invariant at h row targets c.self.view_is row_is (λ v k. let le = c.requires.within v k in omega (arith, le, long))
    c.insert_node.new.numbers.items c.insert_node.new.indices.items c.push_within-2.new.items.items
    (c.insert_node.ensures.numbers ∙ ap (λ (ns : List ℕ). insert ns at (length ns)) c.reserve.ensures.items)
    (c.insert_node.ensures.indices ∙ ap (λ (is : List ℕ). map (raised at) is ++ at ∷ []) c.reserve-2.ensures.items)
    (c.push_within-2.ensures ∙ ap (λ (g : Graph). g ++ row ∷ []) c.reserve-3.ensures.items)
