use Rattle.std.proofs.Common.{rules, ◌≡◌, ◌∙◌, ◌<◌, ◌++◌, [], ℕ, List, ap, arith, false, get_or, length, map, refl, subst, sym}
use Rattle.std.proofs.lemmas.List.{get_or_default}
use Rattle.std.specs.Prelude.{slice_set}
use Rattle.occ_project_graph.specs.Graph.{Graph, reaches, targets}
use Rattle.occ_project_graph.specs.inside.Leading.{later_rows}
use Rattle.occ_project_graph.specs.inside.Linking.{IsLinked, rests_kept, with_rows}
use Rattle.occ_project_graph.specs.inside.Numbering.{graph_by}
use Rattle.occ_project_graph.proofs.Elsewhere.{led_linked, led_view, set_back}
use Rattle.occ_project_graph.proofs.Numbered.{AreFew, by_long}
use Rattle.occ_project_graph.proofs.linked.Linked.lead_to.Goals as goal

pub invariant_of-self : goal.invariant_of-self
invariant_of-self c =
    let edges : Graph = c.self.inside.edges.items in
    let n : ℕ = c.index-number.result.now in
    let back : c.replaced-led.new.rows.items ≡ edges =
    c.replaced-led.ensures.rows
    ∙ ap (λ (g : Graph). slice_set g n c.replaced-before.result) c.replaced-before.ensures.rows
    ∙ ap (slice_set (slice_set edges n c.in_ok-led.led) n) c.replaced-before.ensures.before
    ∙ set_back edges n c.in_ok-led.led in
    subst (λ (g : Graph). IsLinked c.self.inside.numbers.items c.self.inside.indices.items g (rests_kept g c.self.inside.rests) c.self.inside.sources.items) (sym back) c.self.invariant

pub returns-in-Ok-true-clause-other : goal.returns-in-Ok-true-clause-other
returns-in-Ok-true-clause-other c = λ _.
    let edges : Graph = c.self.inside.edges.items in
    let n : ℕ = c.index-number.result.now in
    let back : c.replaced-led.new.rows.items ≡ edges =
    c.replaced-led.ensures.rows
    ∙ ap (λ (g : Graph). slice_set g n c.replaced-before.result) c.replaced-before.ensures.rows
    ∙ ap (slice_set (slice_set edges n c.in_ok-led.led) n) c.replaced-before.ensures.before
    ∙ set_back edges n c.in_ok-led.led in
    ap (graph_by c.self.inside.numbers.items c.self.inside.indices.items) back ∙ c.self.view_is

pub invariant_of-self-in-Ok-false : goal.invariant_of-self-in-Ok-false
invariant_of-self-in-Ok-false c =
    let numbers : List ℕ = c.self.inside.numbers.items in
    let indices : List ℕ = c.self.inside.indices.items in
    let edges : Graph = c.self.inside.edges.items in
    let turned : Graph = c.self.inside.sources.items in
    let kept : Graph = rests_kept edges c.self.inside.rests in
    let p : ℕ = c.args.node in
    let n : ℕ = c.index-number.result.now in
    let led : List ℕ = c.in_ok-led.led in
    let nodes : List ℕ = c.in_ok-nodes.nodes in
    let long : length c.args.self.now ≡ length numbers = ap (length {A = List ℕ}) (sym c.self.view_is) ∙ by_long numbers indices edges in
    let index = c.requires.node in
    let within : p < length numbers = omega (arith, index, long) in
    let few : AreFew (length numbers) c.args.targets.now = λ v k. let lt = c.requires.within v k in omega (arith, lt, long) in
    let n_is : n ≡ get_or numbers p 0 = c.index-number.ensures ∙ get_or_default numbers p n 0 within in
    let led_is : led ≡ map (λ (q : ℕ). get_or numbers q 0) c.args.targets.now = c.in_ok-led.ensures ∙ ap (λ (ns : List ℕ). map (λ (q : ℕ). get_or ns q 0) c.args.targets.now) c.as_slice-2.ensures.value in
    let nodes_are : nodes ≡ get_or edges n [] ++ led =
    c.in_ok-nodes.ensures
    ∙ ap (λ (ws : List ℕ). ws ++ c.as_slice-4.result.now) (c.targets.ensures ∙ ap (λ (g : Graph). targets g n) c.as_slice-3.ensures.value)
    ∙ ap (λ (ws : List ℕ). get_or edges n [] ++ ws) c.as_slice-4.ensures in
    let e_is : c.replaced-before.new.rows.items ≡ slice_set edges n led = c.replaced-before.ensures.rows in
    let k_is : rests_kept c.replaced-before.new.rows.items c.put_rest.new.rests ≡ slice_set kept n led =
    ap (λ (g : Graph). rests_kept g c.put_rest.new.rests) e_is ∙ search rules in
    let found : c.in_ok-found.found ≡ later_rows indices turned p n led nodes = search rules in
    let t_is : c.put_rows.new.rows.items ≡ with_rows turned nodes (later_rows indices turned p n led nodes) = search rules in
    let same : length (get_or kept n []) ≡ length (get_or edges n []) = search rules in
    let none : reaches (slice_set edges n led) n n ≡ false = search rules in
    subst (λ (g : Graph). IsLinked numbers indices g (rests_kept c.replaced-before.new.rows.items c.put_rest.new.rests) c.put_rows.new.rows.items) (sym e_is)
    (subst (λ (g : Graph). IsLinked numbers indices (slice_set edges n led) g c.put_rows.new.rows.items) (sym k_is)
    (subst (IsLinked numbers indices (slice_set edges n led) (slice_set kept n led)) (sym t_is)
    (led_linked numbers indices edges kept turned c.self.invariant p within c.args.targets.now few n n_is led led_is nodes nodes_are same none)))

pub returns-in-Ok-false-clause-done : goal.returns-in-Ok-false-clause-done
returns-in-Ok-false-clause-done c = λ _.
    let numbers : List ℕ = c.self.inside.numbers.items in
    let indices : List ℕ = c.self.inside.indices.items in
    let edges : Graph = c.self.inside.edges.items in
    let p : ℕ = c.args.node in
    let n : ℕ = c.index-number.result.now in
    let led : List ℕ = c.in_ok-led.led in
    let long : length c.args.self.now ≡ length numbers = ap (length {A = List ℕ}) (sym c.self.view_is) ∙ by_long numbers indices edges in
    let index = c.requires.node in
    let within : p < length numbers = omega (arith, index, long) in
    let few : AreFew (length numbers) c.args.targets.now = λ v k. let lt = c.requires.within v k in omega (arith, lt, long) in
    let n_is : n ≡ get_or numbers p 0 = c.index-number.ensures ∙ get_or_default numbers p n 0 within in
    let led_is : led ≡ map (λ (q : ℕ). get_or numbers q 0) c.args.targets.now = c.in_ok-led.ensures ∙ ap (λ (ns : List ℕ). map (λ (q : ℕ). get_or ns q 0) c.args.targets.now) c.as_slice-2.ensures.value in
    ap (graph_by numbers indices) c.replaced-before.ensures.rows
    ∙ led_view numbers indices edges (rests_kept edges c.self.inside.rests) c.self.inside.sources.items c.self.invariant p within c.args.targets.now few n n_is led led_is (get_or edges n [] ++ led) refl
    ∙ ap (λ (g : Graph). slice_set g p c.args.targets.now) c.self.view_is

pub invariant_of-self-in-Err : goal.invariant_of-self-in-Err
invariant_of-self-in-Err c =
    let edges : Graph = c.self.inside.edges.items in
    let n : ℕ = c.index-number.result.now in
    let back : c.replaced-led-in-Err.new.rows.items ≡ edges =
    c.replaced-led-in-Err.ensures.rows
    ∙ ap (λ (g : Graph). slice_set g n c.replaced-before.result) c.replaced-before.ensures.rows
    ∙ ap (slice_set (slice_set edges n c.in_ok-led.led) n) c.replaced-before.ensures.before
    ∙ set_back edges n c.in_ok-led.led in
    subst (λ (g : Graph). IsLinked c.self.inside.numbers.items c.self.inside.indices.items g (rests_kept g c.self.inside.rests) c.self.inside.sources.items) (sym back) c.self.invariant

pub returns-clause-err : goal.returns-clause-err
returns-clause-err c =
    let edges : Graph = c.self.inside.edges.items in
    let n : ℕ = c.index-number.result.now in
    let back : c.replaced-led-in-Err.new.rows.items ≡ edges =
    c.replaced-led-in-Err.ensures.rows
    ∙ ap (λ (g : Graph). slice_set g n c.replaced-before.result) c.replaced-before.ensures.rows
    ∙ ap (slice_set (slice_set edges n c.in_ok-led.led) n) c.replaced-before.ensures.before
    ∙ set_back edges n c.in_ok-led.led in
    ap (graph_by c.self.inside.numbers.items c.self.inside.indices.items) back ∙ c.self.view_is
