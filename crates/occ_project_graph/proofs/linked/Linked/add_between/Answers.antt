use Rattle.std.proofs.Common.{rules, ◌≡◌, ◌∙◌, ◌≤◌, ◌++◌, ◌∷◌, ℕ, Bool, List, [], ap, arith, false, get_or, length, map, subst, sym, true}
use Rattle.std.specs.Prelude.{slice_set}
use Rattle.std.specs.List.{insert}
use Rattle.occ_project_graph.specs.Adding.{IsParted, raised}
use Rattle.occ_project_graph.specs.Graph.{Graph, is_among, reaches, targets}
use Rattle.occ_project_graph.specs.inside.Leading.{later_rows}
use Rattle.occ_project_graph.specs.inside.Linking.{AreLedRests, AreLedRows, IsBetween, IsLinked, marked, rests_kept, with_rows}
use Rattle.occ_project_graph.specs.inside.Numbering.{graph_by}
use Rattle.occ_project_graph.proofs.Between.{between_later, between_linked, between_view}
use Rattle.occ_project_graph.proofs.Led.{led_are, led_kept}
use Rattle.occ_project_graph.proofs.Numbered.{by_long}
use Rattle.occ_project_graph.proofs.linked.Linked.add_between.Goals as goal

pub invariant_of-self-2 : goal.invariant_of-self-2
invariant_of-self-2 c =
    let numbers : List ℕ = c.self.inside.numbers.items in
    let indices : List ℕ = c.self.inside.indices.items in
    let edges : Graph = c.self.inside.edges.items in
    let rests = c.self.inside.rests in
    let turned : Graph = c.self.inside.sources.items in
    let is = c.self.invariant in
    let marks : List Bool = c.args.marks.now in
    let at : ℕ = c.args.at in
    let users : List ℕ = c.in_ok-users.users in
    let led : List ℕ = c.in_ok-led.led in
    let after : Graph = c.lead_between.new.edges.items in
    let next = c.lead_between.new.rests in
    let n : List ℕ = c.insert_node.new.numbers.items in
    let i : List ℕ = c.insert_node.new.indices.items in
    let long : length c.args.self.now ≡ length numbers = ap (length {A = List ℕ}) (sym c.self.view_is) ∙ by_long numbers indices edges in
    let index = c.requires.index in
    let h : at ≤ length numbers = omega (arith, index, long) in
    let few : (v : ℕ) → is_among c.args.targets.now v ≡ true → v ≤ length numbers = λ v k. let le = c.requires.within v k in omega (arith, le, long) in
    let parts : (u : ℕ) → get_or marks u false ≡ true → IsParted at (targets (graph_by numbers indices edges) u) = λ u m. subst (λ (g : Graph). IsParted at (targets g u)) (sym c.self.view_is) (c.requires.parted u m) in
    let n_is : n ≡ insert numbers at (length numbers) = c.insert_node.ensures.numbers ∙ ap (λ (ns : List ℕ). insert ns at (length ns)) (c.in_ok-numbers.ensures.items ∙ c.as_slice.ensures.value) in
    let i_is : i ≡ map (raised at) indices ++ at ∷ [] = c.insert_node.ensures.indices ∙ ap (λ (is : List ℕ). map (raised at) is ++ at ∷ []) (c.in_ok-indices.ensures.items ∙ c.as_slice-2.ensures.value) in
    let users_is : users ≡ marked numbers marks = c.in_ok-users.ensures ∙ ap (λ (ns : List ℕ). marked ns marks) c.as_slice-3.ensures.value in
    let led_is : led ≡ map (λ q. get_or n q 0) c.args.targets.now = c.in_ok-led.ensures ∙ ap (λ (ns : List ℕ). map (λ q. get_or ns q 0) c.args.targets.now) c.as_slice-4.ensures.value in
    let found : IsBetween c.as_slice-10.result.now at c.as_slice-11.result.now c.as_slice-12.result.now edges after rests next = search rules in
    let b : IsBetween indices at users led edges after rests next =
    subst (λ (ls : List ℕ). IsBetween indices at users ls edges after rests next) c.as_slice-12.ensures
    (subst (λ (us : List ℕ). IsBetween indices at us c.as_slice-12.result.now edges after rests next) c.as_slice-11.ensures
    (subst (λ (xs : List ℕ). IsBetween xs at c.as_slice-11.result.now c.as_slice-12.result.now edges after rests next) c.as_slice-10.ensures.value found)) in
    let joined : Graph = b.joined in
    let are : AreLedRows indices marks at (length numbers) edges joined =
    subst (λ (m : ℕ). AreLedRows indices marks at m edges joined) is.edges_over.len (led_are numbers indices marks at (length edges) users edges joined is.numbered is.edges_over.len users_is b.are) in
    let are_kept : AreLedRows indices marks at (length numbers) (rests_kept edges rests) (rests_kept joined next) =
    led_kept numbers indices marks at (length numbers) users edges joined rests next is.numbered is.rests_over.len users_is are (subst (λ (m : ℕ). AreLedRests indices at m users rests next) is.edges_over.len b.rests_are) in
    let after_is : after ≡ slice_set joined (length numbers) led = b.is ∙ ap (λ (m : ℕ). slice_set joined m led) is.edges_over.len in
    let none : reaches (slice_set joined (length numbers) led) (length numbers) (length numbers) ≡ false =
    subst (λ (g : Graph). reaches g (length numbers) (length numbers) ≡ false) after_is (subst (λ (m : ℕ). reaches after m m ≡ false) is.edges_over.len b.none) in
    let number : c.len-number.result ≡ length numbers = c.len-number.ensures ∙ c.self.inside.numbers.ok.0 in
    let rest : c.in_ok-rest.rest ≡ led = c.in_ok-rest.ensures ∙ c.as_slice-9.ensures in
    let kept_is : rests_kept after c.put_rest.new.rests ≡ slice_set (rests_kept joined next) (length numbers) led =
    ap (λ (g : Graph). rests_kept g c.put_rest.new.rests) (after_is ∙ ap (λ (m : ℕ). slice_set joined m led) (sym number) ∙ ap (slice_set joined c.len-number.result) (sym rest))
    ∙ c.put_rest.ensures joined
    ∙ ap (λ (m : ℕ). slice_set (rests_kept joined next) m c.in_ok-rest.rest) number
    ∙ ap (slice_set (rests_kept joined next) (length numbers)) rest in
    let later : c.in_ok-found.found ≡ later_rows i turned at (length numbers) led led = search rules in
    let pushed : c.push_within.new.items.items ≡ turned ++ marked numbers marks ∷ [] =
    c.push_within.ensures ∙ ap (λ (g : Graph). g ++ users ∷ []) c.in_ok-reserve.ensures.items ∙ ap (λ (us : List ℕ). turned ++ us ∷ []) users_is in
    let turned_is : c.put_rows.new.rows.items ≡ with_rows (turned ++ marked numbers marks ∷ []) led (later_rows i (turned ++ marked numbers marks ∷ []) at (length numbers) led led) =
    c.put_rows.ensures
    ∙ ap (λ (ws : List ℕ). with_rows c.push_within.new.items.items ws c.in_ok-found.found) c.as_slice-13.ensures
    ∙ ap (λ (g : Graph). with_rows g led c.in_ok-found.found) pushed
    ∙ ap (with_rows (turned ++ marked numbers marks ∷ []) led) (later ∙ between_later numbers indices edges (rests_kept edges rests) turned is at h marks parts joined (rests_kept joined next) are are_kept n i n_is i_is c.args.targets.now few led led_is none) in
    subst (λ (g : Graph). IsLinked n i after (rests_kept after c.put_rest.new.rests) g) (sym turned_is)
    (subst (λ (k : Graph). IsLinked n i after k (with_rows (turned ++ marked numbers marks ∷ []) led (later_rows i (turned ++ marked numbers marks ∷ []) at (length numbers) led led))) (sym kept_is)
    (subst (λ (g : Graph). IsLinked n i g (slice_set (rests_kept joined next) (length numbers) led) (with_rows (turned ++ marked numbers marks ∷ []) led (later_rows i (turned ++ marked numbers marks ∷ []) at (length numbers) led led))) (sym after_is)
    (between_linked numbers indices edges (rests_kept edges rests) turned is at h marks parts joined (rests_kept joined next) are are_kept n i n_is i_is c.args.targets.now few led led_is none)))

pub returns-clause-done : goal.returns-clause-done
returns-clause-done c = λ _.
    let numbers : List ℕ = c.self.inside.numbers.items in
    let indices : List ℕ = c.self.inside.indices.items in
    let edges : Graph = c.self.inside.edges.items in
    let rests = c.self.inside.rests in
    let turned : Graph = c.self.inside.sources.items in
    let is = c.self.invariant in
    let marks : List Bool = c.args.marks.now in
    let at : ℕ = c.args.at in
    let users : List ℕ = c.in_ok-users.users in
    let led : List ℕ = c.in_ok-led.led in
    let after : Graph = c.lead_between.new.edges.items in
    let next = c.lead_between.new.rests in
    let n : List ℕ = c.insert_node.new.numbers.items in
    let i : List ℕ = c.insert_node.new.indices.items in
    let long : length c.args.self.now ≡ length numbers = ap (length {A = List ℕ}) (sym c.self.view_is) ∙ by_long numbers indices edges in
    let index = c.requires.index in
    let h : at ≤ length numbers = omega (arith, index, long) in
    let few : (v : ℕ) → is_among c.args.targets.now v ≡ true → v ≤ length numbers = λ v k. let le = c.requires.within v k in omega (arith, le, long) in
    let parts : (u : ℕ) → get_or marks u false ≡ true → IsParted at (targets (graph_by numbers indices edges) u) = λ u m. subst (λ (g : Graph). IsParted at (targets g u)) (sym c.self.view_is) (c.requires.parted u m) in
    let n_is : n ≡ insert numbers at (length numbers) = c.insert_node.ensures.numbers ∙ ap (λ (ns : List ℕ). insert ns at (length ns)) (c.in_ok-numbers.ensures.items ∙ c.as_slice.ensures.value) in
    let i_is : i ≡ map (raised at) indices ++ at ∷ [] = c.insert_node.ensures.indices ∙ ap (λ (is : List ℕ). map (raised at) is ++ at ∷ []) (c.in_ok-indices.ensures.items ∙ c.as_slice-2.ensures.value) in
    let users_is : users ≡ marked numbers marks = c.in_ok-users.ensures ∙ ap (λ (ns : List ℕ). marked ns marks) c.as_slice-3.ensures.value in
    let led_is : led ≡ map (λ q. get_or n q 0) c.args.targets.now = c.in_ok-led.ensures ∙ ap (λ (ns : List ℕ). map (λ q. get_or ns q 0) c.args.targets.now) c.as_slice-4.ensures.value in
    let found : IsBetween c.as_slice-10.result.now at c.as_slice-11.result.now c.as_slice-12.result.now edges after rests next = search rules in
    let b : IsBetween indices at users led edges after rests next =
    subst (λ (ls : List ℕ). IsBetween indices at users ls edges after rests next) c.as_slice-12.ensures
    (subst (λ (us : List ℕ). IsBetween indices at us c.as_slice-12.result.now edges after rests next) c.as_slice-11.ensures
    (subst (λ (xs : List ℕ). IsBetween xs at c.as_slice-11.result.now c.as_slice-12.result.now edges after rests next) c.as_slice-10.ensures.value found)) in
    let joined : Graph = b.joined in
    let are : AreLedRows indices marks at (length numbers) edges joined =
    subst (λ (m : ℕ). AreLedRows indices marks at m edges joined) is.edges_over.len (led_are numbers indices marks at (length edges) users edges joined is.numbered is.edges_over.len users_is b.are) in
    let are_kept : AreLedRows indices marks at (length numbers) (rests_kept edges rests) (rests_kept joined next) =
    led_kept numbers indices marks at (length numbers) users edges joined rests next is.numbered is.rests_over.len users_is are (subst (λ (m : ℕ). AreLedRests indices at m users rests next) is.edges_over.len b.rests_are) in
    let after_is : after ≡ slice_set joined (length numbers) led = b.is ∙ ap (λ (m : ℕ). slice_set joined m led) is.edges_over.len in
    let none : reaches (slice_set joined (length numbers) led) (length numbers) (length numbers) ≡ false =
    subst (λ (g : Graph). reaches g (length numbers) (length numbers) ≡ false) after_is (subst (λ (m : ℕ). reaches after m m ≡ false) is.edges_over.len b.none) in
    ap (graph_by n i) after_is ∙ between_view numbers indices edges (rests_kept edges rests) turned is at h marks parts joined (rests_kept joined next) are are_kept n i n_is i_is c.args.targets.now few led led_is none c.args.self.now c.self.view_is
