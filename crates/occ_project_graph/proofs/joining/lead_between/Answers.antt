use Rattle.std.proofs.Common.{rules, ◌≡◌, ◌∙◌, List, ap, arith, length, map}
use Rattle.std.specs.Prelude.{ℕ}
use Rattle.occ_project_graph.specs.Graph.{Graph, targets}
use Rattle.occ_project_graph.specs.inside.Linking.{IsLed}
use Rattle.occ_project_graph.proofs.Between.{IsAfter, is_after, led_long}
use Rattle.occ_project_graph.proofs.joining.lead_between.Goals as goal

pub replaced-none-requires : goal.replaced-none-requires
replaced-none-requires c =
    let edges : Graph = c.args.edges.now.items in
    let users : List ℕ = c.args.users.now in
    let number : c.len-number.result ≡ length edges = c.len-number.ensures ∙ c.args.edges.now.ok.0 in
    let led : IsLed c.args.indices.now c.args.at c.len-number.result users edges c.lead_rows.new.rows.items = c.in_ok-lead_rows.ensures.ok in
    let long = led_long c.args.indices.now c.args.at c.len-number.result users edges c.lead_rows.new.rows.items led in
    omega (arith, number, long)

pub lead_free-requires : goal.lead_free-requires
lead_free-requires c =
    let edges : Graph = c.args.edges.now.items in
    let users : List ℕ = c.args.users.now in
    let number : c.len-number.result ≡ length edges = c.len-number.ensures ∙ c.args.edges.now.ok.0 in
    let led : IsLed c.args.indices.now c.args.at c.len-number.result users edges c.lead_rows.new.rows.items = c.in_ok-lead_rows.ensures.ok in
    let after : IsAfter edges c.replaced-none.new.rows.items users = is_after c.args.indices.now c.args.at users edges c.lead_rows.new.rows.items c.replaced-none.new.rows.items c.len-number.result c.in_ok-row.row number led c.replaced-none.ensures.rows in
    let long = after.long in
    let same : length c.as_slice-2.result.now ≡ length c.replaced-none.new.rows.items = ap (length {A = List ℕ}) c.as_slice-2.ensures.value in
    omega (arith, number, long, same)

pub returns-in-Ok-false-clause-other : goal.returns-in-Ok-false-clause-other
returns-in-Ok-false-clause-other c = λ _.
    let edges : Graph = c.args.edges.now.items in
    let users : List ℕ = c.args.users.now in
    let number : c.len-number.result ≡ length edges = c.len-number.ensures ∙ c.args.edges.now.ok.0 in
    let led : IsLed c.args.indices.now c.args.at c.len-number.result users edges c.lead_rows.new.rows.items = c.in_ok-lead_rows.ensures.ok in
    let after : IsAfter edges c.replaced-none.new.rows.items users = is_after c.args.indices.now c.args.at users edges c.lead_rows.new.rows.items c.replaced-none.new.rows.items c.len-number.result c.in_ok-row.row number led c.replaced-none.ensures.rows in
    let before : c.in_ok-before.before ≡ map (λ m. targets edges m) users = search rules in
    (c.take_back.ensures edges after.long before after.others, c.in-Ok-false.ensures.other c.in-Ok-false.field-0-test)

pub returns-in-Err-clause-err : goal.returns-in-Err-clause-err
returns-in-Err-clause-err c =
    let edges : Graph = c.args.edges.now.items in
    let users : List ℕ = c.args.users.now in
    let number : c.len-number.result ≡ length edges = c.len-number.ensures ∙ c.args.edges.now.ok.0 in
    let led : IsLed c.args.indices.now c.args.at c.len-number.result users edges c.lead_rows.new.rows.items = c.in_ok-lead_rows.ensures.ok in
    let after : IsAfter edges c.replaced-none.new.rows.items users = is_after c.args.indices.now c.args.at users edges c.lead_rows.new.rows.items c.replaced-none.new.rows.items c.len-number.result c.in_ok-row.row number led c.replaced-none.ensures.rows in
    let before : c.in_ok-before.before ≡ map (λ m. targets edges m) users = search rules in
    (c.take_back-in-Err.ensures edges after.long before after.others, c.in-Err.ensures.err)
