use Rattle.std.proofs.Common.{◌≡◌, ◌∙◌, ◌++◌, ◌∷◌, [], ◌<◌, List, ap, length, map, rules, subst, ℕ}
use Rattle.std.specs.Prelude.{get_or}
use Rattle.serde_json.specs.Data.{Data, array}
use Rattle.serde_json.specs.View.{items_of, view}
use Rattle.serde_json.specs.declared.value.Value.{Value, the_lemmas}
use Rattle.occ_editor_messages.proofs.Sent.{map_end, mapped, mapped_all}
use Rattle.occ_editor_messages.proofs.diagnostics.diagnostics.Goals as goal
use Rattle.occ_editor_messages.specs.Sent.{diagnostic_data, first_data}
use Rattle.occ_messages.specs.declared.message.Message.{Message}

pub loop-message-preserved : goal.loop-message-preserved
loop-message-preserved c =
    let so_far = c.loop-message.invariant in
    let messages : List Message = c.args.told.now.messages.items in
    let there : List Message = c.deref-message-items.result.now in
    let i : ℕ = c.loop-message.message-index in
    let m : Message = c.message-item.result in
    let old : List Value = c.loop-message.list.items in
    let less : i < length messages = subst (λ (ms : List Message). i < length ms) c.deref-message-items.ensures.value c.loop-message-test.true in
    let is : m ≡ get_or messages i m = subst (λ (ms : List Message). m ≡ get_or ms i m) c.deref-message-items.ensures.value c.message-item.is in
    let more : map view c.push.new.self.items ≡ map view old ++ diagnostic_data c.args.uri.now m ∷ [] =
    ap (map view) c.in_ok-push.ensures.items ∙ map_end view old c.in_ok-diagnostic.field-0 ∙ ap (λ (d : Data). map view old ++ d ∷ []) c.in_ok-diagnostic.ensures in
    more ∙ mapped (diagnostic_data c.args.uri.now) messages i m (first_data c.args.told.now.refusal) (map view old) less is so_far

pub returns : goal.returns
returns c =
    let so_far = c.loop-message.invariant in
    let seen : view (Rattle.serde_json.specs.declared.value.Value.Array c.loop-message.list) ≡ array (items_of (map view c.loop-message.list.items)) = search (rules, the_lemmas) in
    seen ∙ ap (λ (ds : List Data). array (items_of ds)) (mapped_all (diagnostic_data c.args.uri.now) c.args.told.now.messages.items c.loop-message.message-index (first_data c.args.told.now.refusal) (map view c.loop-message.list.items) (search rules) so_far)
