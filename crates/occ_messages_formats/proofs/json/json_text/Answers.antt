use Rattle.std.proofs.Common.{rules, sym, subst, ◌≤◌}
use Rattle.serde_json.specs.Data.{Data, depth}
use Rattle.occ_messages_formats.proofs.Depths.{messages_depth}
use Rattle.occ_messages_formats.proofs.json.json_text.Goals as goal

pub returns : goal.returns
returns c =
    let few : Data → Type 0 = λ d. depth d ≤ 127 in
    let shallow = subst few (sym c.in_ok-value.ensures) (messages_depth c.args.messages.now) in
    search (rules, shallow)
