use Rattle.std.proofs.Common.{◌≡◌, ◌⊎◌, ◌↔◌, ◌++◌, ◌∷◌, List, [], map, rules, subst, sym}
use Rattle.std.specs.List.{Contains}
use Rattle.occ_editor.proofs.Heads.{pushed, there_already}
use Rattle.occ_editor.proofs.editor.Published.add.Goals as goal
use Rattle.occ_messages.specs.Located.{head_of}
use Rattle.occ_messages.specs.declared.message.Message.{Message}

pub returns-then-has-clause-messages : goal.returns-then-has-clause-messages
returns-then-has-clause-messages c = λ head. there_already c.args.self.now.messages.items c.args.message (c.has.ensures c.if-has.true) head

pub returns-clause-messages : goal.returns-clause-messages
returns-clause-messages c = λ head.
    let ms : List Message = c.args.self.now.messages.items in
    let more : c.push.new.self.items ≡ ms ++ c.args.message ∷ [] = search rules in
    subst (λ (ns : List Message). Contains (map head_of ns) head ↔ (Contains (map head_of ms) head ⊎ (head_of c.args.message ≡ head))) (sym more) (pushed ms c.args.message head)
