use Rattle.std.proofs.Common.{◌≡◌, ◌∙◌, ◌⊎◌, ◌↔◌, ◌++◌, ◌∷◌, List, [], map, rules, subst}
use Rattle.std.specs.List.{Contains}
use Rattle.occ_editor.proofs.Heads.{ended, moved, none_in, pushed, split_right}
use Rattle.occ_editor.proofs.editor.Published.add_all.Goals as goal
use Rattle.occ_messages.specs.Located.{head_of}
use Rattle.occ_messages.specs.declared.message.Message.{Message}

pub loop-message-preserved : goal.loop-message-preserved
loop-message-preserved c =
    let rest : List Message = c.pop.new.self.items in
    let old : List Message = c.loop-message.self.messages.items in
    let all : c.loop-message.messages.items ≡ rest ++ c.in-Some.message ∷ [] = search rules in (
      c.in_ok-add.ensures.path ∙ c.loop-message.invariant.0,
      c.in_ok-add.ensures.refusal ∙ c.loop-message.invariant.1,
      λ head.
          moved (c.in_ok-add.ensures.messages head)
          (split_right (pushed rest c.in-Some.message head)
          (subst (λ (ms : List Message). (Contains (map head_of old) head ⊎ Contains (map head_of ms) head) ↔ (Contains (map head_of c.args.self.now.messages.items) head ⊎ Contains (map head_of c.args.messages.items) head)) all (c.loop-message.invariant.2 head))),
    )

pub returns-clause-messages : goal.returns-clause-messages
returns-clause-messages c = λ head.
    let none : c.loop-message.messages.items ≡ [] = search rules in
    ended (none_in head) (subst (λ (ms : List Message). (Contains (map head_of c.loop-message.self.messages.items) head ⊎ Contains (map head_of ms) head) ↔ (Contains (map head_of c.args.self.now.messages.items) head ⊎ Contains (map head_of c.args.messages.items) head)) none (c.loop-message.invariant.2 head))
