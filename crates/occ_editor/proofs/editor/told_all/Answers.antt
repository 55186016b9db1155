use Rattle.std.proofs.Common.{◌≡◌, ◌∙◌, ◌++◌, ◌∷◌, [], Global, List, String, ap, map, rules, subst, sym, ℕ}
use Rattle.std.specs.List.{All}
use Rattle.std.proofs.lemmas.List.Elements.{All-push}
use Rattle.std.specs.String.{string_bytes}
use Rattle.occ_editor.proofs.Shown.{paths_more}
use Rattle.occ_editor.proofs.editor.told_all.Goals as goal
use Rattle.occ_editor.specs.Publishing.{IsPublished}
use Rattle.occ_editor.specs.declared.editor.Published.{Published}

pub loop-path-preserved : goal.loop-path-preserved
loop-path-preserved c =
    let old : List Published = c.loop-path.published.items in
    let p : Published = c.in_ok-told_of.field-0 in
    let more : c.push.new.self.items ≡ old ++ p ∷ [] = c.in_ok-push.ensures.items in
    let next : c.loop-path.path-iterator ≡ c.in-Some.path.now ∷ c.next.new.self = c.in-Some.ensures.steps in
    let path : string_bytes p.path ≡ string_bytes c.in-Some.path.now = search rules in
    (subst (All (IsPublished c.args.rooms.now)) (sym more) (All-push (IsPublished c.args.rooms.now) old p c.loop-path.invariant.0 c.in_ok-told_of.ensures.told), paths_more old c.push.new.self.items p c.in-Some.path.now c.loop-path.path-iterator c.next.new.self more next path ∙ c.loop-path.invariant.1)
