use Rattle.std.proofs.Common.{◌≡◌, ◌∙◌, ◌∷◌, ◌+◌, List, None, ap, drop, rules, subst, sym, ℕ}
use Rattle.std.proofs.lemmas.List.{drop_more}
use Rattle.std.specs.String.{string_bytes}
use Rattle.occ_editor.proofs.Shown.{grows_both, grows_back, grows_insert, next_refused}
use Rattle.occ_editor.proofs.room.Room.add_refused.Goals as goal
use Rattle.occ_editor.specs.Publishing.{refusal_at}
use Rattle.occ_files.specs.declared.refusal.Refusal.{Refusal}

pub loop-refusal-preserved : goal.loop-refusal-preserved
loop-refusal-preserved c =
    let refusals : List Refusal = c.args.self.now.refusals.items in
    let i : ℕ = c.loop-refusal.refusal-index in
    let r : Refusal = c.refusal-item.result in
    let all : List Refusal = c.deref-refusal-items.result.now in
    let next : drop i refusals ≡ r ∷ drop (i + 1) refusals = subst (λ (rs : List Refusal). drop i rs ≡ r ∷ drop (i + 1) rs) c.deref-refusal-items.ensures.value (drop_more all i r c.loop-refusal-test.true ∙ ap (λ (x : Refusal). x ∷ drop (i + 1) all) (sym c.refusal-item.is)) in
    let same : string_bytes c.in_ok-from_str.field-0 ≡ string_bytes r.path = search rules in
    let grows = grows_insert c.loop-refusal.paths c.insert.new.self c.in_ok-from_str.field-0 c.in_ok-insert.ensures.keys in (
      grows_both c.args.paths.now c.loop-refusal.paths c.insert.new.self c.loop-refusal.invariant.0 grows,
      λ path none rest.
          c.loop-refusal.invariant.1 path (grows_back c.loop-refusal.paths c.insert.new.self path grows none)
          (ap (λ (rs : List Refusal). refusal_at rs path) next ∙ next_refused r (drop (i + 1) refusals) c.loop-refusal.paths c.insert.new.self c.in_ok-from_str.field-0 path same c.in_ok-insert.ensures.keys none rest),
    )
