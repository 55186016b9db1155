use Rattle.std.proofs.Common.{◌≡◌, ℕ, List, OnOk, Result, Ok, Err, ap, ◌∙◌}
use Rattle.occ_board.specs.Done.{done}
use Rattle.occ_board.specs.Machine.{Event, State, after, files_of}
use Rattle.occ_board.specs.declared.entry.Edit.TheVariants as an_edit
use Rattle.occ_check.specs.Checks.{input}
use Rattle.occ_theorems.specs.Edits.{LeavesApart}
use Rattle.occ_theorems.proofs.board.change_theorem.Goals as goal

on_ok : {T E : Type 0} (r : Result T E) {P Q : Type 0} → (P → Q) → OnOk r P → OnOk r Q
on_ok (Ok x) f h = f h
on_ok (Err e) f h = tt

-- the state that the machine has after the edit leaves these units as they were
left_apart : (old new later : State) (name : List ℕ) → new ≡ later → LeavesApart old later name → LeavesApart old new name
left_apart old new later name e h u apart = (
  ap (λ (s : State). input (files_of s) u) e ∙ (h u apart).0,
  ap (λ (s : State). done (files_of s) old.cached u) e ∙ (h u apart).1,
)

pub returns-clause-apart : goal.returns-clause-apart
returns-clause-apart c =
    let old = c.args.board.now in
    let event = Event.Edited c.args.session (an_edit.Changed c.args.name c.args.source) in
    let law : LeavesApart old (after old event) c.args.name
    = (λ u apart. (c.edit_apart_law.ensures.input old c.args.session (an_edit.Changed c.args.name c.args.source) u c.base-base.ensures.known apart, c.edit_apart_law.ensures.done old c.args.session (an_edit.Changed c.args.name c.args.source) u c.base-base.ensures.known apart)) in
    on_ok c.change.result (λ e. left_apart old c.change.new.self (after old event) c.args.name e law) c.change.ensures.after
