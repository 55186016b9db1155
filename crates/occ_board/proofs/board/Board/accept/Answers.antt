use Rattle.std.proofs.Common.{arith, ap, refl, subst, sym, ◌∙◌, ◌≡◌, ◌+◌, ◌<◌, ℕ, Bool, List, None, length, true}
use Rattle.std.specs.Prelude.{◌-◌, take, vec_len}
use Rattle.occ_base.specs.FileName.{is_unit}
use Rattle.occ_board.proofs.Begun.{accepts}
use Rattle.occ_board.proofs.Caches.{all_but_last}
use Rattle.occ_board.proofs.Edits.{room}
use Rattle.occ_board.proofs.Nexts.{none_passed}
use Rattle.occ_board.proofs.Opened.{open_before, open_few, units_before, units_few}
use Rattle.occ_board.proofs.board.Board.accept.Goals as goal
use Rattle.occ_board.specs.Journal.{edited, is_full, last_number, open_number, refusal, refusal_of, replay}
use Rattle.occ_board.specs.Machine.{State, number_of}
use Rattle.occ_board.specs.declared.entry.Edit.{Edit}
use Rattle.occ_board.specs.declared.entry.Entry.{Entry}
use Rattle.occ_board.specs.declared.entry.Edit.TheVariants as edit
use Rattle.occ_board.specs.inside.Verified.{AreVerified}
use Rattle.occ_board.specs.inside.Ready.{NoneIsNext}
use Rattle.occ_board.specs.inside.Holding.{IsBoard, count_then}
use Rattle.occ_board.specs.inside.Revisions.{AreBefore}
use Rattle.occ_check.specs.Input.{Input}
use Rattle.occ_project.specs.declared.reads.Read.{Read}
use Rattle.occ_check.specs.Report.{open_units}
use Rattle.occ_project_units.specs.Project.{IsProject}

pub invariant_of-self-2 : goal.invariant_of-self-2
invariant_of-self-2 c =
    let number : c.number.result + 1 ≡ last_number c.self.inside.base c.self.inside.journal.items + 1 = ap (λ (n : ℕ). n + 1) (c.number.ensures ∙ ap (λ (s : State). number_of s) (sym c.self.view_is)) in (
      subst (λ (ks : List Input). IsBoard c.self.inside.base c.push.new.self.items ks c.renew-renewed.new.graph c.renew-renewed.new.flags c.count_after-opened.result c.count_after-units.result) (sym c.follow.ensures)
          (accepts c.self.inside.base c.self.inside.journal.items c.push.new.self.items c.self.inside.cached c.self.inside.graph c.renew-renewed.new.graph c.self.inside.flags c.renew-renewed.new.flags c.self.inside.opened c.self.inside.units c.count_after-opened.result c.count_after-units.result (c.number.result + 1)
          c.args.session c.args.edit c.name-name.result c.in_ok-source.source c.self.invariant.0 (ap (λ (s : State). refusal s.base s.journal c.args.edit) c.self.view_is ∙ c.requires) c.in-Ok.ensures.graph number c.name-name.ensures c.in_ok-source.ensures.value c.in_ok-push.ensures.items
          c.put_law.ensures.spelled c.put_law.ensures.files c.in_ok-source.ensures.spelled c.in-Ok.ensures.len c.in-Ok.ensures.flags c.count_after-opened.ensures (c.count_after-units.ensures ∙ ap (λ (b : Bool). count_then b c.self.inside.units c.args.edit) c.is_unit.ensures)
          (subst IsProject (sym c.self.invariant.0.files_are) (c.done_law.ensures.project c.self.inside.base c.self.inside.journal.items c.self.invariant.0.based))),
      c.renew-renewed.ensures.awaited,
      subst (λ (ks : List Input). AreVerified c.renew-renewed.new.graph ks c.renew-renewed.new.verified) (sym c.follow.ensures) c.in-Ok.ensures.verified,
      none_passed _ _ _ _ refl,
    )

pub count_after-opened-requires-clause-most : goal.count_after-opened-requires-clause-most
count_after-opened-requires-clause-most c =
    let few = open_few c.self.inside.base c.self.inside.journal.items c.self.invariant.0.based in
    let same : c.self.inside.opened ≡ open_number (replay c.self.inside.base c.self.inside.journal.items) = c.self.invariant.0.opened_are ∙ ap open_number c.self.invariant.0.files_are in
    let bound = c.self.invariant.0.few in
    omega (arith, few, same, bound)

pub count_after-opened-requires-clause-least : goal.count_after-opened-requires-clause-least
count_after-opened-requires-clause-least c name is counted =
    let fine : refusal_of c.self.inside.graph (is_full (length c.self.inside.journal.items) (last_number c.self.inside.base c.self.inside.journal.items)) (edit.Removed name) ≡ None =
    ap (λ (fs : List Read). refusal_of fs (is_full (length c.self.inside.journal.items) (last_number c.self.inside.base c.self.inside.journal.items)) (edit.Removed name)) c.self.invariant.0.files_are ∙ ap (λ (e : Edit). refusal c.self.inside.base c.self.inside.journal.items e) (sym is) ∙ ap (λ (s : State). refusal s.base s.journal c.args.edit) c.self.view_is ∙ c.requires
    in
    subst (λ (n : ℕ). 0 < n) (sym c.self.invariant.0.opened_are)
    (open_before c.self.inside.graph (is_full (length c.self.inside.journal.items) (last_number c.self.inside.base c.self.inside.journal.items)) (subst IsProject (sym c.self.invariant.0.files_are) (c.done_law.ensures.project c.self.inside.base c.self.inside.journal.items c.self.invariant.0.based)) name fine)

pub count_after-units-requires-clause-most : goal.count_after-units-requires-clause-most
count_after-units-requires-clause-most c =
    let few = units_few c.self.inside.base c.self.inside.journal.items c.self.invariant.0.based in
    let same : c.self.inside.units ≡ length (open_units (replay c.self.inside.base c.self.inside.journal.items)) = c.self.invariant.0.units_are ∙ ap (λ (fs : List Read). length (open_units fs)) c.self.invariant.0.files_are in
    let bound = c.self.invariant.0.few in
    omega (arith, few, same, bound)

pub count_after-units-requires-clause-least : goal.count_after-units-requires-clause-least
count_after-units-requires-clause-least c name is counted =
    let fine : refusal_of c.self.inside.graph (is_full (length c.self.inside.journal.items) (last_number c.self.inside.base c.self.inside.journal.items)) (edit.Removed name) ≡ None =
    ap (λ (fs : List Read). refusal_of fs (is_full (length c.self.inside.journal.items) (last_number c.self.inside.base c.self.inside.journal.items)) (edit.Removed name)) c.self.invariant.0.files_are ∙ ap (λ (e : Edit). refusal c.self.inside.base c.self.inside.journal.items e) (sym is) ∙ ap (λ (s : State). refusal s.base s.journal c.args.edit) c.self.view_is ∙ c.requires
    in
    let unit : is_unit name ≡ true = ap is_unit (sym (c.name-name.ensures ∙ ap (λ (e : Edit). (edited 0 e).name) is)) ∙ sym c.is_unit.ensures ∙ counted in
    subst (λ (n : ℕ). 0 < n) (sym c.self.invariant.0.units_are)
    (units_before c.self.inside.graph (is_full (length c.self.inside.journal.items) (last_number c.self.inside.base c.self.inside.journal.items)) (subst IsProject (sym c.self.invariant.0.files_are) (c.done_law.ensures.project c.self.inside.base c.self.inside.journal.items c.self.invariant.0.based)) name fine unit)

pub invariant_of-self-in-Err : goal.invariant_of-self-in-Err
invariant_of-self-in-Err c =
    let items : List Entry = c.self.inside.journal.items in
    let entry : Entry = record { session = c.args.session; edit = c.args.edit } in
    let few : vec_len c.push.new.self - 1 ≡ length items = omega (arith, c.in_ok-push.ensures.len, c.self.inside.journal.ok) in
    let same : c.pop.new.self.items ≡ items = c.pop.ensures.rest ∙ ap (take (vec_len c.push.new.self - 1)) c.in_ok-push.ensures.items ∙ all_but_last items entry (vec_len c.push.new.self - 1) few in
    let back = c.in-Err.ensures.err in
    let kept =
    subst (λ (es : List Entry). IsBoard c.self.inside.base es c.self.inside.cached c.renew-renewed.new.graph c.renew-renewed.new.flags c.self.inside.opened c.self.inside.units × AreVerified c.renew-renewed.new.graph c.self.inside.cached c.renew-renewed.new.verified) (sym same)
    (subst (λ (fs : List Read). IsBoard c.self.inside.base items c.self.inside.cached fs c.renew-renewed.new.flags c.self.inside.opened c.self.inside.units × AreVerified fs c.self.inside.cached c.renew-renewed.new.verified) (sym back.0)
    (subst (λ (bs : List Bool). IsBoard c.self.inside.base items c.self.inside.cached c.self.inside.graph bs c.self.inside.opened c.self.inside.units × AreVerified c.self.inside.graph c.self.inside.cached c.renew-renewed.new.verified) (sym back.1)
    (subst (λ (bs : List Bool). IsBoard c.self.inside.base items c.self.inside.cached c.self.inside.graph c.self.inside.flags c.self.inside.opened c.self.inside.units × AreVerified c.self.inside.graph c.self.inside.cached bs) (sym back.2) (c.self.invariant.0, c.self.invariant.2))))
    in (
      kept.0,
      c.renew-renewed.ensures.awaited,
      kept.1,
      subst (λ (fs : List Read). NoneIsNext fs c.self.inside.cached c.self.inside.handed.items c.self.inside.passed) (sym back.0) c.self.invariant.3,
    )

pub overflow_add-number : goal.overflow_add-number
overflow_add-number c =
    let last : c.number.result ≡ last_number c.self.inside.base c.self.inside.journal.items = c.number.ensures ∙ ap (λ (s : State). number_of s) (sym c.self.view_is) in
    let under = room c.self.inside.base c.self.inside.journal.items c.args.edit (ap (λ (s : State). refusal s.base s.journal c.args.edit) c.self.view_is ∙ c.requires) in
    omega (arith, last, under)

pub renew-renewed-requires-clause-before : goal.renew-renewed-requires-clause-before
renew-renewed-requires-clause-before c =
    let last : c.number.result ≡ last_number c.self.inside.base c.self.inside.journal.items = c.number.ensures ∙ ap (λ (s : State). number_of s) (sym c.self.view_is) in
    subst (λ (n : ℕ). AreBefore (n + 1) c.self.inside.cached) (sym last) c.self.invariant.0.before
