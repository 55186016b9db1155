use Rattle.std.proofs.Common.{◌≡◌, ◌∙◌, Bool, List, None, Option, ap, cond, is_some, map, subst, sym, true}
use Rattle.std.specs.BTreeMap.{get}
use Rattle.std.specs.String.{string_bytes}
use Rattle.occ_editor.proofs.Brought.{apart_shared, are_shared, given_shared, named_source, names_shared}
use Rattle.occ_editor.proofs.Right.{grows_shared, named_shared}
use Rattle.occ_editor.proofs.Wanted.{paths_shared}
use Rattle.occ_editor.proofs.bringing.brought.Goals as goal
use Rattle.occ_editor.specs.Rooms.{source_in}
use Rattle.occ_editor.specs.inside.Bringing.{AreShared, Before, HasKept, shared_by}
use Rattle.occ_files.proofs.Refused.{right_grows}
use Rattle.occ_files.specs.Refusals.{IsRight}
use Rattle.occ_files.specs.Gathering.{AreGiven, AreNamed, are_apart, has_name}
use Rattle.occ_files.specs.declared.gathering.Text.{Text}
use Rattle.occ_forms.specs.Prepared.{Prepared}
use Rattle.occ_project.specs.Reads.{name_cmp}

pub put_all-requires-clause-apart : goal.put_all-requires-clause-apart
put_all-requires-clause-apart c = ap are_apart (c.as_slice-2.ensures.value ∙ c.in_ok-texts.ensures) ∙ apart_shared (get name_cmp c.in_ok-before.before) c.args.texts.items ∙ c.requires.apart

pub put_all-requires-clause-shared : goal.put_all-requires-clause-shared
put_all-requires-clause-shared c =
    subst (AreShared (get name_cmp c.in_ok-before.before)) (sym (c.as_slice-2.ensures.value ∙ c.in_ok-texts.ensures)) (are_shared (get name_cmp c.in_ok-before.before) c.args.texts.items)

pub returns-clause-has : goal.returns-clause-has
returns-clause-has c = λ apart has name.
    let before : Before = get name_cmp c.in_ok-before.before in
    let texts : List Text = c.args.texts.items in
    let made : c.as_slice-2.result.now ≡ map (shared_by before) texts = c.as_slice-2.ensures.value ∙ c.in_ok-texts.ensures in
    let first : are_apart c.as_slice.result.now ≡ true = ap are_apart c.as_slice.ensures.value ∙ c.requires.apart in
    let kept : HasKept c.take_away.new.board before c.as_slice-2.result.now = λ n.
    c.in_ok-take_away.ensures has n
    ∙ ap (λ (o : Option Prepared). cond (is_some o) (source_in c.args.olds.now n) None) (c.in_ok-news.ensures first n ∙ ap (λ (ts : List Text). source_in ts n) c.as_slice.ensures.value)
    ∙ ap (λ (b : Bool). cond b (source_in c.args.olds.now n) None) (named_source texts n ∙ sym (names_shared before texts n) ∙ ap (λ (ts : List Text). has_name ts n) (sym made))
    ∙ ap (λ (o : Option Prepared). cond (has_name c.as_slice-2.result.now n) o None) (sym (c.in_ok-before.ensures apart n)) in
    c.in_ok-put_all.ensures kept name ∙ ap (λ (ts : List Text). source_in ts name) c.as_slice-2.ensures.value

pub returns-clause-apart : goal.returns-clause-apart
returns-clause-apart c = ap are_apart c.in_ok-texts.ensures ∙ apart_shared (get name_cmp c.in_ok-before.before) c.args.texts.items ∙ c.requires.apart

pub returns-clause-paths : goal.returns-clause-paths
returns-clause-paths c = ap (map (λ text. string_bytes text.path)) c.in_ok-texts.ensures ∙ paths_shared (get name_cmp c.in_ok-before.before) c.args.texts.items

pub returns-clause-given : goal.returns-clause-given
returns-clause-given c = λ known given. subst (AreGiven known) (sym c.in_ok-texts.ensures) (given_shared (get name_cmp c.in_ok-before.before) known c.args.texts.items given)

pub returns-clause-named : goal.returns-clause-named
returns-clause-named c = λ named. subst AreNamed (sym c.in_ok-texts.ensures) (named_shared (get name_cmp c.in_ok-before.before) c.args.texts.items named)

pub returns-clause-right : goal.returns-clause-right
returns-clause-right c = λ held path why right.
    let before : Before = get name_cmp c.in_ok-before.before in
    let texts : List Text = c.args.texts.items in
    subst (λ (ts : List Text). IsRight held ts path why) (sym c.in_ok-texts.ensures) (right_grows held texts (map (shared_by before) texts) path why (grows_shared before texts) right)
