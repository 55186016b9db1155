use Rattle.std.proofs.Common.{◌≡◌, ◌∙◌, IfSome, List, None, Some, ap, false, length, rules, subst, sym, true, ℕ}
use Rattle.std.specs.Prelude.{nat_lt}
use Rattle.std.specs.BTreeMap.{get}
use Rattle.std.specs.Str.{bytes_eq}
use Rattle.std.specs.String.{string_bytes}
use Rattle.occ_files.proofs.Kept.{item_there}
use Rattle.occ_files.proofs.Named.{none_named, other_there, some_named}
use Rattle.occ_files.proofs.gathering.Gathering.text.Goals as goal
use Rattle.occ_files.specs.Gathering.{has_name, has_path}
use Rattle.occ_files.specs.Paths.{name_of}
use Rattle.occ_files.specs.Refusals.{has_other}
use Rattle.occ_files.specs.declared.gathering.Text.{Text}
use Rattle.occ_files.specs.inside.Found.{place_in}
use Rattle.occ_project.specs.Reads.{name_cmp}

pub returns-in_err-place : goal.returns-in_err-place
returns-in_err-place g c =
    let none : get name_cmp c.args.self.now.places c.args.name ≡ None = search rules in
    let no : has_name c.args.self.now.found.texts.items c.args.name ≡ false = none_named c.args.self.now.found.texts.items c.args.self.now.places c.args.name c.requires.placed none in
    search rules

pub returns-clause-named : goal.returns-clause-named
returns-clause-named g c =
    let there : get name_cmp c.args.self.now.places c.args.name ≡ Some c.in_ok-place.place.now = search rules in
    c.get-2.ensures.lookup.0
    ∙ ap (λ (ts : List Text). nat_lt c.in_ok-place.place.now (length ts)) c.deref.ensures.value
    ∙ some_named c.args.self.now.found.texts.items c.args.self.now.places c.args.name c.in_ok-place.place.now c.requires.placed there

pub returns-clause-there : goal.returns-clause-there
returns-clause-there g c =
    let texts : List Text = c.deref.result.now in
    subst (λ (ts : List Text). IfSome c.get-2.result (λ t. has_path ts (string_bytes t.now.path) ≡ true)) c.deref.ensures.value (item_there texts c.in_ok-place.place.now c.get-2.result (c.get-2.ensures.lookup))

pub returns-clause-other : goal.returns-clause-other
returns-clause-other g c =
    let texts : List Text = c.deref.result.now in
    let there : get name_cmp c.args.self.now.places c.args.name ≡ Some c.in_ok-place.place.now = search rules in
    let place : place_in texts c.args.name ≡ Some c.in_ok-place.place.now = ap (λ (ts : List Text). place_in ts c.args.name) c.deref.ensures.value ∙ sym (c.requires.placed c.args.name) ∙ there in
    subst (λ (ts : List Text). IfSome c.get-2.result (λ t. (path : List ℕ) → c.args.name ≡ name_of path → bytes_eq (string_bytes t.now.path) path ≡ false → has_other ts path ≡ true)) c.deref.ensures.value
    (other_there texts c.args.name c.in_ok-place.place.now c.get-2.result place (c.get-2.ensures.lookup))
