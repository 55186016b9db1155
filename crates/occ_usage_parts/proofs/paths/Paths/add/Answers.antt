use Rattle.std.proofs.Common.{rules, ◌≡◌, ◌<◌, ◌∙◌, List, Some, ap, arith, false, length, not, refl, subst, sym}
use Rattle.std.specs.Prelude.{◌||◌, slice_get}
use Rattle.std.proofs.lemmas.Option.{slice_get_read}
use Rattle.occ_types.specs.declared.interface.PartSelector.{PartSelector}
use Rattle.occ_usage_parts.specs.Keeping.{meets_some}
use Rattle.occ_usage_parts.specs.Parts.{are_apart}
use Rattle.occ_usage_parts.specs.inside.Paths.{APath, ended, parts_in}
use Rattle.occ_usage_parts.proofs.Asking.{on_err, on_ok}
use Rattle.occ_usage_parts.proofs.Fronts.{set_fewer, set_meets}
use Rattle.occ_usage_parts.proofs.paths.Paths.add.Goals as goal

pub returns-in-Some-clause-ok : goal.returns-in-Some-clause-ok
returns-in-Some-clause-ok c =
    let paths = c.self.inside.paths.items in
    let old : APath = c.index_mut.result.now in
    let view : c.args.self.now ≡ parts_in paths = search rules in
    let within : c.in-Some.at < length paths = search rules in
    let there : slice_get paths c.in-Some.at ≡ Some old = slice_get_read paths (length paths) c.in-Some.at old refl within c.index_mut.ensures.value in
    let found = c.in-Some.ensures.begins in
    let place : slice_get paths c.in-Some.at ≡ Some found.0 = ap (λ ps. slice_get ps c.in-Some.at) (sym c.as_slice.ensures.value) ∙ found.1 in
    let same : old ≡ found.0 = grind (arith, there, place) in
    let front : ended old.0 c.split-last.result.1 ≡ c.args.part.now = ap (λ (p : APath). ended p.0 c.split-last.result.1) same ∙ ap (λ f. ended f c.split-last.result.1) found.2 ∙ sym c.split-last.ensures in
    on_ok c.add.result (λ h q.
    set_meets paths c.in-Some.at old c.add.new.self (not (are_apart c.args.part.now q)) q there (h q ∙ ap (λ (p : List PartSelector). meets_some old.1 q || not (are_apart p q)) front)
    ∙ ap (λ (ps : List (List PartSelector)). meets_some ps q || not (are_apart c.args.part.now q)) (sym view)) c.add.ensures.ok

pub returns-in-Some-clause-err : goal.returns-in-Some-clause-err
returns-in-Some-clause-err c =
    let paths = c.self.inside.paths.items in
    let old : APath = c.index_mut.result.now in
    let view : c.args.self.now ≡ parts_in paths = search rules in
    let within : c.in-Some.at < length paths = search rules in
    let there : slice_get paths c.in-Some.at ≡ Some old = slice_get_read paths (length paths) c.in-Some.at old refl within c.index_mut.ensures.value in
    on_err c.add.result (λ h q k. set_fewer paths c.in-Some.at old c.add.new.self q there (h q) (subst (λ (ps : List (List PartSelector)). meets_some ps q ≡ false) view k)) c.add.ensures.err
