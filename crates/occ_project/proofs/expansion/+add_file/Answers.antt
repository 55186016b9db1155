use Rattle.std.proofs.Common.{◌+◌, ℕ, List, [], ◌∷◌, ◌++◌, Some, drop, refl, sym, ap, ◌∙◌, arith}
use Rattle.std.proofs.lemmas.List.{drop_more}
use Rattle.std.specs.Option.{option_map}
use Rattle.occ_forms.specs.declared.source.SourceLine.{SourceLine}
use Rattle.occ_project.specs.declared.expansion.Inner.{Inner}
use Rattle.occ_project.specs.Entries.{FileEntries}
use Rattle.occ_project.specs.inside.Making.{after, step}
use Rattle.occ_project.proofs.Inclusions.{entries_are, inner_done, line_done, over_now, popped, some_left}
use Rattle.occ_project.proofs.expansion.+add_file.Goals as goal

pub loop-line-init : goal.loop-line-init
loop-line-init t c = record {
  way = refl;
  made = ap (λ (f : FileEntries). after c.args.made.now (f c.args.way.now c.args.opened.now.file c.args.opened.now.raise c.args.lines.now)) (sym (entries_are c.args.files.now.reads.now c.args.opened.now.left));
}

pub returns-then-made-clause-made : goal.returns-then-made-clause-made
returns-then-made-clause-made t c = over_now c.args.files.now.reads.now c.args.opened.now.left c.args.way.now c.args.opened.now.file c.args.opened.now.raise (drop c.loop-line.line-index c.args.lines.now) _ _ c.if-made.true c.loop-line.invariant.made

pub overflow_sub-next : goal.overflow_sub-next
overflow_sub-next t c =
    let of_found : Inner → List ℕ × List SourceLine = λ inner. (inner.name, inner.lines.now) in
    some_left c.as_slice.result.now c.args.files.now.reads.now c.args.opened.now.left c.line-item.result.body (c.in-Some.inner.name, c.in-Some.inner.lines.now) (sym (ap (option_map of_found) c.in-Some.is) ∙ c.in_ok-held.ensures.inner)

pub add_file-requires : goal.add_file-requires
add_file-requires t c =
    let of_found : Inner → List ℕ × List SourceLine = λ inner. (inner.name, inner.lines.now) in
    let some = some_left c.as_slice.result.now c.args.files.now.reads.now c.args.opened.now.left c.line-item.result.body (c.in-Some.inner.name, c.in-Some.inner.lines.now) (sym (ap (option_map of_found) c.in-Some.is) ∙ c.in_ok-held.ensures.inner) in
    (omega arith, omega arith)

pub loop-line-preserved : goal.loop-line-preserved
loop-line-preserved t c =
    let reads = c.args.files.now.reads.now in
    let left = c.args.opened.now.left in
    let way = c.args.way.now in
    let lines = c.args.lines.now in
    let i = c.loop-line.line-index in
    let line = c.line-item.result in
    let of_found : Inner → List ℕ × List SourceLine = λ inner. (inner.name, inner.lines.now) in
    let found = sym (ap (option_map of_found) c.in-Some.is) ∙ c.in_ok-held.ensures.inner in
    let some = some_left c.as_slice.result.now reads left line.body (c.in-Some.inner.name, c.in-Some.inner.lines.now) found in
    let same = c.loop-line.invariant.way in
    let split = drop_more lines i line (omega arith) ∙ ap (λ (l : SourceLine). l ∷ drop (i + 1) lines) (sym c.line-item.is) in
    record {
      way = popped way c.add_file.new.way c.pop.new.self c.in-Some.inner.name c.pop.result (c.in_ok-add_file.ensures.way ∙ (c.in_ok-push.ensures.ok ∙ ap (λ (ns : List (List ℕ)). ns ++ c.in-Some.inner.name ∷ []) same)) c.pop.ensures;
      made = line_done reads left way c.args.opened.now.file c.args.opened.now.raise line (drop (i + 1) lines) (drop i lines) c.as_slice.result.now (c.args.opened.now.raise + c.from.result) c.in_ok-held.held (Some (c.in-Some.inner.name, c.in-Some.inner.lines.now)) c.loop-line.made c.add_file.new.made _
          split (c.as_slice.ensures ∙ same) (ap (λ (n : ℕ). c.args.opened.now.raise + n) c.from.ensures) c.in_ok-held.ensures.entry found
          (inner_done reads left way c.loop-line.way c.push.new.self c.in-Some.inner.name c.in_ok-name.name (c.args.opened.now.raise + c.from.result) c.in-Some.inner.lines.now _ c.add.new.self c.add_file.new.made some same c.in_ok-push.ensures.ok (c.in_ok-add.ensures ∙ ap (λ (name : List ℕ). step c.loop-line.made (record { file = name; line = line.line; held = c.in_ok-held.held })) c.in_ok-file.ensures) c.in_ok-name.ensures c.in_ok-add_file.ensures.made)
          c.loop-line.invariant.made;
    }
