use Rattle.std.proofs.Common.{◌+◌, ℕ, List, [], ◌∷◌, ◌++◌, Some, drop, refl, sym, ap, ◌∙◌, ◌≡◌, arith}
use Rattle.std.proofs.lemmas.List.{drop_more}
use Rattle.occ_forms.specs.declared.source.SourceLine.{SourceLine}
use Rattle.occ_project.specs.Entries.{FileEntries, held, included, put_in}
use Rattle.occ_project_units.specs.inside.Skimming.{after, step}
use Rattle.occ_project_units.proofs.Noting.{entries_are, inner_done, line_done, over_now, popped, some_left}
use Rattle.occ_project_units.proofs.skimming.+note_lines.Goals as goal

pub loop-line-init : goal.loop-line-init
loop-line-init t c = record {
  way = refl;
  noted = λ file raise. ap (λ (f : FileEntries). after c.args.noted.now (f c.args.way.now file raise c.args.lines.now)) (sym (entries_are c.args.project.now c.args.left));
}

pub returns-then-noted-clause-noted : goal.returns-then-noted-clause-noted
returns-then-noted-clause-noted t c = λ file raise.
    over_now c.args.project.now c.args.left c.args.way.now file raise (drop c.loop-line.line-index c.args.lines.now) _ _ c.if-noted.true (c.loop-line.invariant.noted file raise)

pub loop-line-preserved : goal.loop-line-preserved
loop-line-preserved t c =
    let reads = c.args.project.now in
    let left = c.args.left in
    let way = c.args.way.now in
    let lines = c.args.lines.now in
    let i = c.loop-line.line-index in
    let line = c.line-item.result in
    let inner = c.in-Some.inner in
    let same = c.loop-line.invariant.way in
    let found : Some (inner.name, inner.lines.now) ≡ put_in (included reads way left) line.body =
    c.in-Some.ensures ∙ ap (λ (ns : List (List ℕ)). put_in (included reads ns left) line.body) (c.as_slice-in-loop-line.ensures ∙ same)
    in
    let some = some_left way reads left line.body (inner.name, inner.lines.now) found in
    let split = drop_more lines i line (omega arith) ∙ ap (λ (l : SourceLine). l ∷ drop (i + 1) lines) (sym c.line-item.is) in
    record {
      way = popped way c.note_lines.new.way c.pop.new.self inner.name c.pop.result (c.in_ok-note_lines.ensures.way ∙ (c.in_ok-push.ensures.ok ∙ ap (λ (ns : List (List ℕ)). ns ++ inner.name ∷ []) same)) c.pop.ensures;
      noted = λ file raise.
          line_done reads left way file raise line (drop (i + 1) lines) (drop i lines) (Some (inner.name, inner.lines.now)) c.loop-line.noted c.note_line.new.noted c.note_lines.new.noted _
          split
          (c.in_ok-note_line.ensures (raise + line.depth) ∙ ap (λ (ns : List (List ℕ)). step c.loop-line.noted (held reads (included reads ns left) (raise + line.depth) line.body)) (c.as_slice.ensures ∙ same))
          found
          (inner_done reads left way c.loop-line.way c.push.new.self inner.name (raise + line.depth) inner.lines.now c.note_line.new.noted c.note_lines.new.noted some same c.in_ok-push.ensures.ok (c.in_ok-note_lines.ensures.noted inner.name (raise + line.depth)))
          (c.loop-line.invariant.noted file raise);
    }
