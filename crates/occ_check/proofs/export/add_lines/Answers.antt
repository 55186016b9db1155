use Rattle.std.proofs.Common.{◌≡◌, ◌∙◌, ◌∷◌, ◌+◌, ◌++◌, ℕ, List, append_assoc, drop, length, sym, ap, arith}
use Rattle.std.proofs.lemmas.List.{drop_more}
use Rattle.occ_check.proofs.export.add_lines.Goals as goal
use Rattle.occ_check.specs.Exports.{line_entries, line_exports, lines_exports}
use Rattle.occ_types.specs.declared.interface.Export.{Export}
use Rattle.occ_usage.specs.TypedLine.{TypedLine}

pub loop-line-preserved : goal.loop-line-preserved
loop-line-preserved c =
    let env = c.args.env.now in
    let lines = c.args.lines.now in
    let i = c.loop-line.line-index in
    let n = c.loop-line.number in
    let line = c.line-item.result in
    let following = n + length (line_entries line) in
    let d : drop i lines ≡ line ∷ drop (i + 1) lines = drop_more lines i line (omega arith) ∙ ap (λ (l : TypedLine). l ∷ drop (i + 1) lines) (sym c.line-item.is) in
    ap (λ (m : ℕ). c.add_line.new.found.items ++ lines_exports env m (drop (i + 1) lines)) c.in_ok-number.ensures.next
    ∙ ap (λ (es : List Export). es ++ lines_exports env following (drop (i + 1) lines)) c.in_ok-number.ensures.found
    ∙ append_assoc c.loop-line.found.items (line_exports env n line) (lines_exports env following (drop (i + 1) lines))
    ∙ sym (ap (λ (ls : List TypedLine). c.loop-line.found.items ++ lines_exports env n ls) d)
    ∙ c.loop-line.invariant
