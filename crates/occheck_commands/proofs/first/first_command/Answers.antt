use Rattle.std.proofs.Common.{◌≡◌, ◌≤◌, ◌∙◌, ◌+◌, ◌++◌, ap, arith, sym, length, take, Some, None}
use Rattle.std.proofs.lemmas.Bool.{eqb-true}
use Rattle.occheck_commands.specs.Left.{ending, meant}
use Rattle.occheck_commands.specs.Lines.{cut_lines}
use Rattle.occheck_commands.specs.Script.{Command, then}
use Rattle.occheck_commands.specs.Script.Header.{Alone, Texts}
use Rattle.occheck_commands.specs.inside.Header.{edit_seen}
use Rattle.occheck_commands.proofs.FirstLine.{last_after_line, last_of_last, line_length, part_length}
use Rattle.occheck_commands.proofs.Going.{alone_says, begins, is_nothing, is_unfinished, texts_say}
use Rattle.occheck_commands.proofs.first.first_command.Goals as goal

pub returns-in-None-clause-says : goal.returns-in-None-clause-says
returns-in-None-clause-says c = λ over more.
    sym (c.skip_blank-left.ensures.same over more) ∙ begins over c.skip_blank-left.result.line c.skip_blank-left.result.bytes.now c.first_line.result.0.now c.first_line.result.1.now more None (c.skip_blank-left.ensures.ended c.requires.is_ended) c.first_line.ensures.cut (c.first_line.ensures.begun c.skip_blank-left.ensures.begun) c.in-None.ensures

pub returns-in-Some-Alone-clause-says : goal.returns-in-Some-Alone-clause-says
returns-in-Some-Alone-clause-says c = λ over more.
    sym (c.skip_blank-left.ensures.same over more)
    ∙ begins over c.skip_blank-left.result.line c.skip_blank-left.result.bytes.now c.first_line.result.0.now c.first_line.result.1.now more (Some (Alone (meant c.in-Some-Alone.command))) (c.skip_blank-left.ensures.ended c.requires.is_ended) c.first_line.ensures.cut (c.first_line.ensures.begun c.skip_blank-left.ensures.begun) (rw c.in-Some-Alone.field-0-is at c.in-Some-Alone.ensures)
    ∙ alone_says over c.skip_blank-left.result.line c.first_line.result.1.now more (meant c.in-Some-Alone.command) c.first_line.ensures.ended

pub returns-in-Some-Alone-clause-behind : goal.returns-in-Some-Alone-clause-behind
returns-in-Some-Alone-clause-behind c =
    let l : length c.first_line.result.1.now + 1 ≤ length c.skip_blank-left.result.bytes.now = line_length c.skip_blank-left.result.bytes.now c.first_line.result.0.now c.first_line.result.1.now c.first_line.ensures.text in
    let p : length c.skip_blank-left.result.bytes.now ≤ length c.args.lines.bytes.now = part_length c.args.lines.bytes.now _ c.skip_blank-left.result.bytes.now c.skip_blank-left.ensures.last.1 in (
      record {
        are_ended = record { is_ended = c.first_line.ensures.ended; small = omega (arith, c.skip_blank-left.ensures.line) };
        last = last_after_line c.args.lines.bytes.now c.skip_blank-left.result.bytes.now c.first_line.result.1.now c.first_line.result.0.now c.skip_blank-left.ensures.last c.first_line.ensures.text;
        line = omega (arith, c.skip_blank-left.ensures.line);
      },
      omega arith,
    )

pub returns-in-Ok-clause-says : goal.returns-in-Ok-clause-says
returns-in-Ok-clause-says c = λ over more.
    sym (c.skip_blank-left.ensures.same over more)
    ∙ begins over c.skip_blank-left.result.line c.skip_blank-left.result.bytes.now c.first_line.result.0.now c.first_line.result.1.now more (Some (Texts (edit_seen c.in-Some-Texts.edit) c.in-Some-Texts.name.now c.in-Some-Texts.count)) (c.skip_blank-left.ensures.ended c.requires.is_ended) c.first_line.ensures.cut (c.first_line.ensures.begun c.skip_blank-left.ensures.begun) (rw c.in-Some-Texts.field-0-is at c.in-Some-Texts.ensures)
    ∙ texts_say over c.skip_blank-left.result.line c.in-Some-Texts.count (edit_seen c.in-Some-Texts.edit) c.in-Some-Texts.name.now c.first_line.result.1.now c.in-Ok.following.now more c.in-Ok.ensures.enough c.in-Ok.ensures.ended c.in-Ok.ensures.text.1
    ∙ ap (λ (x : Command). then c.skip_blank-left.result.line x (ending over (c.skip_blank-left.result.line + 1 + c.in-Some-Texts.count) (c.in-Ok.following.now ++ more))) (sym (c.edited.ensures (take c.in-Some-Texts.count (cut_lines c.first_line.result.1.now)) c.in-Ok.ensures.text.0))

pub returns-in-Ok-clause-behind : goal.returns-in-Ok-clause-behind
returns-in-Ok-clause-behind c =
    let l : length c.first_line.result.1.now + 1 ≤ length c.skip_blank-left.result.bytes.now = line_length c.skip_blank-left.result.bytes.now c.first_line.result.0.now c.first_line.result.1.now c.first_line.ensures.text in
    let p : length c.skip_blank-left.result.bytes.now ≤ length c.args.lines.bytes.now = part_length c.args.lines.bytes.now _ c.skip_blank-left.result.bytes.now c.skip_blank-left.ensures.last.1 in
    let f = last_after_line c.args.lines.bytes.now c.skip_blank-left.result.bytes.now c.first_line.result.1.now c.first_line.result.0.now c.skip_blank-left.ensures.last c.first_line.ensures.text in (
      record {
        are_ended = record { is_ended = c.in-Ok.ensures.ended; small = omega (arith, c.skip_blank-left.ensures.line, c.in-Ok.ensures.less) };
        last = last_of_last c.args.lines.bytes.now c.first_line.result.1.now c.in-Ok.following.now c.in-Ok.text.now f c.in-Ok.ensures.last;
        line = omega (arith, c.skip_blank-left.ensures.line, c.in-Ok.ensures.less);
      },
      omega (arith, c.in-Ok.ensures.less),
    )

pub returns-in-Err-clause-behind : goal.returns-in-Err-clause-behind
returns-in-Err-clause-behind c =
    let p : length c.skip_blank-left.result.bytes.now ≤ length c.args.lines.bytes.now = part_length c.args.lines.bytes.now _ c.skip_blank-left.result.bytes.now c.skip_blank-left.ensures.last.1 in
    let l : length c.first_line.result.1.now + 1 ≤ length c.skip_blank-left.result.bytes.now = line_length c.skip_blank-left.result.bytes.now c.first_line.result.0.now c.first_line.result.1.now c.first_line.ensures.text in
    let part = is_unfinished c.skip_blank-left.result.line c.in-Some-Texts.count c.in-Err.lacks (edit_seen c.in-Some-Texts.edit) c.in-Some-Texts.name.now c.skip_blank-left.result.bytes.now c.first_line.result.0.now c.first_line.result.1.now (c.skip_blank-left.ensures.ended c.requires.is_ended) c.first_line.ensures.cut (c.first_line.ensures.begun c.skip_blank-left.ensures.begun) (rw c.in-Some-Texts.field-0-is at c.in-Some-Texts.ensures) (omega arith) c.in-Err.ensures.lacking.1 c.in-Err.ensures.lacking.0 in (
      record {
        are_ended = record { is_ended = c.skip_blank-left.ensures.ended c.requires.is_ended; small = omega (arith, c.skip_blank-left.ensures.line) };
        last = c.skip_blank-left.ensures.last;
        line = omega (arith, c.skip_blank-left.ensures.line);
      },
      record { begun = c.skip_blank-left.ensures.begun; lacking = part.0; some = c.in-Err.ensures.lacking.0; at_end = part.1 },
    )

pub returns-then-is_empty-clause-behind : goal.returns-then-is_empty-clause-behind
returns-then-is_empty-clause-behind c =
    let none : length c.skip_blank-left.result.bytes.now ≡ 0 = eqb-true (length c.skip_blank-left.result.bytes.now) 0 (sym c.if-is_empty.ensures) in
    let part = is_nothing c.skip_blank-left.result.line c.skip_blank-left.result.bytes.now none in (
      record {
        are_ended = record { is_ended = c.skip_blank-left.ensures.ended c.requires.is_ended; small = omega (arith, c.skip_blank-left.ensures.line) };
        last = c.skip_blank-left.ensures.last;
        line = omega (arith, c.skip_blank-left.ensures.line);
      },
      record { begun = c.skip_blank-left.ensures.begun; lacking = part.0; some = omega arith; at_end = part.1 },
    )
