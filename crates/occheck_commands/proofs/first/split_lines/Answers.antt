use Rattle.std.proofs.Common.{◌≡◌, ◌∙◌, sym, length, arith}
use Rattle.std.proofs.lemmas.Bool.{eqb-true}
use Rattle.occheck_commands.specs.Lines.{cut_lines}
use Rattle.occheck_commands.proofs.FirstLine.{all_passed, drop_more, count_more, text_step, less_by}
use Rattle.occheck_commands.proofs.first.split_lines.Goals as goal

pub returns-then-is_empty-clause-lacking : goal.returns-then-is_empty-clause-lacking
returns-then-is_empty-clause-lacking c =
    let none : length c.loop-passed.following.now ≡ 0 = eqb-true (length c.loop-passed.following.now) 0 (sym c.if-is_empty.ensures) in
    let all : length (cut_lines c.args.bytes.now) ≡ c.loop-passed.passed = all_passed (cut_lines c.args.bytes.now) c.loop-passed.following.now c.loop-passed.passed c.loop-passed.invariant.rest none c.loop-passed.invariant.enough in
    (omega arith, omega arith)

pub loop-passed-preserved : goal.loop-passed-preserved
loop-passed-preserved c = record {
  ended = c.first_line.ensures.ended;
  rest = drop_more (cut_lines c.args.bytes.now) c.loop-passed.passed _ _ (c.loop-passed.invariant.rest ∙ c.first_line.ensures.cut);
  text = text_step (cut_lines c.args.bytes.now) _ _ _ _ c.loop-passed.passed c.loop-passed.invariant.rest c.first_line.ensures.cut c.first_line.ensures.text c.loop-passed.invariant.text;
  enough = count_more (cut_lines c.args.bytes.now) c.loop-passed.passed _ _ (c.loop-passed.invariant.rest ∙ c.first_line.ensures.cut);
  less = less_by c.loop-passed.following.now c.first_line.result.0.now _ c.loop-passed.passed _ c.first_line.ensures.text c.loop-passed.invariant.less;
}
