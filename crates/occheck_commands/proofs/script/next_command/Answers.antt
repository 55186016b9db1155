use Rattle.std.proofs.Common.{◌∙◌, Bool, Some, None, ap, sym, append-nil, cond, List, [], ℕ}
use Rattle.occheck_commands.specs.Left.{ending, meant}
use Rattle.occheck_commands.specs.Script.{Script, ended, then}
use Rattle.occheck_commands.proofs.Going.{ending_is}
use Rattle.occheck_commands.proofs.script.next_command.Goals as goal

pub returns-in-Command-clause-says : goal.returns-in-Command-clause-says
returns-in-Command-clause-says c =
    sym (ending_is c.args.rest.over c.args.rest.line c.args.rest.bytes.now c.requires.is_ended) ∙ c.in-Command.ensures.says c.args.rest.over []
    ∙ ap (λ (s : Script). then c.in-Command.line (meant c.in-Command.command) s) (ending_is c.args.rest.over c.in-Command.left.line c.in-Command.left.bytes.now c.in-Command.ensures.behind.0.are_ended.is_ended)

pub returns-in-Fault-clause-says : goal.returns-in-Fault-clause-says
returns-in-Fault-clause-says c = sym (ending_is c.args.rest.over c.args.rest.line c.args.rest.bytes.now c.requires.is_ended) ∙ c.in-Fault.ensures.says c.args.rest.over []

pub returns-then-is_cut_short-clause-says : goal.returns-then-is_cut_short-clause-says
returns-then-is_cut_short-clause-says c =
    sym (ending_is c.args.rest.over c.args.rest.line c.args.rest.bytes.now c.requires.is_ended) ∙ c.in-Unfinished.ensures.says c.args.rest.over [] ∙ ap (λ (x : List ℕ). ending c.args.rest.over c.in-Unfinished.left.line x) (append-nil c.in-Unfinished.left.bytes.now)
    ∙ c.in-Unfinished.ensures.behind.1.at_end c.args.rest.over ∙ ap (λ (x : Bool). ended (cond x (Some c.in-Unfinished.left.line) None)) (sym c.if-is_cut_short.ensures)

pub returns-else-is_cut_short-clause-says : goal.returns-else-is_cut_short-clause-says
returns-else-is_cut_short-clause-says c =
    sym (ending_is c.args.rest.over c.args.rest.line c.args.rest.bytes.now c.requires.is_ended) ∙ c.in-Unfinished.ensures.says c.args.rest.over [] ∙ ap (λ (x : List ℕ). ending c.args.rest.over c.in-Unfinished.left.line x) (append-nil c.in-Unfinished.left.bytes.now)
    ∙ c.in-Unfinished.ensures.behind.1.at_end c.args.rest.over ∙ ap (λ (x : Bool). ended (cond x (Some c.in-Unfinished.left.line) None)) (sym c.if-is_cut_short.ensures)
