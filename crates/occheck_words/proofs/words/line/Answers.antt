use Rattle.std.proofs.Common.{ap, ap₂, codes, ◌≡◌, ◌∙◌}
use Rattle.std.proofs.lemmas.Result.{IfOk-weaker}
use Rattle.clap.specs.Simple.{app_of_fields}
use Rattle.clap.specs.Words.{app_of, new_app, with_rule}
use Rattle.occheck_words.specs.Line.{line}
use Rattle.occheck_words.proofs.words.line.Goals as goal

pub returns : goal.returns
unfolding line
returns c =
    let named : app_of c.about.result ≡ new_app (codes "occheck") = ap app_of_fields c.about.ensures ∙ c.new.ensures.app in
    let one = c.in_ok-arg.ensures.shape c.steps_flag.ensures.local ∙ ap₂ with_rule named c.steps_flag.ensures.rule in
    let two = c.in_ok-arg-2.ensures.shape c.workers_option.ensures.local ∙ ap₂ with_rule one c.workers_option.ensures.rule in
    IfOk-weaker c.arg-3.result _ _ (λ command added. added.shape c.scripts_argument.ensures.local ∙ ap₂ with_rule two c.scripts_argument.ensures.rule) c.arg-3.ensures
