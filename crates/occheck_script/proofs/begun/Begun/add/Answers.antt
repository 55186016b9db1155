use Rattle.std.proofs.Common.{◌<◌, ◌-◌, ◌++◌, ◌∙◌, List, ℕ, ap, arith, length, refl, subst, sym, append_assoc, length-append}
use Rattle.occheck_commands.specs.Ended.{IsNoFeed}
use Rattle.occheck_commands.specs.Left.{ending}
use Rattle.occheck_commands.specs.Script.{Script}
use Rattle.occheck_script.specs.inside.Going.{IsRefusedIn}
use Rattle.occheck_script.proofs.Partial.{bytes_say, is_begun_more}
use Rattle.occheck_script.proofs.begun.Begun.add.Goals as goal

pub returns-in-Ok-clause-begun : goal.returns-in-Ok-clause-begun
returns-in-Ok-clause-begun c =
    is_begun_more _ c.without_blank-added.new.self.bytes.items c.without_blank-added.result.now c.without_blank-added.new.self.line c.without_blank-added.new.self.lacks c.lines_lacking-self.result c.without_blank-added.ensures.begun.lacking
    (subst (λ x. IsNoFeed (x.items ++ c.without_blank-added.result.now)) (sym c.without_blank-added.ensures.bytes) c.without_blank-added.ensures.begins) c.in-Ok.ensures.items refl c.lines_lacking-self.ensures refl

pub returns-in-Ok-clause-same : goal.returns-in-Ok-clause-same
returns-in-Ok-clause-same c = λ over more.
    ap (λ (x : List ℕ). ending over c.without_blank-added.new.self.line (x ++ more)) c.in-Ok.ensures.items
    ∙ ap (λ x. ending over c.without_blank-added.new.self.line ((x.items ++ c.without_blank-added.result.now) ++ more)) c.without_blank-added.ensures.bytes
    ∙ ap (λ (x : List ℕ). ending over c.without_blank-added.new.self.line x) (append_assoc c.args.self.now.bytes.items c.without_blank-added.result.now more)
    ∙ c.without_blank-added.ensures.same over more

pub returns-in-Err-clause-refused : goal.returns-in-Err-clause-refused
returns-in-Err-clause-refused c = λ over more.
    let some : 0 < length c.without_blank-added.result.now = omega (arith, c.in-Err.ensures.full, c.without_blank-added.new.self.bytes.ok) in
    subst (λ (x : Script). IsRefusedIn 0 x)
    (ap (λ (x : List ℕ). ending over c.without_blank-added.new.self.line x) (append_assoc c.args.self.now.bytes.items c.without_blank-added.result.now more) ∙ c.without_blank-added.ensures.same over more)
    (bytes_say over c.without_blank-added.new.self.line (c.args.self.now.bytes.items ++ c.without_blank-added.result.now) more c.without_blank-added.ensures.begins (omega (arith, length-append c.args.self.now.bytes.items c.without_blank-added.result.now)))
