use Rattle.std.proofs.Common.{◌≡◌, ◌∙◌, ap, sym, Option, Some, None}
use Rattle.std.specs.Option.{option_zip}
use Rattle.occ_typing_rules.specs.declared.expr.TypedExpr.{TypedExpr}
use Rattle.occ_typing_lines.specs.declared.tree.TypedForm.TheVariants as t
use Rattle.occ_typing_lines.specs.declared.tree.TypedGuard.{TypedGuard}
use Rattle.occ_typing_lines.specs.Parts.{guarded_form}
use Rattle.occ_typing_lines.proofs.guard.guarded_form.Goals as goal

both : (e : Option TypedExpr) (g : Option TypedGuard) (x : TypedExpr) (y : TypedGuard) → option_zip e g ≡ Some (x, y) → t.Guard x y ≡ guarded_form e g
both None g x y is = absurd cc
both (Some e) None x y is = absurd cc
both (Some e) (Some g) x y is = let h : (x, y) ≡ (e, g) = (cc) in ap (λ (z : TypedExpr × TypedGuard). t.Guard z.0 z.1) h

neither : (e : Option TypedExpr) (g : Option TypedGuard) → option_zip e g ≡ None → t.Unknown ≡ guarded_form e g
neither None g is = cc
neither (Some e) None is = cc
neither (Some e) (Some g) is = absurd cc

pub returns-in_ok-new-in-Some : goal.returns-in_ok-new-in-Some
returns-in_ok-new-in-Some c = ap (λ (g : TypedGuard). t.Guard c.in-Some.condition g) c.in_ok-new-in-Some.ensures ∙ both _ _ _ _ (sym c.zip.ensures ∙ c.in-Some.is)

pub returns-in-None : goal.returns-in-None
returns-in-None c = neither _ _ (sym c.zip.ensures ∙ c.in-None.is)
