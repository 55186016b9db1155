use Rattle.std.proofs.Common.{◌∙◌, arith, sym}
use Rattle.occ_lines.proofs.Dots.{dot_within}
use Rattle.occ_lines.proofs.directive.without_suffix.Goals as goal

pub split_at-requires : goal.split_at-requires
split_at-requires c = let within = dot_within c.args.name.now in let n = rw (sym c.last_dot.ensures ∙ c.in-Some.is) at within in omega (arith, n)
