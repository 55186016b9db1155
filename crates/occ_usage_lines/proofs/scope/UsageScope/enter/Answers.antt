use Rattle.occ_usage_lines.proofs.Listing.{entered_or_refused}
use Rattle.occ_usage_lines.specs.inside.Noting.{has_read, names_in}
use Rattle.occ_usage_lines.proofs.scope.UsageScope.enter.Goals as goal

pub invariant_of-self-2 : goal.invariant_of-self-2
invariant_of-self-2 c = record {
  named = entered_or_refused c.push.result names_in c.self.inside.bounds c.push.new.self c.args.bound c.len-number.result c.self.inside.named.items c.note_bound.new.named.items
      c.push.ensures.ok c.push.ensures.err c.self.invariant.named c.in_ok-note_bound.ensures.named_kept c.len-number.ensures c.in_ok-note_bound.ensures.named;
  read = entered_or_refused c.push.result has_read c.self.inside.bounds c.push.new.self c.args.bound c.len-number.result c.self.inside.read.items c.note_bound.new.read.items
      c.push.ensures.ok c.push.ensures.err c.self.invariant.read c.in_ok-note_bound.ensures.read_kept c.len-number.ensures c.in_ok-note_bound.ensures.read;
}
