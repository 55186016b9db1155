use Rattle.std.proofs.Common.{◌≡◌, ◌∙◌, ◌++◌, List, [], Result, Ok, Err, OnOk, ap, sym}
use Rattle.std.proofs.lemmas.List.{append-nil}
use Rattle.occ_base.specs.declared.diag.Diag.{Diag}
use Rattle.occ_usage.specs.AbbreviationRule.{abbreviation_at}
use Rattle.occ_usage.specs.ParallelRule.{parallel_at}
use Rattle.occ_usage.specs.Trees.{head_of, under}
use Rattle.occ_usage.specs.Walk.{line_reported, reported_of}
use Rattle.occ_usage.proofs.walk.outer_line.Goals as goal

-- nothing more
no_more : (ds more : List Diag) → more ≡ [] → ds ≡ ds ++ more
no_more ds more none = sym (ap (λ (x : List Diag). ds ++ x) none ∙ append-nil ds)

added_none : {T E : Type 0} (r : Result T E) (ds more : List Diag) → more ≡ [] → OnOk r (ds ≡ ds ++ more)
added_none (Ok x) ds more none = no_more ds more none
added_none (Err e) ds more none = tt

pub returns-then-is_idle-clause-parallel : goal.returns-then-is_idle-clause-parallel
returns-then-is_idle-clause-parallel c =
    let h = head_of c.args.one.now in
    let u = under c.args.one.now in
    added_none c.go_after.result c.args.reported.now.parallel (line_reported parallel_at c.args.env.now h u (reported_of parallel_at u))
    (c.is_idle.ensures.parallel c.if-is_idle.true c.args.env.now)

pub returns-then-is_idle-clause-abbreviations : goal.returns-then-is_idle-clause-abbreviations
returns-then-is_idle-clause-abbreviations c =
    let h = head_of c.args.one.now in
    let u = under c.args.one.now in
    added_none c.go_after.result c.args.reported.now.abbreviations (line_reported abbreviation_at c.args.env.now h u (reported_of abbreviation_at u))
    (c.is_idle.ensures.abbreviations c.if-is_idle.true c.args.env.now)
