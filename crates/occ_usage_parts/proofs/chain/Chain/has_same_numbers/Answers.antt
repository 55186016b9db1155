use Rattle.std.proofs.Common.{rules, ◌≡◌, ◌∙◌, ◌≤◌, ℕ, List, length, slice_get, ap, sym, arith}
use Rattle.occ_usage_parts.proofs.Chains.{are_same, same_all}
use Rattle.occ_usage_parts.proofs.chain.Chain.has_same_numbers.Goals as goal

pub returns : goal.returns
returns c =
    let long : length c.args.self.now ≡ length c.args.other.now = search rules in
    let count : length c.args.self.now ≤ c.loop-index.index = search rules in
    are_same c.args.self.now c.args.other.now (same_all c.args.self.now c.args.other.now long (λ k w.
    ap (λ (xs : List ℕ). slice_get xs k) (sym c.parts.ensures)
    ∙ c.loop-index.invariant k (omega (arith, w, count))
    ∙ ap (λ (xs : List ℕ). slice_get xs k) c.parts-2.ensures))
