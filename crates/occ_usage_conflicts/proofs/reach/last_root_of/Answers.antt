use Rattle.std.proofs.Common.{◌≡◌, ◌∙◌, ℕ, zero, suc, Some, List, [], ◌∷◌, slice_get, ap}
use Rattle.occ_usage_values.specs.declared.uses.Use.{Use}
use Rattle.occ_usage_conflicts.proofs.Reaching.{no_clash}
use Rattle.occ_usage_conflicts.proofs.reach.last_root_of.Goals as goal

-- of two lists that are the same, each use is one of that list
in_both : (us vs : List Use) (k j : ℕ) (u : Use) → slice_get (us ∷ us ∷ []) k ≡ Some vs → slice_get vs j ≡ Some u → slice_get us j ≡ Some u
in_both us vs zero j u at here = let e : us ≡ vs = cc in ap (λ (ws : List Use). slice_get ws j) e ∙ here
in_both us vs (suc zero) j u at here = let e : us ≡ vs = cc in ap (λ (ws : List Use). slice_get ws j) e ∙ here
in_both us vs (suc (suc k)) j u at here = absurd cc

pub returns : goal.returns
returns c r root past =
    no_clash r root c.greatest.result (c.args.uses.now ∷ c.args.uses.now ∷ []) (λ k j vs u at here.
    c.greatest.ensures.roots j u (in_both c.args.uses.now vs k j u at here)) past
