-- What is received after other things.
use Rattle.std.proofs.Common.{◌≡◌, ◌∙◌, ℕ, List, [], ◌∷◌, ◌++◌, Option, Result, Ok, Err, OnOk, ap, refl, sym, append_assoc}
use Rattle.occ_base.specs.declared.fault.Fault.{Fault}
use Rattle.occ_forms.specs.declared.tree.Detail.{Detail}
use Rattle.occ_base.specs.Lists.{joined, one_part}
use Rattle.occ_base.proofs.Fronts.{front_of_front, none_in_front}
use Rattle.occ_scope.specs.declared.scope.Scope.{Scope}
use Rattle.occ_protocol.specs.Carrying.{carrier}
use Rattle.occ_protocol.specs.Lines.{alternative}
use Rattle.occ_protocol.specs.declared.given.Given.{Given}
use Rattle.occ_typing_statements.specs.Receiving.{Received, detail_received, details_received, givens, received_faults, received_trees}
use Rattle.occ_typing_statements.specs.Variants.{repeated, variant_faults, variant_of}
use Rattle.occ_typing_statements.specs.declared.exchange_tree.TypedTarget.{TypedTarget}
use Rattle.occ_typing_statements.specs.declared.variants.CaseInput.{CaseInput}

pub both_received : (s : Scope) (ds es : List Detail) → details_received s (ds ++ es) ≡ details_received s ds ++ details_received s es
both_received s [] es = refl
both_received s (d ∷ ds) es = ap (λ (z : List Received). detail_received s d ∷ z) (both_received s ds es)

pub both_givens : (xs ys : List Received) → givens (xs ++ ys) ≡ givens xs ++ givens ys
both_givens [] ys = refl
both_givens (x ∷ xs) ys = ap (λ (z : List Given). x.given ∷ z) (both_givens xs ys)

pub both_faults : (xs ys : List Received) → received_faults (xs ++ ys) ≡ received_faults xs ++ received_faults ys
both_faults [] ys = refl
both_faults (x ∷ xs) ys =
    ap (λ (z : List Fault). x.faults ++ z) (both_faults xs ys) ∙ sym (append_assoc x.faults (received_faults xs) (received_faults ys))

pub both_trees : (xs ys : List Received) → received_trees (xs ++ ys) ≡ joined (received_trees xs) (received_trees ys)
both_trees [] ys = sym (none_in_front (received_trees ys))
both_trees (x ∷ xs) ys =
    ap (λ (z : Option (List TypedTarget)). joined (one_part x.tree) z) (both_trees xs ys)
    ∙ sym (front_of_front (one_part x.tree) (received_trees xs) (received_trees ys))

pub ruleset both_rules = (both_received, both_givens, both_faults, both_trees)

-- ---- one more after what was received

pub step_received : (one : Received) (rs : List Received) (gs more_gs all_gs : List Given) (ts more_ts all_ts : Option (List TypedTarget)) (fs more_fs all_fs : List Fault) (given : Given) (tree : Option TypedTarget)
    → given ≡ one.given → tree ≡ one.tree
    → more_gs ≡ gs ++ given ∷ [] → more_ts ≡ joined ts (one_part tree) → more_fs ≡ fs ++ one.faults
    → gs ++ givens (one ∷ rs) ≡ all_gs → joined ts (received_trees (one ∷ rs)) ≡ all_ts → fs ++ received_faults (one ∷ rs) ≡ all_fs
    → (more_gs ++ givens rs ≡ all_gs) × (joined more_ts (received_trees rs) ≡ all_ts) × (more_fs ++ received_faults rs ≡ all_fs)
step_received one rs gs more_gs all_gs ts more_ts all_ts fs more_fs all_fs given tree is_given is_tree known made reported g t f =
    let known_all : more_gs ++ givens rs ≡ all_gs
    = ap (λ (z : List Given). z ++ givens rs) known ∙ append_assoc gs (given ∷ []) (givens rs) ∙ ap (λ (z : Given). gs ++ z ∷ givens rs) is_given ∙ g in
    let made_all : joined more_ts (received_trees rs) ≡ all_ts
    = ap (λ (z : Option (List TypedTarget)). joined z (received_trees rs)) made
    ∙ front_of_front ts (one_part tree) (received_trees rs)
    ∙ ap (λ (z : Option TypedTarget). joined ts (joined (one_part z) (received_trees rs))) is_tree
    ∙ t in
    let reported_all : more_fs ++ received_faults rs ≡ all_fs
    = ap (λ (z : List Fault). z ++ received_faults rs) reported ∙ append_assoc fs one.faults (received_faults rs) ∙ f in
    (known_all, made_all, reported_all)

-- ---- of a variant

whatever : {T E : Type 0} (r : Result T E) {P : Type 0} → P → OnOk r P
whatever (Ok x) p = p
whatever (Err y) p = tt

four_after : (a b c d e : List Fault) → (((a ++ b) ++ c) ++ d) ++ e ≡ a ++ ((b ++ c) ++ (d ++ e))
four_after a b c d e =
    append_assoc ((a ++ b) ++ c) d e ∙ ap (λ (z : List Fault). z ++ (d ++ e)) (append_assoc a b c) ∙ append_assoc a (b ++ c) (d ++ e)

variant_both : (s : Scope) (x : CaseInput) (tag : List ℕ) (ds es : List Detail)
    → variant_faults s x tag (ds ++ es)
    ≡ (received_faults (details_received s ds) ++ received_faults (details_received s es))
    ++ (alternative (carrier x.channel) x.root tag (givens (details_received s ds) ++ givens (details_received s es)) ++ repeated (carrier x.channel) x.tags tag)
unfolding variant_faults
variant_both s x tag ds es =
    let a = details_received s ds in
    let b = details_received s es in
    ap (variant_of x tag) (both_received s ds es)
    ∙ ap (λ (z : List Fault). z ++ (alternative (carrier x.channel) x.root tag (givens (a ++ b)) ++ repeated (carrier x.channel) x.tags tag)) (both_faults a b)
    ∙ ap (λ (z : List Given). (received_faults a ++ received_faults b) ++ (alternative (carrier x.channel) x.root tag z ++ repeated (carrier x.channel) x.tags tag)) (both_givens a b)

pub variant_reported : {T E : Type 0} (r : Result T E) (s : Scope) (x : CaseInput) (tag : List ℕ) (ds es : List Detail) (start first more asked all : List Fault) (gs : List Given)
    → first ≡ start ++ received_faults (details_received s ds)
    → more ≡ first ++ received_faults (details_received s es)
    → asked ≡ more ++ alternative (carrier x.channel) x.root tag gs
    → all ≡ asked ++ repeated (carrier x.channel) x.tags tag
    → gs ≡ givens (details_received s ds) ++ givens (details_received s es)
    → OnOk r (all ≡ start ++ variant_faults s x tag (ds ++ es))
variant_reported r s x tag ds es start first more asked all gs e1 e2 e3 e4 e5 =
    let a = received_faults (details_received s ds) in
    let b = received_faults (details_received s es) in
    let ns = givens (details_received s ds) ++ givens (details_received s es) in
    let again = repeated (carrier x.channel) x.tags tag in
    let c = alternative (carrier x.channel) x.root tag ns in
    whatever r
    (e4
    ∙ ap (λ (z : List Fault). z ++ again) (e3
    ∙ ap (λ (z : List Given). more ++ alternative (carrier x.channel) x.root tag z) e5
    ∙ ap (λ (z : List Fault). z ++ c) (e2 ∙ ap (λ (z : List Fault). z ++ b) e1))
    ∙ four_after start a b c again
    ∙ ap (λ (z : List Fault). start ++ z) (sym (variant_both s x tag ds es)))
