use Rattle.std.proofs.Common.{◌≡◌, ◌+◌, ◌<◌, ◌≤◌, ◌∙◌, ℕ, length, min, refl, sym, ap, subst, arith, true, false}
use Rattle.std.proofs.lemmas.Option.{slice_get_past, slice_get_read}
use Rattle.occ_server.proofs.Offs.{all_there, more_there, none_there, one_more, other_there}
use Rattle.occ_server.proofs.comparing.first_off.Goals as goal
use Rattle.occ_server.specs.Receipts.{IsLeastOff, receipts_of}
use Rattle.std.proofs.Common.{take}

pub returns-in-None-clause-off : goal.returns-in-None-clause-off
returns-in-None-clause-off c =
    let past : length c.args.receipts.now ≤ c.loop-index.index = grind (arith, c.in-None.ensures.lookup) in
    none_there c.loop-index.index c.args.receipts.now c.args.base.now c.args.entries.now c.index-entries-index.result c.requires.order c.loop-index.invariant (slice_get_past _ _ past)
    (slice_get_read _ _ _ _ refl c.loop-index-test.true c.index-entries-index.is)

pub returns-then-not-is_of-clause-off : goal.returns-then-not-is_of-clause-off
returns-then-not-is_of-clause-off c =
    let within : c.loop-index.index < length c.args.receipts.now = grind (arith, c.in-Some.ensures.lookup.0) in
    let least : IsLeastOff c.args.receipts.now c.args.base.now c.args.entries.now (min (c.args.base.now.number + c.loop-index.index + 1) c.in-Some.receipt.now.number) =
    other_there c.loop-index.index c.args.receipts.now c.args.base.now c.args.entries.now c.in-Some.receipt.now c.index-entries-index.result c.requires.order c.loop-index.invariant
    (slice_get_read _ _ _ _ refl within c.in-Some.ensures.lookup.1) (slice_get_read _ _ _ _ refl c.loop-index-test.true c.index-entries-index.is)
    (λ e. let h : false ≡ true = sym c.if-not-is_of.true ∙ c.is_of.ensures.1 e in absurd cc) in
    subst (λ (n : ℕ). IsLeastOff c.args.receipts.now c.args.base.now c.args.entries.now n) (sym (c.min.ensures ∙ ap (min (c.args.base.now.number + c.loop-index.index + 1)) c.number.ensures.number)) least

pub loop-index-preserved : goal.loop-index-preserved
loop-index-preserved c =
    let within : c.loop-index.index < length c.args.receipts.now = grind (arith, c.in-Some.ensures.lookup.0) in
    one_more c.loop-index.index c.args.receipts.now c.args.base.now c.args.entries.now c.in-Some.receipt.now c.index-entries-index.result c.loop-index.invariant (slice_get_read _ _ _ _ refl within c.in-Some.ensures.lookup.1)
    (slice_get_read _ _ _ _ refl c.loop-index-test.true c.index-entries-index.is) (c.is_of.ensures.0 c.if-not-is_of.false)

pub returns-in-Some-get-clause-off : goal.returns-in-Some-get-clause-off
returns-in-Some-get-clause-off c =
    let end : c.loop-index.index ≡ length c.args.entries.now = omega (arith, c.loop-index-test.false, c.loop-index.auto.index-end) in
    let all : take (length c.args.entries.now) c.args.receipts.now ≡ take (length c.args.entries.now) (receipts_of c.args.base.now c.args.entries.now) = subst (λ (k : ℕ). take k c.args.receipts.now ≡ take k (receipts_of c.args.base.now c.args.entries.now)) end c.loop-index.invariant in
    let within : length c.args.entries.now < length c.args.receipts.now = grind (arith, c.in-Some-get.ensures.lookup.0) in
    let least : IsLeastOff c.args.receipts.now c.args.base.now c.args.entries.now c.in-Some-get.receipt.now.number =
    more_there c.args.receipts.now c.args.base.now c.args.entries.now c.in-Some-get.receipt.now c.requires.order all (slice_get_read _ _ _ _ refl within c.in-Some-get.ensures.lookup.1) in
    subst (λ (n : ℕ). IsLeastOff c.args.receipts.now c.args.base.now c.args.entries.now n) (sym c.number-in-Some-get.ensures.number) least

pub returns-in-None-get-clause-none : goal.returns-in-None-get-clause-none
returns-in-None-get-clause-none c =
    let end : c.loop-index.index ≡ length c.args.entries.now = omega (arith, c.loop-index-test.false, c.loop-index.auto.index-end) in
    let all : take (length c.args.entries.now) c.args.receipts.now ≡ take (length c.args.entries.now) (receipts_of c.args.base.now c.args.entries.now) = subst (λ (k : ℕ). take k c.args.receipts.now ≡ take k (receipts_of c.args.base.now c.args.entries.now)) end c.loop-index.invariant in
    let past : length c.args.receipts.now ≤ length c.args.entries.now = grind (arith, c.in-None-get.ensures.lookup) in
    all_there c.args.receipts.now c.args.base.now c.args.entries.now all (slice_get_past _ _ past)
