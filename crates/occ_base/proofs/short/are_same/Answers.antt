use Rattle.std.proofs.Common.{◌∙◌, arith}
use Rattle.occ_base.proofs.Digits.{is_number, same}
use Rattle.occ_base.proofs.short.are_same.Goals as goal

pub returns : goal.returns
returns c =
    let a = c.args.a.now in
    let b = c.args.b.now in
    rw (c.from_be_bytes.ensures ∙ is_number a (omega arith)) (rw (c.from_be_bytes-2.ensures ∙ is_number b (omega arith)) (same a b (omega arith) (λ i. omega (arith, c.fits-a i)) (λ i. omega (arith, c.fits-b i))))
