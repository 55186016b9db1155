use Rattle.std.proofs.Common.{◌≡◌, ◌+◌, ℕ, [], ◌∷◌, ◌++◌, take, length, cond, Option, Some, sym, ap, ◌∙◌, arith}
use Rattle.std.specs.BTreeMap.{get}
use Rattle.std.specs.Option.{is_some}
use Rattle.std.specs.Ordering.{is_eq}
use Rattle.std.proofs.lemmas.List.{length-take-le, take_more}
use Rattle.occ_project.specs.declared.reads.Read.{Read}
use Rattle.occ_project.specs.Reads.{name_cmp, index}
use Rattle.occ_project.proofs.Members.{index_kept, index_new}
use Rattle.occ_project.proofs.files.indices.Goals as goal
use Rattle.occ_project.proofs.files.indices.Goals.{then-not-contains_key+in_ok-insert, else-not-contains_key}

pub loop-i-preserved : goal.loop-i-preserved
loop-i-preserved c =
    let reads = c.args.reads.now in
    let i = c.loop-i.i in
    let read = c.index-reads-i.result in
    let first = take i reads in
    let len : length first ≡ i = length-take-le i reads (omega arith) in
    let t : take (i + 1) reads ≡ first ++ read ∷ [] = take_more reads i read (omega arith) ∙ ap (λ (r : Read). first ++ r ∷ []) (sym c.index-reads-i.is) in
    let known = sym (ap is_some (c.loop-i.invariant read.name)) ∙ sym c.contains_key.ensures in
    λ name. rw t (elim c.if-not-contains_key.branch [
      | then-not-contains_key+in_ok-insert w ↦
          ap (λ m. get name_cmp m name) w.indices-is
          ∙ w.in_ok-insert.ensures.updates.0 name
          ∙ ap (λ (o : Option ℕ). cond (is_eq (name_cmp read.name name)) (Some i) o) (c.loop-i.invariant name)
          ∙ ap (λ (n : ℕ). cond (is_eq (name_cmp read.name name)) (Some n) (index name first)) (sym len)
          ∙ sym (index_new name first read (known ∙ w.if-not-contains_key.true))
      | else-not-contains_key w ↦ ap (λ m. get name_cmp m name) w.indices-is ∙ c.loop-i.invariant name ∙ sym (index_kept name first read (known ∙ w.if-not-contains_key.false))
    ])
