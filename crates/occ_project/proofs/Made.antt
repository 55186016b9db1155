-- Laws of an expansion that is being made.
use Rattle.std.proofs.Common.{◌≡◌, ℕ, zero, suc, ◌-◌, true, false, Bool, cond, eqb, List, [], ◌∷◌, ◌++◌, take, drop, refl, subst, sym, ap, ◌∙◌, append_assoc, append-nil, arith}
use Rattle.std.specs.List.{flat_map}
use Rattle.std.proofs.lemmas.Bool.Decides.{nat_tests}
use Rattle.occ_base.specs.declared.diag.Diag.{Diag}
use Rattle.occ_project.specs.declared.entry.ExpansionEntry.{ExpansionEntry}
use Rattle.occ_project.specs.declared.making.Made.{Made}
use Rattle.occ_project.specs.Expansion.{entry_faults, entry_lines, entry_names, limit_faults}
use Rattle.occ_project.specs.inside.Making.{after, ended, step, with_entry}

-- first these, then those
pub after_both : (made : Made) (first more : List ExpansionEntry) → after made (first ++ more) ≡ after (after made first) more
after_both made [] more = refl
after_both made (entry ∷ first) more = after_both (step made entry) first more

-- one that is over stays as it is
pub after_over : (made : Made) (more : List ExpansionEntry) → made.is_over ≡ true → after made more ≡ made
after_over made [] over = refl
after_over made (entry ∷ more) over =
    ap (λ (m : Made). after m more) (ap (λ (b : Bool). cond b made (cond (eqb made.room 0) (ended made entry) (with_entry made entry))) over)
    ∙ after_over made more over

-- what is made of the entries within the room
pub record IsMadeOf (made : Made) (all : List ExpansionEntry) (found : Made) : Type 0 where
  pub lines : found.lines ≡ made.lines ++ flat_map entry_lines (take made.room all)
  pub names : found.names ≡ made.names ++ flat_map entry_names (take made.room all)
  pub faults : found.faults ≡ made.faults ++ (flat_map entry_faults (take made.room all) ++ limit_faults (drop made.room all))

-- there are no more entries
ends : (made : Made) (n : ℕ) → made.room ≡ n → IsMadeOf made [] made
ends made zero e = record {
  lines = rw e (sym (append-nil made.lines));
  names = rw e (sym (append-nil made.names));
  faults = rw e (sym (append-nil made.faults));
}
ends made (suc n) e = record {
  lines = rw e (sym (append-nil made.lines));
  names = rw e (sym (append-nil made.names));
  faults = rw e (sym (append-nil made.faults));
}

-- there is no room
full : (made : Made) (entry : ExpansionEntry) (more : List ExpansionEntry) → made.room ≡ 0 → IsMadeOf made (entry ∷ more) (ended made entry)
full made entry more e = record {
  lines = rw e (sym (append-nil made.lines));
  names = rw e (sym (append-nil made.names));
  faults = rw e refl;
}

-- one comes, and then the others
more_made : (made : Made) (n : ℕ) (entry : ExpansionEntry) (more : List ExpansionEntry) (found : Made) → made.room ≡ suc n → IsMadeOf (with_entry made entry) more found → IsMadeOf made (entry ∷ more) found
more_made made n entry more found e h =
    let room : made.room - 1 ≡ n = omega arith in
    record {
      lines = rw e (rw room at h.lines ∙ append_assoc made.lines (entry_lines entry) (flat_map entry_lines (take n more)));
      names = rw e (rw room at h.names ∙ append_assoc made.names (entry_names entry) (flat_map entry_names (take n more)));
      faults = rw e (rw room at h.faults ∙ append_assoc made.faults (entry_faults entry) (flat_map entry_faults (take n more) ++ limit_faults (drop n more))
          ∙ ap (λ (ds : List Diag). made.faults ++ ds) (sym (append_assoc (entry_faults entry) (flat_map entry_faults (take n more)) (limit_faults (drop n more)))));
    }

-- one comes where it is not over
stepped : (made : Made) (entry : ExpansionEntry) → made.is_over ≡ false → step made entry ≡ cond (eqb made.room 0) (ended made entry) (with_entry made entry)
stepped made entry on = ap (λ (b : Bool). cond b made (cond (eqb made.room 0) (ended made entry) (with_entry made entry))) on

not_zero : (n : ℕ) → eqb (suc n) 0 ≡ false
not_zero n = grind (arith, nat_tests)

comes : (made : Made) (n : ℕ) (entry : ExpansionEntry) (more : List ExpansionEntry) → made.is_over ≡ false → made.room ≡ n
    → IsMadeOf (with_entry made entry) more (after (with_entry made entry) more) → IsMadeOf made (entry ∷ more) (after made (entry ∷ more))
comes made zero entry more on e h =
    let to_end : step made entry ≡ ended made entry = stepped made entry on ∙ ap (λ (n : ℕ). cond (eqb n 0) (ended made entry) (with_entry made entry)) e in
    subst (IsMadeOf made (entry ∷ more)) (sym (ap (λ (m : Made). after m more) to_end ∙ after_over (ended made entry) more refl)) (full made entry more e)
comes made (suc n) entry more on e h =
    let to_more : step made entry ≡ with_entry made entry = stepped made entry on ∙ ap (λ (n : ℕ). cond (eqb n 0) (ended made entry) (with_entry made entry)) e ∙ ap (λ (b : Bool). cond b (ended made entry) (with_entry made entry)) (not_zero n) in
    subst (IsMadeOf made (entry ∷ more)) (sym (ap (λ (m : Made). after m more) to_more)) (more_made made n entry more (after (with_entry made entry) more) e h)

pub made_of : (all : List ExpansionEntry) (made : Made) → made.is_over ≡ false → IsMadeOf made all (after made all)
made_of [] made on = ends made made.room refl
made_of (entry ∷ more) made on = comes made made.room entry more on refl (made_of more (with_entry made entry) refl)
