-- The edits of a session in a journal.
use Rattle.std.proofs.Common.{◌≡◌, ◌≤◌, ◌<◌, ◌+◌, ◌-◌, ◌==◌, ◌∙◌, ℕ, zero, suc, Bool, true, false, List, [], ◌∷◌, ◌++◌, Option, Some, None, if◌then◌else◌, refl, ap, sym, subst, inl, inr, append-nil, take, drop, length, slice_get, arith}
use Rattle.std.proofs.lemmas.Bool.Decides.{nat_tests}
use Rattle.occ_board.specs.declared.entry.Edit.{Edit}
use Rattle.occ_board.specs.declared.entry.EditFault.{EditFault}
use Rattle.occ_board.specs.declared.entry.Entry.{Entry}
use Rattle.occheck_script.specs.Machine.{board_word, edited_text}
use Rattle.occheck_sessions.specs.Sessions.{HasMade, IsEditAnswer, edits_of, refuses}

abbrev with_edit : Bool → Entry → List Edit → List Edit
with_edit b e edits = if b then e.edit ∷ edits else edits

with_append : (b : Bool) (e : Entry) (xs ys : List Edit) → with_edit b e (xs ++ ys) ≡ with_edit b e xs ++ ys
with_append true e xs ys = refl
with_append false e xs ys = refl

edits_append : (k : ℕ) (es fs : List Entry) → edits_of k (es ++ fs) ≡ edits_of k es ++ edits_of k fs
edits_append k [] fs = refl
edits_append k (e ∷ es) fs = ap (with_edit (e.session == k) e) (edits_append k es fs) ∙ with_append (e.session == k) e (edits_of k es) (edits_of k fs)

take_next : (es : List Entry) (n : ℕ) (e : Entry) → slice_get es n ≡ Some e → take (suc n) es ≡ take n es ++ e ∷ []
take_next [] n e h = absurd cc
take_next (x ∷ es) zero e h = let s : x ≡ e = cc in ap (λ (y : Entry). y ∷ []) s
take_next (x ∷ es) (suc n) e h = ap (λ (ys : List Entry). x ∷ ys) (take_next es n e h)

step_by : (b : Bool) (e : Entry) (xs : List Edit) → xs ++ with_edit b e [] ≡ (if b then xs ++ e.edit ∷ [] else xs)
step_by true e xs = refl
step_by false e xs = append-nil xs

step : (k n : ℕ) (es : List Entry) (e : Entry) → slice_get es n ≡ Some e → edits_of k (take (n + 1) es) ≡ edits_of k (take n es) ++ with_edit (e.session == k) e []
step k n es e h =
    let m : n + 1 ≡ suc n = omega arith in
    ap (λ (i : ℕ). edits_of k (take i es)) m ∙ ap (edits_of k) (take_next es n e h) ∙ edits_append k (take n es) (e ∷ [])

-- the next entry is another session's
pub other_next : (k n : ℕ) (es : List Entry) (e : Entry) → slice_get es n ≡ Some e → (e.session ≡ k → ⊥) → edits_of k (take (n + 1) es) ≡ edits_of k (take n es)
other_next k n es e h other = let b : (e.session == k) ≡ false = grind (arith, nat_tests) in step k n es e h ∙ step_by (e.session == k) e (edits_of k (take n es)) ∙ ap (λ (x : Bool). if x then edits_of k (take n es) ++ e.edit ∷ [] else edits_of k (take n es)) b

-- it is this session's
pub own_next : (k n : ℕ) (es : List Entry) (e : Entry) → slice_get es n ≡ Some e → e.session ≡ k → edits_of k (take (n + 1) es) ≡ edits_of k (take n es) ++ e.edit ∷ []
own_next k n es e h own = let b : (e.session == k) ≡ true = grind (arith, nat_tests) in step k n es e h ∙ step_by (e.session == k) e (edits_of k (take n es)) ∙ ap (λ (x : Bool). if x then edits_of k (take n es) ++ e.edit ∷ [] else edits_of k (take n es)) b

-- the first n are among the first m
pub made_before : (k n m : ℕ) (es : List Entry) → n ≤ m → HasMade k (edits_of k (take n es)) (take m es)
made_before k zero m es h = (edits_of k (take m es), refl)
made_before k (suc n) zero es h = absurd (omega (arith, h))
made_before k (suc n) (suc m) [] h = ([], refl)
made_before k (suc n) (suc m) (e ∷ es) h =
    let f = made_before k n m es (omega (arith, h)) in (
      f.0,
      ap (with_edit (e.session == k) e) f.1 ∙ with_append (e.session == k) e (edits_of k (take n es)) f.0,
    )

-- ---- answers

pub answer_wrong : (w : Option (List ℕ)) (word : List ℕ) (e : Edit) (made next : List Edit) (text : List ℕ) → w ≡ Some word → text ≡ edited_text (Some word) → next ≡ made → IsEditAnswer w e made text next
answer_wrong w word e made next text h t n = subst (λ (o : Option (List ℕ)). IsEditAnswer o e made text next) (sym h) (t, n)

pub answer_made : (w : Option (List ℕ)) (e : Edit) (made next : List Edit) (text : List ℕ) → w ≡ None → text ≡ edited_text None → next ≡ made ++ e ∷ [] → IsEditAnswer w e made text next
answer_made w e made next text h t n = subst (λ (o : Option (List ℕ)). IsEditAnswer o e made text next) (sym h) (inl (t, n))

pub answer_refused : (w : Option (List ℕ)) (f : EditFault) (e : Edit) (made next : List Edit) (text : List ℕ) → w ≡ None → refuses e f ≡ true → text ≡ edited_text (Some (board_word f)) → next ≡ made → IsEditAnswer w e made text next
answer_refused w f e made next text h r t n = subst (λ (o : Option (List ℕ)). IsEditAnswer o e made text next) (sym h) (inr ((f, r, t), n))
