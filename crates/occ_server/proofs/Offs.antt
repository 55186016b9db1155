-- Receipts beside a journal.
use Rattle.std.proofs.Common.{◌≡◌, ◌⊎◌, ◌∙◌, ◌+◌, ◌-◌, ◌<◌, ◌≤◌, ◌==◌, ◌&&◌, ℕ, zero, suc, Bool, true, false, List, [], ◌∷◌, length, take, min, nat_lt, if◌then◌else◌, Option, Some, None, slice_get, refl, sym, ap, subst, arith, inl, inr}
use Rattle.std.proofs.lemmas.Bool.Decides.{nat_tests}
use Rattle.occ_board.specs.declared.base.Base.{Base}
use Rattle.occ_board.specs.declared.entry.Entry.{Entry}
use Rattle.occ_server.specs.Receipts.{Numbered, IsLeastOff, ascends, ascends_after, entry_at, receipts_from, receipts_of, reported_at}

abbrev pub reported_if : Bool → Numbered → List Numbered → ℕ → Option Entry
reported_if b t ts n = if b then Some t.entry else reported_at ts n

-- what is reported at the head's number, and at others
pub reported_here : (t : Numbered) (ts : List Numbered) (n : ℕ) → t.number ≡ n → reported_at (t ∷ ts) n ≡ Some t.entry
reported_here t ts n e = let is : (t.number == n) ≡ true = grind (arith, nat_tests) in ap (λ (b : Bool). reported_if b t ts n) is

pub reported_later : (t : Numbered) (ts : List Numbered) (n : ℕ) → (t.number ≡ n → ⊥) → reported_at (t ∷ ts) n ≡ reported_at ts n
reported_later t ts n e = let is : (t.number == n) ≡ false = grind (arith, nat_tests) in ap (λ (b : Bool). reported_if b t ts n) is

both : (a b : Bool) → a && b ≡ true → (a ≡ true) × (b ≡ true)
both true b h = (refl, h)
both false b h = absurd cc

below : (m n : ℕ) → nat_lt m n ≡ true → m < n
below m n h = grind arith

rises : (n : ℕ) (t : Numbered) (ts : List Numbered) → ascends_after n (t ∷ ts) ≡ true → (n < t.number) × (ascends_after t.number ts ≡ true)
rises n t ts h = let b = both (nat_lt n t.number) (ascends_after t.number ts) h in (below n t.number b.0, b.1)

-- at the numbers before nothing is reported
none_before : (n m : ℕ) (ts : List Numbered) → ascends_after n ts ≡ true → m ≤ n → reported_at ts m ≡ None
none_before n m [] h small = refl
none_before n m (t ∷ ts) h small =
    let r = rises n t ts h in
    reported_later t ts m (λ e. absurd (omega (arith, e, small, r.0))) ∙ none_before t.number m ts r.1 (omega (arith, small, r.0))

-- ---- the receipts of a journal

receipts_rise : (m n : ℕ) (es : List Entry) → m ≤ n → ascends_after m (receipts_from (n + 1) es) ≡ true
receipts_rise m n [] h = refl
receipts_rise m n (e ∷ es) h = let more : ascends_after (n + 1) (receipts_from (n + 1 + 1) es) ≡ true = receipts_rise (n + 1) (n + 1) es (omega arith) in rw more (grind (arith, nat_tests))

reported_from : (n k : ℕ) (es : List Entry) → reported_at (receipts_from n es) (n + k) ≡ slice_get es k
reported_from n k [] = refl
reported_from n zero (e ∷ es) = reported_here (record { number = n; entry = e }) (receipts_from (n + 1) es) (n + 0) (omega arith)
reported_from n (suc k) (e ∷ es) =
    reported_later (record { number = n; entry = e }) (receipts_from (n + 1) es) (n + suc k) (λ h. absurd (omega (arith, h)))
    ∙ ap (reported_at (receipts_from (n + 1) es)) (omega arith)
    ∙ reported_from (n + 1) k es

pub reported_is : (base : Base) (es : List Entry) (n : ℕ) → reported_at (receipts_of base es) n ≡ entry_at base es n
reported_is base es n = by (nat_lt base.number n) refl where
  by : (b : Bool) → nat_lt base.number n ≡ b → reported_at (receipts_of base es) n ≡ (if b then slice_get es (n - (base.number + 1)) else None)
  by true e =
      let past : base.number < n = below base.number n e in
      let at : n ≡ base.number + 1 + (n - (base.number + 1)) = omega (arith, past) in
      ap (reported_at (receipts_of base es)) at ∙ reported_from (base.number + 1) (n - (base.number + 1)) es
  by false e =
      let before : n ≤ base.number = grind (arith, nat_tests) in
      none_before base.number n (receipts_of base es) (receipts_rise base.number base.number es (omega arith)) before

-- ---- two lists that rise

-- the least number at which they do not have the same
pub record IsLeast (ts us : List Numbered) (n : ℕ) : Type 0 where
  pub off : reported_at ts n ≡ reported_at us n → ⊥
  pub before : (m : ℕ) → m < n → reported_at ts m ≡ reported_at us m

some_none : (e : Entry) → Some e ≡ None → ⊥
some_none e h = absurd cc

one_some : (d e : Entry) → Some d ≡ Some e → d ≡ e
one_some d e h = cc

one_receipt : (t u : Numbered) → t.number ≡ u.number → t.entry ≡ u.entry → t ≡ u
one_receipt t u n e = ap (λ (m : ℕ). record { number = m; entry = t.entry }) n ∙ ap (λ (x : Entry). record { number = u.number; entry = x }) e

first_missing : (k : ℕ) (t : Numbered) (ts : List Numbered) → ascends_after k (t ∷ ts) ≡ true → IsLeast (t ∷ ts) [] t.number
first_missing k t ts h = record {
  off = λ e. some_none t.entry (sym (reported_here t ts t.number refl) ∙ e);
  before = λ m small. reported_later t ts m (λ e. absurd (omega (arith, e, small))) ∙ none_before t.number m ts (rises k t ts h).1 (omega (arith, small));
}

turned : (ts us : List Numbered) (n : ℕ) → IsLeast ts us n → IsLeast us ts n
turned ts us n l = record { off = λ e. l.off (sym e); before = λ m small. sym (l.before m small) }

nothing_before : (k m : ℕ) (t : Numbered) (ts : List Numbered) → ascends_after k (t ∷ ts) ≡ true → m < t.number → reported_at (t ∷ ts) m ≡ None
nothing_before k m t ts h small = reported_later t ts m (λ e. absurd (omega (arith, e, small))) ∙ none_before t.number m ts (rises k t ts h).1 (omega (arith, small))

-- heads that differ
heads_off : (k : ℕ) (t u : Numbered) (ts us : List Numbered) → ascends_after k (t ∷ ts) ≡ true → ascends_after k (u ∷ us) ≡ true → (t ≡ u → ⊥) → IsLeast (t ∷ ts) (u ∷ us) (min u.number t.number)
heads_off k t u ts us h g differ = record {
  off = λ e. off_by e (order t.number u.number);
  before = λ m small. nothing_before k m t ts h (omega (arith, small)) ∙ sym (nothing_before k m u us g (omega (arith, small)));
} where
  order : (a b : ℕ) → (a < b) ⊎ ((b < a) ⊎ (a ≡ b))
  order a b = grind arith

  same : t.number ≡ u.number → t.entry ≡ u.entry → t ≡ u
  same n e = one_receipt t u n e

  off_by : reported_at (t ∷ ts) (min u.number t.number) ≡ reported_at (u ∷ us) (min u.number t.number) → (t.number < u.number) ⊎ ((u.number < t.number) ⊎ (t.number ≡ u.number)) → ⊥
  off_by e (inl less) = some_none t.entry (sym (reported_here t ts (min u.number t.number) (omega (arith, less))) ∙ e ∙ nothing_before k (min u.number t.number) u us g (omega (arith, less)))
  off_by e (inr (inl more)) = some_none u.entry (sym (reported_here u us (min u.number t.number) (omega (arith, more))) ∙ sym e ∙ nothing_before k (min u.number t.number) t ts h (omega (arith, more)))
  off_by e (inr (inr one)) = differ (same one (one_some t.entry u.entry (sym (reported_here t ts (min u.number t.number) (omega (arith, one))) ∙ e ∙ reported_here u us (min u.number t.number) (omega (arith, one)))))

-- after a head that they share
behind : (t : Numbered) (ts us : List Numbered) (n : ℕ) → ascends_after t.number ts ≡ true → ascends_after t.number us ≡ true → IsLeast ts us n → IsLeast (t ∷ ts) (t ∷ us) n
behind t ts us n h g l = record {
  off = λ e. l.off (sym (reported_later t ts n (not_here n l.off)) ∙ e ∙ reported_later t us n (not_here n l.off));
  before = λ m small. by m (l.before m small) (t.number == m) refl;
} where
  not_here : (n : ℕ) → (reported_at ts n ≡ reported_at us n → ⊥) → t.number ≡ n → ⊥
  not_here n off e = off (none_before t.number n ts h (omega (arith, e)) ∙ sym (none_before t.number n us g (omega (arith, e))))

  by : (m : ℕ) → reported_at ts m ≡ reported_at us m → (b : Bool) → (t.number == m) ≡ b → reported_at (t ∷ ts) m ≡ reported_at (t ∷ us) m
  by m e true is = ap (λ (b : Bool). reported_if b t ts m) is ∙ sym (ap (λ (b : Bool). reported_if b t us m) is)
  by m e false is = ap (λ (b : Bool). reported_if b t ts m) is ∙ e ∙ sym (ap (λ (b : Bool). reported_if b t us m) is)

-- what the lists have at an index, if that differs, gives the number
abbrev lesser : Option Numbered → Option Numbered → ℕ
lesser None None = 0
lesser (Some t) None = t.number
lesser None (Some u) = u.number
lesser (Some t) (Some u) = min u.number t.number

differ_at : (index k : ℕ) (ts us : List Numbered) → ascends_after k ts ≡ true → ascends_after k us ≡ true → take index ts ≡ take index us
    → (slice_get ts index ≡ slice_get us index → ⊥) → IsLeast ts us (lesser (slice_get ts index) (slice_get us index))
differ_at zero k [] [] h g same differ = absurd (differ refl)
differ_at zero k [] (u ∷ us) h g same differ = turned (u ∷ us) [] u.number (first_missing k u us g)
differ_at zero k (t ∷ ts) [] h g same differ = first_missing k t ts h
differ_at zero k (t ∷ ts) (u ∷ us) h g same differ = heads_off k t u ts us h g (λ e. differ (ap Some e))
differ_at (suc index) k [] [] h g same differ = absurd (differ refl)
differ_at (suc index) k [] (u ∷ us) h g same differ = absurd cc
differ_at (suc index) k (t ∷ ts) [] h g same differ = absurd cc
differ_at (suc index) k (t ∷ ts) (u ∷ us) h g same differ = subst (λ (x : Numbered). IsLeast (t ∷ ts) (x ∷ us) n) head (behind t ts us n (rises k t ts h).1 risen (differ_at index t.number ts us (rises k t ts h).1 risen tail differ)) where
  head : t ≡ u
  head = cc

  tail : take index ts ≡ take index us
  tail = cc

  risen : ascends_after t.number us ≡ true
  risen = subst (λ (x : Numbered). ascends_after x.number us ≡ true) (sym head) (rises k u us g).1

  n : ℕ
  n = lesser (slice_get ts index) (slice_get us index)

least_off : (ts : List Numbered) (base : Base) (es : List Entry) (n : ℕ) → IsLeast ts (receipts_of base es) n → IsLeastOff ts base es n
least_off ts base es n l = record {
  off = λ e. l.off (e ∙ sym (reported_is base es n));
  below = λ m small. l.before m small ∙ reported_is base es m;
}

-- ---- receipts beside a journal, index by index

receipts_get_from : (n k : ℕ) (es : List Entry) (e : Entry) → slice_get es k ≡ Some e → slice_get (receipts_from n es) k ≡ Some (record { number = n + k; entry = e })
receipts_get_from n k [] e h = absurd cc
receipts_get_from n zero (x ∷ es) e h = let same : x ≡ e = one_some x e h in ap (λ (y : Entry). Some (record { number = n; entry = y })) same ∙ ap (λ (m : ℕ). Some (record { number = m; entry = e })) (omega arith)
receipts_get_from n (suc k) (x ∷ es) e h = receipts_get_from (n + 1) k es e h ∙ ap (λ (m : ℕ). Some (record { number = m; entry = e })) (omega arith)

receipts_get : (base : Base) (k : ℕ) (es : List Entry) (e : Entry) → slice_get es k ≡ Some e → slice_get (receipts_of base es) k ≡ Some (record { number = base.number + k + 1; entry = e })
receipts_get base k es e h = receipts_get_from (base.number + 1) k es e h ∙ ap (λ (m : ℕ). Some (record { number = m; entry = e })) (omega arith)

receipts_past : (n k : ℕ) (es : List Entry) → length es ≤ k → slice_get (receipts_from n es) k ≡ None
receipts_past n k [] h = refl
receipts_past n zero (e ∷ es) h = absurd (omega (arith, h))
receipts_past n (suc k) (e ∷ es) h = receipts_past (n + 1) k es (omega (arith, h))

pub rise_all : (base : Base) (es : List Entry) → ascends_after 0 (receipts_of base es) ≡ true
rise_all base es = receipts_rise 0 base.number es (omega arith)

number_is : (index : ℕ) (ts us : List Numbered) (o p : Option Numbered) → slice_get ts index ≡ o → slice_get us index ≡ p → IsLeast ts us (lesser (slice_get ts index) (slice_get us index)) → IsLeast ts us (lesser o p)
number_is index ts us o p at there l = subst (λ (x : Option Numbered). IsLeast ts us (lesser o x)) there (subst (λ (x : Option Numbered). IsLeast ts us (lesser x (slice_get us index))) at l)

pub none_there : (index : ℕ) (ts : List Numbered) (base : Base) (es : List Entry) (e : Entry) → ascends ts ≡ true → take index ts ≡ take index (receipts_of base es)
    → slice_get ts index ≡ None → slice_get es index ≡ Some e → IsLeastOff ts base es (base.number + index + 1)
none_there index ts base es e h same at here =
    let there = receipts_get base index es e here in
    least_off ts base es (base.number + index + 1) (number_is index ts (receipts_of base es) None (Some (record { number = base.number + index + 1; entry = e })) at there (differ_at index 0 ts (receipts_of base es) h (rise_all base es) same (λ q. some_none_receipt (record { number = base.number + index + 1; entry = e }) (sym there ∙ sym q ∙ at)))) where
      some_none_receipt : (t : Numbered) → Some t ≡ None → ⊥
      some_none_receipt t h = absurd cc

pub other_there : (index : ℕ) (ts : List Numbered) (base : Base) (es : List Entry) (t : Numbered) (e : Entry) → ascends ts ≡ true → take index ts ≡ take index (receipts_of base es)
    → slice_get ts index ≡ Some t → slice_get es index ≡ Some e → (t ≡ record { number = base.number + index + 1; entry = e } → ⊥) → IsLeastOff ts base es (min (base.number + index + 1) t.number)
other_there index ts base es t e h same at here differ =
    let there = receipts_get base index es e here in
    least_off ts base es (min (base.number + index + 1) t.number) (number_is index ts (receipts_of base es) (Some t) (Some (record { number = base.number + index + 1; entry = e })) at there (differ_at index 0 ts (receipts_of base es) h (rise_all base es) same (λ q. differ (one_there t (record { number = base.number + index + 1; entry = e }) (sym at ∙ q ∙ there))))) where
      one_there : (t u : Numbered) → Some t ≡ Some u → t ≡ u
      one_there t u h = cc

pub more_there : (ts : List Numbered) (base : Base) (es : List Entry) (t : Numbered) → ascends ts ≡ true → take (length es) ts ≡ take (length es) (receipts_of base es)
    → slice_get ts (length es) ≡ Some t → IsLeastOff ts base es t.number
more_there ts base es t h same at =
    let there = receipts_past (base.number + 1) (length es) es (omega arith) in
    least_off ts base es t.number (number_is (length es) ts (receipts_of base es) (Some t) None at there (differ_at (length es) 0 ts (receipts_of base es) h (rise_all base es) same (λ q. some_none_receipt t (sym at ∙ q ∙ there)))) where
      some_none_receipt : (t : Numbered) → Some t ≡ None → ⊥
      some_none_receipt t h = absurd cc

next_same : (k : ℕ) (ts us : List Numbered) → take k ts ≡ take k us → slice_get ts k ≡ slice_get us k → take (suc k) ts ≡ take (suc k) us
next_same k [] [] h e = refl
next_same zero [] (u ∷ us) h e = absurd cc
next_same (suc k) [] (u ∷ us) h e = absurd cc
next_same zero (t ∷ ts) [] h e = absurd cc
next_same (suc k) (t ∷ ts) [] h e = absurd cc
next_same zero (t ∷ ts) (u ∷ us) h e = cc
next_same (suc k) (t ∷ ts) (u ∷ us) h e = let tail : take k ts ≡ take k us = cc in let more : take (suc k) ts ≡ take (suc k) us = next_same k ts us tail e in cc

pub one_more : (index : ℕ) (ts : List Numbered) (base : Base) (es : List Entry) (t : Numbered) (e : Entry) → take index ts ≡ take index (receipts_of base es)
    → slice_get ts index ≡ Some t → slice_get es index ≡ Some e → t ≡ record { number = base.number + index + 1; entry = e } → take (index + 1) ts ≡ take (index + 1) (receipts_of base es)
one_more index ts base es t e same at here is =
    let n : suc index ≡ index + 1 = omega arith in
    subst (λ (k : ℕ). take k ts ≡ take k (receipts_of base es)) n (next_same index ts (receipts_of base es) same (at ∙ ap Some is ∙ sym (receipts_get base index es e here)))

take_short : (k : ℕ) (ts : List Numbered) → slice_get ts k ≡ None → take k ts ≡ ts
take_short zero [] h = refl
take_short (suc k) [] h = refl
take_short zero (t ∷ ts) h = absurd cc
take_short (suc k) (t ∷ ts) h = ap (λ (us : List Numbered). t ∷ us) (take_short k ts h)

pub all_there : (ts : List Numbered) (base : Base) (es : List Entry) → take (length es) ts ≡ take (length es) (receipts_of base es) → slice_get ts (length es) ≡ None → ts ≡ receipts_of base es
all_there ts base es same at = sym (take_short (length es) ts at) ∙ same ∙ take_short (length es) (receipts_of base es) (receipts_past (base.number + 1) (length es) es (omega arith))

-- ---- only the receipts of a journal have at each number what it has

-- where the lists have the same at each number, they have the same at each index
same_lists : (k : ℕ) (ts us : List Numbered) → ascends_after k ts ≡ true → ascends_after k us ≡ true → ((n : ℕ) → reported_at ts n ≡ reported_at us n) → ts ≡ us
same_lists k [] [] h g same = refl
same_lists k [] (u ∷ us) h g same = absurd ((first_missing k u us g).off (sym (same u.number)))
same_lists k (t ∷ ts) [] h g same = absurd ((first_missing k t ts h).off (same t.number))
same_lists k (t ∷ ts) (u ∷ us) h g same = ap (λ (xs : List Numbered). t ∷ xs) (same_lists t.number ts us (rises k t ts h).1 risen later) ∙ ap (λ (x : Numbered). x ∷ us) head where
  order : (a b : ℕ) → (a < b) ⊎ ((b < a) ⊎ (a ≡ b))
  order a b = grind arith

  head_by : (t.number < u.number) ⊎ ((u.number < t.number) ⊎ (t.number ≡ u.number)) → t ≡ u
  head_by (inl less) = absurd (some_none t.entry (sym (reported_here t ts t.number refl) ∙ same t.number ∙ nothing_before k t.number u us g less))
  head_by (inr (inl more)) = absurd (some_none u.entry (sym (reported_here u us u.number refl) ∙ sym (same u.number) ∙ nothing_before k u.number t ts h more))
  head_by (inr (inr one)) = one_receipt t u one (one_some t.entry u.entry (sym (reported_here t ts t.number refl) ∙ same t.number ∙ reported_here u us t.number (sym one)))

  head : t ≡ u
  head = head_by (order t.number u.number)

  number : t.number ≡ u.number
  number = ap (λ (x : Numbered). x.number) head

  risen : ascends_after t.number us ≡ true
  risen = subst (λ (n : ℕ). ascends_after n us ≡ true) (sym number) (rises k u us g).1

  by : (n : ℕ) → (b : Bool) → (t.number == n) ≡ b → reported_at ts n ≡ reported_at us n
  by n true is = let e : t.number ≡ n = grind (arith, nat_tests) in none_before t.number n ts (rises k t ts h).1 (omega (arith, e)) ∙ sym (none_before t.number n us risen (omega (arith, e)))
  by n false is = let e : t.number ≡ n → ⊥ = grind (arith, nat_tests) in sym (reported_later t ts n e) ∙ same n ∙ reported_later u us n (λ q. e (number ∙ q))

  later : (n : ℕ) → reported_at ts n ≡ reported_at us n
  later n = by n (t.number == n) refl

pub only_these : (ts : List Numbered) (base : Base) (es : List Entry) → ascends ts ≡ true → ((n : ℕ) → reported_at ts n ≡ entry_at base es n) → ts ≡ receipts_of base es
only_these ts base es h same = same_lists 0 ts (receipts_of base es) h (rise_all base es) (λ n. same n ∙ sym (reported_is base es n))
