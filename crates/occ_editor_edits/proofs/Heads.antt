-- What was read of a head, a line at a time.
use Rattle.std.proofs.Common.{◌≡◌, ◌+◌, ◌&&◌, ◌==◌, ℕ, Bool, true, false, not, List, [], ◌∷◌, ◌++◌, None, Some, arith, length, refl, sym, ap, ◌∙◌, subst, append_assoc, append-nil}
use Rattle.std.proofs.lemmas.Bool.{and_parts}
use Rattle.std.proofs.lemmas.Slice.Eq.{bytes_eq-Decides}
use Rattle.std.proofs.KnownBytes.{Consumes-nil, Consumes-trans}
use Rattle.std.specs.List.{list_all}
use Rattle.std.specs.Prelude.{Option}
use Rattle.std.specs.Str.{bytes_eq}
use Rattle.std.specs.Io.KnownBytes.{Consumes}
use Rattle.occ_editor_edits.specs.Frames.{IsFrameRead, IsHeadRead, IsRead, ends_line, is_head_line, joined, kept, told_by, told_by_all}

joined_more : (lines : List (List ℕ)) (line : List ℕ) → joined (lines ++ line ∷ []) ≡ joined lines ++ line
joined_more [] line = append-nil line
joined_more (l ∷ ls) line = ap (λ t. l ++ t) (joined_more ls line) ∙ sym (append_assoc l (joined ls) line)

told_more : (so_far : Option ℕ) (lines : List (List ℕ)) (line : List ℕ) → told_by_all so_far (lines ++ line ∷ []) ≡ kept (told_by_all so_far lines) (told_by line)
told_more so_far [] line = refl
told_more so_far (l ∷ ls) line = told_more (kept so_far (told_by l)) ls line

pub is_read_none : (a : Option (List ℕ)) → IsRead a a 0 None
is_read_none a = record { lines = []; many = refl; are_lines = refl; tells = refl; reads = Consumes-nil a }

all_more : (p : List ℕ → Bool) (lines : List (List ℕ)) (line : List ℕ) → list_all p lines ≡ true → p line ≡ true → list_all p (lines ++ line ∷ []) ≡ true
all_more p [] line h k = ap (λ (b : Bool). b && true) k
all_more p (l ∷ ls) line h k =
    let both = and_parts (p l) (list_all p ls) h in
    ap (λ (b : Bool). b && list_all p (ls ++ line ∷ [])) both.0 ∙ all_more p ls line both.1 k

many_more : (lines : List (List ℕ)) (line : List ℕ) → length (lines ++ line ∷ []) ≡ length lines + 1
many_more [] line = refl
many_more (l ∷ ls) line = let more = many_more ls line in omega (arith, more)

head_line : (line : List ℕ) → ends_line line ≡ true → bytes_eq line (13 ∷ 10 ∷ []) ≡ false → is_head_line line ≡ true
head_line line e n = ap (λ (b : Bool). b && not (bytes_eq line (13 ∷ 10 ∷ []))) e ∙ ap (λ (b : Bool). true && not b) n

pub is_read_step : (a b c : Option (List ℕ)) (count : ℕ) (size told next : Option ℕ) (line text : List ℕ) → IsRead a b count size → Consumes b c line → ends_line line ≡ true → text ≡ line → bytes_eq line (13 ∷ 10 ∷ []) ≡ false → told ≡ told_by text → next ≡ kept size told
    → IsRead a c (count + 1) next
is_read_step a b c count size told next line text r d ends e n f h =
    let g : told ≡ told_by line = f ∙ ap told_by e in
    let is_line : is_head_line line ≡ true = head_line line ends n in
    let many = r.many in
    let long = many_more r.lines line in
    record {
      lines = r.lines ++ line ∷ [];
      many = omega (arith, many, long);
      are_lines = all_more is_head_line r.lines line r.are_lines is_line;
      tells = told_more None r.lines line ∙ ap (λ s. kept s (told_by line)) r.tells ∙ ap (kept size) (sym g) ∙ sym h;
      reads = subst (λ (bs : List ℕ). Consumes a c bs) (sym (joined_more r.lines line)) (Consumes-trans a b c (joined r.lines) line r.reads d);
    }

pub is_head_step : (a b c : Option (List ℕ)) (count : ℕ) (size : Option ℕ) (n : ℕ) (line text : List ℕ) → IsRead a b count size → Consumes b c line → text ≡ line → bytes_eq text (13 ∷ 10 ∷ []) ≡ true → size ≡ Some n → IsHeadRead a c n
is_head_step a b c count size n line text r d e f h =
    let is : line ≡ 13 ∷ 10 ∷ [] = sym e ∙ (bytes_eq-Decides text (13 ∷ 10 ∷ [])).0 f in
    (r.lines, r.are_lines, r.tells ∙ h, Consumes-trans a b c (joined r.lines) (13 ∷ 10 ∷ []) r.reads (subst (λ (t : List ℕ). Consumes b c t) is d))

-- where nothing was read before the end
no_lines : (lines : List (List ℕ)) (count : ℕ) → length lines ≡ count → count ≡ 0 → joined lines ≡ []
no_lines [] count l z = refl
no_lines (x ∷ lines) count l z = absurd (omega (arith, l, z))

pub is_none_read : (a b c : Option (List ℕ)) (count : ℕ) (size : Option ℕ) (line : List ℕ) → IsRead a b count size → count ≡ 0 → Consumes b c line → line ≡ [] → Consumes a c []
is_none_read a b c count size line r z d e =
    let first : Consumes a b [] = subst (λ (bs : List ℕ). Consumes a b bs) (no_lines r.lines count r.many z) r.reads in
    Consumes-trans a b c [] [] first (subst (λ (bs : List ℕ). Consumes b c bs) e d)

-- bytes without a line feed, and one
pub feed_ends : (bytes : List ℕ) (b : ℕ) → list_all (λ x. not (x == 10)) bytes ≡ true → (b == 10) ≡ true → ends_line (bytes ++ b ∷ []) ≡ true
feed_ends [] b h k = k
feed_ends (x ∷ []) b h k = let both = and_parts (not (x == 10)) true h in ap (λ (c : Bool). c && (b == 10)) both.0 ∙ k
feed_ends (x ∷ y ∷ bytes) b h k =
    let both = and_parts (not (x == 10)) (list_all (λ z. not (z == 10)) (y ∷ bytes)) h in
    ap (λ (c : Bool). c && ends_line (y ∷ (bytes ++ b ∷ []))) both.0 ∙ feed_ends (y ∷ bytes) b both.1 k

pub no_feed_more : (bytes : List ℕ) (b : ℕ) → list_all (λ x. not (x == 10)) bytes ≡ true → (b == 10) ≡ false → list_all (λ x. not (x == 10)) (bytes ++ b ∷ []) ≡ true
no_feed_more [] b h k = ap (λ (c : Bool). not c && true) k
no_feed_more (x ∷ bytes) b h k =
    let both = and_parts (not (x == 10)) (list_all (λ z. not (z == 10)) bytes) h in
    ap (λ (c : Bool). c && list_all (λ z. not (z == 10)) (bytes ++ b ∷ [])) both.0 ∙ no_feed_more bytes b both.1 k

pub is_frame_read : (a b c : Option (List ℕ)) (n : ℕ) (message : List ℕ) → length message ≡ n → IsHeadRead a b n → Consumes b c message → IsFrameRead a c message
is_frame_read a b c n message e r d =
    let head = joined r.0 ++ (13 ∷ 10 ∷ []) in
    (head ++ message, (r.0, r.1, r.2 ∙ ap Some (sym e), refl), Consumes-trans a b c head message r.3 d)
