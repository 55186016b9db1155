-- A path is read of its URI.
use Rattle.std.proofs.Common.{◌≡◌, ◌∙◌, ◌++◌, ◌==◌, ◌||◌, Bool, true, false, not, ℕ, List, [], ◌∷◌, Option, Some, arith, codes, drop, refl, subst, sym, take, ap, if◌then◌else◌}
use Rattle.std.proofs.lemmas.Str.{utf8_lossy-IsUtf8}
use Rattle.std.specs.Char.{is_ascii}
use Rattle.std.specs.List.{All, flat_map}
use Rattle.std.specs.Str.{IsUtf8, bytes_eq}
use Rattle.std.specs.Str.Lossy.{utf8_lossy}
use Rattle.percent_encoding.proofs.PercentLemmas.{IsByte, round_trip}
use Rattle.percent_encoding.specs.AsciiSet.{contains, should_percent_encode}
use Rattle.percent_encoding.specs.Percent.{encode_byte, percent_decode, percent_encode, percent_encode_byte}
use Rattle.percent_encoding.specs.declared.ascii_set.AsciiSet.{AsciiSet}
use Rattle.occ_editor_edits.specs.Messages.{from_slash, path_of_uri, spelled}
use Rattle.occ_editor_edits.specs.Uris.{is_rooted}

-- a `/` is not escaped
front : (set : AsciiSet) (bs : List ℕ) → contains set 47 ≡ false → percent_encode set (47 ∷ bs) ≡ 47 ∷ percent_encode set bs
unfolding percent_encode should_percent_encode
front set bs kept = ap (λ (b : Bool). (if not (is_ascii 47) || b then percent_encode_byte 47 else 47 ∷ []) ++ flat_map (encode_byte set) bs) kept

pub uri_read : (set : AsciiSet) (path : List ℕ) → is_rooted path ≡ true → contains set 37 ≡ true → contains set 47 ≡ false → All IsByte path → IsUtf8 path → path_of_uri (codes "file://" ++ percent_encode set path) ≡ path
uri_read set [] rooted escapes kept small utf8 = absurd cc
uri_read set (b ∷ bs) rooted escapes kept small utf8 =
    let slash : b ≡ 47 = grind (arith, rooted) in
    let text : percent_encode set (b ∷ bs) ≡ 47 ∷ percent_encode set bs = ap (λ (x : ℕ). percent_encode set (x ∷ bs)) slash ∙ front set bs kept in
    ap (λ (xs : List ℕ). path_of_uri (codes "file://" ++ xs)) text
    ∙ ap (λ (xs : List ℕ). utf8_lossy (percent_decode xs)) (sym text)
    ∙ ap utf8_lossy (round_trip set (b ∷ bs) escapes small)
    ∙ utf8_lossy-IsUtf8 (b ∷ bs) utf8
