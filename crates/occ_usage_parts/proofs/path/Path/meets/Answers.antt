use Rattle.std.proofs.Common.{rules, ◌≡◌, ◌∙◌, ap, false, length, sym}
use Rattle.std.specs.Prelude.{slice_get}
use Rattle.occ_usage_parts.specs.Keeping.{meets_some}
use Rattle.occ_usage_parts.specs.Parts.{are_apart}
use Rattle.occ_usage_parts.specs.inside.Paths.{APath, asked, meet_asked, parts_of}
use Rattle.occ_usage_parts.specs.inside.PlaceSets.{places_of}
use Rattle.occ_usage_parts.proofs.Fronts.{path_meets, plain}
use Rattle.occ_usage_parts.proofs.path.Path.meets.Goals as goal

pub returns-else-self : goal.returns-else-self
returns-else-self c =
    let p = c.self.inside in
    let q = c.args.part.now in
    let view : c.args.self.now ≡ (p.front, parts_of p.front p.is_whole p.places) = search rules in
    let whole : p.is_whole ≡ false = search rules in
    let apart : are_apart p.front q ≡ false = search rules in
    let long : c.len.result ≡ length p.front = search rules in
    let asks : c.asked.result ≡ asked (slice_get q (length p.front)) = c.asked.ensures ∙ ap (λ n. asked (slice_get q n)) long in
    c.meet_asked.ensures
    ∙ ap (λ o. meet_asked (places_of p.places) o) asks
    ∙ sym (
    ap (λ (v : APath). meets_some v.1 q) view
    ∙ path_meets p.is_whole p.front q (places_of p.places)
    ∙ plain (are_apart p.front q) p.is_whole (meet_asked (places_of p.places) (asked (slice_get q (length p.front)))) apart whole
    )
