use Rattle.std.proofs.Common.{◌≡◌, ◌∙◌, ◌++◌, List, ap, arith, codes, rules, ℕ}
use Rattle.std.proofs.lemmas.List.Elements.{All-from_get_or}
use Rattle.std.specs.List.{All}
use Rattle.std.specs.String.{string_bytes}
use Rattle.percent_encoding.proofs.PercentLemmas.{IsByte}
use Rattle.percent_encoding.specs.Percent.{percent_encode}
use Rattle.occ_editor_edits.proofs.Uris.{uri_read}
use Rattle.occ_editor_edits.proofs.paths.escaped_uri.Goals as goal
use Rattle.occ_editor_edits.specs.Messages.{path_of_uri}

pub returns : goal.returns
returns c = λ rooted.
    let path : List ℕ = c.args.path.now in
    let text : string_bytes c.append_to.new.out ≡ codes "file://" ++ percent_encode c.escaped.result path = search rules in
    let small : All IsByte path = All-from_get_or IsByte path 0 (λ i within. omega (arith, c.type_inv.path i)) in
    ap path_of_uri text ∙ uri_read c.escaped.result path rooted c.escaped.ensures.percent c.escaped.ensures.slash small c.utf8.path
