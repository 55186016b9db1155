use Rattle.std.proofs.Common.{◌≡◌, ◌++◌, ◌∷◌, ℕ, IfErr, IfSome, List, [], Some, length, refl, rules, subst, sym, true}
use Rattle.std.specs.BTreeMap.{Updates}
use Rattle.std.specs.String.{string_bytes}
use Rattle.occ_files.proofs.Kept.{found_met}
use Rattle.occ_files.proofs.Named.{found_more}
use Rattle.occ_files.proofs.gathering.Gathering.add.Goals as goal
use Rattle.occ_files.specs.Gathering.{is_met}
use Rattle.occ_files.specs.Paths.{Gives, Known}
use Rattle.occ_files.specs.Refusals.{Held, IsRight}
use Rattle.occ_files.specs.declared.gathering.Text.{Text}
use Rattle.occ_files.specs.inside.Found.{AreFound}
use Rattle.occ_project.specs.Reads.{name_cmp}

pub refuse-requires-in-Err-clause-right : goal.refuse-requires-in-Err-clause-right
refuse-requires-in-Err-clause-right g c =
    let known : Known = g.D.Disk.known c.args.self.now.disk.now in
    let path : List ℕ = string_bytes c.args.found.path in
    let right = subst (λ r. IfErr r (λ why. (held : Held) (texts : List Text) (path : List ℕ) → IfSome held (λ file. Some c.as_slice.result.now ≡ file) → IsRight held texts path why)) c.in-Err.is c.in_ok-source.ensures.right in
    let given : IfSome (known path) (λ file. Some c.as_slice.result.now ≡ file) = subst (λ (bytes : List ℕ). IfSome (known path) (λ file. Some bytes ≡ file)) (sym c.as_slice.ensures.value) c.requires.given in
    subst (λ (p : List ℕ). IsRight (known p) c.args.self.now.found.texts.items p c.in-Err.why) (sym c.as_str-in-Err.ensures.value) (right (known path) c.args.self.now.found.texts.items path given)

pub returns-in_ok-push-in-Ok-clause-found : goal.returns-in_ok-push-in-Ok-clause-found
returns-in_ok-push-in-Ok-clause-found g c =
    let texts : List Text = c.args.self.now.found.texts.items in
    let text : Text = record { path = c.args.found.path; name = c.args.name; source = c.in-Ok.source } in
    let more : c.push.new.self.items ≡ texts ++ text ∷ [] = search rules in
    let len : c.len-in-Ok.result ≡ length texts = search rules in
    let made : c.in-Ok.source.text ≡ c.args.found.bytes.items = search rules in
    let updates : Updates name_cmp c.args.self.now.places c.insert.new.self c.args.name (Some c.len-in-Ok.result) = search rules in
    let given : Gives (g.D.Disk.known c.args.self.now.disk.now) (string_bytes c.args.found.path) (Some c.in-Ok.source.text) = subst (λ (bytes : List ℕ). Gives (g.D.Disk.known c.args.self.now.disk.now) (string_bytes c.args.found.path) (Some bytes)) (sym made) c.requires.given in
    subst (λ (ts : List Text). AreFound (g.D.Disk.known c.args.self.now.disk.now) ts c.args.self.now.found.refusals.items c.insert.new.self) (sym more)
    (found_more (g.D.Disk.known c.args.self.now.disk.now) texts c.args.self.now.found.refusals.items c.args.self.now.places c.insert.new.self text c.len-in-Ok.result c.requires.found c.requires.new c.requires.named given len updates.0)

pub returns-in_ok-push-in-Ok-clause-met : goal.returns-in_ok-push-in-Ok-clause-met
returns-in_ok-push-in-Ok-clause-met g c =
    let texts : List Text = c.args.self.now.found.texts.items in
    let text : Text = record { path = c.args.found.path; name = c.args.name; source = c.in-Ok.source } in
    let more : c.push.new.self.items ≡ texts ++ text ∷ [] = search rules in
    subst (λ (ts : List Text). is_met ts c.args.self.now.found.refusals.items (string_bytes c.args.found.path) ≡ true) (sym more)
    (found_met texts c.args.self.now.found.refusals.items text (string_bytes c.args.found.path) refl)
