use Rattle.std.proofs.Common.{◌≡◌, ◌∙◌, List, Some, ap, map, rules, subst, sym, ℕ}
use Rattle.std.specs.String.{string_bytes}
use Rattle.occ_base.specs.FileName.{IsFileName}
use Rattle.occ_files.proofs.Paths.{first_named, name_alone}
use Rattle.occ_files.proofs.Searched.{first_given}
use Rattle.occ_files.proofs.gathering.Gathering.look_up.Goals as goal
use Rattle.occ_files.specs.Searches.{IsSearch}

pub add-requires-clause-named : goal.add-requires-clause-named
add-requires-clause-named g c =
    let name : List ℕ = c.in-Ok.name.now in
    let same : name ≡ c.args.mention.name = search rules in
    let is : IsFileName name = subst IsFileName (sym same) c.as_bytes.ensures.named in
    let first = subst (IsSearch (g.D.Disk.known c.args.self.now.disk.now) (map string_bytes c.as_slice.result.now) name) c.in-Found.is c.in_ok-found.ensures in
    sym (first_named (g.D.Disk.known c.args.self.now.disk.now) (map string_bytes c.as_slice.result.now) name (Some (string_bytes c.in-Found.found.path, c.in-Found.found.bytes.items)) (name_alone name is) first ∙ same)

pub add-requires-clause-given : goal.add-requires-clause-given
add-requires-clause-given g c =
    let first = subst (IsSearch (g.D.Disk.known c.args.self.now.disk.now) (map string_bytes c.as_slice.result.now) c.in-Ok.name.now) c.in-Found.is c.in_ok-found.ensures in
    first_given (g.D.Disk.known c.args.self.now.disk.now) (map string_bytes c.as_slice.result.now) c.in-Ok.name.now (Some (string_bytes c.in-Found.found.path, c.in-Found.found.bytes.items)) first
