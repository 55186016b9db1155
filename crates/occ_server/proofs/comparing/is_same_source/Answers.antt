use Rattle.occ_server.proofs.Sources.{same_source}
use Rattle.occ_server.proofs.comparing.is_same_source.Goals as goal

pub returns : goal.returns
returns c =
    same_source c.source_law.ensures c.args.a.now c.args.b.now c.text.result.now c.text-2.result.now c.eq.result c.lines-lines.ensures.prepared c.lines-others.ensures.prepared c.text.ensures.value c.text-2.ensures.value c.eq.ensures
