use Rattle.std.proofs.Common.{ap, ◌∙◌}
use Rattle.archive_chain.specs.Held.{Held}
use Rattle.evidence_tool.proofs.AnsweringLemmas.{place_of_archive}
use Rattle.evidence_tool.proofs.place.place_in.Goals as goal

pub returns : goal.returns
returns g c =
    place_of_archive c.args.store.now c.len.result c.archive.ensures.facts.agrees (c.len.ensures ∙ ap (λ (held : Held). held.kept.entries) c.archive.ensures.archive)
