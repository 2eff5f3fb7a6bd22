use Rattle.std.proofs.Common.{refl}
use Rattle.evidence_tool.specs.Inside.{said, cut_off}
use Rattle.evidence_tool.proofs.SessionLemmas.{whole_of, part_of}
use Rattle.evidence_tool.proofs.refusing.say.Goals as goal

pub returns-in-Ok-write_all-clause-said : goal.returns-in-Ok-write_all-clause-said
returns-in-Ok-write_all-clause-said g c =
    said refl c.in-Ok.line.items c.in-Ok.ensures (whole_of _ _ c.deref.result.now c.in-Ok.line.items c.deref.ensures.value c.in-Ok-write_all.ensures.whole)

pub returns-clause-said : goal.returns-clause-said
returns-clause-said g c =
    let part = c.in-Err.ensures.part in
    cut_off refl c.in-Err.ensures.cause.failed c.in-Ok.line.items c.in-Ok.ensures part.0 (part_of _ _ part.0 c.deref.result.now c.in-Ok.line.items c.deref.ensures.value part.1)
