use Rattle.evidence_tool.specs.declared.reply.Reply.TheVariants.{Documents}
use Rattle.evidence_tool.proofs.AnsweringLemmas.{fetch_answerable, fetch_unmet}
use Rattle.evidence_tool.proofs.StopLemmas.{fetch_stops}
use Rattle.evidence_tool.proofs.answering.fetch.Goals as goal

pub returns-in-Ok-clause-answer : goal.returns-in-Ok-clause-answer
returns-in-Ok-clause-answer g c = record {
  cause = c.in-Ok.ensures.fetched;
  place = c.place_in-place.ensures;
  later = c.fetch.ensures.only_reads.later;
}

pub returns-in-Ok-clause-stops : goal.returns-in-Ok-clause-stops
returns-in-Ok-clause-stops g c = λ told.
    let d = g.D.Disk in
    fetch_stops d.reads d.images d.clock d.since c.args.store.now.disk c.fetch.new.self.disk _ c.args.id (Documents c.place_in-place.result c.in-Ok.group) (c.fetch.ensures.only_reads.quiet told)

pub reply_to-requires : goal.reply_to-requires
reply_to-requires g c = fetch_answerable g.D.Disk.tells g.D.Disk.images g.D.Disk.faults c.args.store.now c.fetch.new.self c.args.id c.in-Err.fault c.in-Err.ensures.unfetched

pub returns-in-Err-clause-answer : goal.returns-in-Err-clause-answer
returns-in-Err-clause-answer g c =
    let d = g.D.Disk in
    rw c.reply_to.ensures
    (fetch_unmet d.tells d.images d.faults c.args.store.now c.fetch.new.self c.args.id c.place_in-place.result c.in-Err.fault c.place_in-place.ensures c.fetch.ensures.only_reads.later c.in-Err.ensures.unfetched)

pub returns-in-Err-clause-stops : goal.returns-in-Err-clause-stops
returns-in-Err-clause-stops g c = λ told.
    let d = g.D.Disk in
    fetch_stops d.reads d.images d.clock d.since c.args.store.now.disk c.fetch.new.self.disk _ c.args.id c.reply_to.result (c.fetch.ensures.only_reads.quiet told)
