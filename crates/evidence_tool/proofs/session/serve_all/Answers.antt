use Rattle.std.proofs.Common.{◌+◌, ◌<◌, length, map, take, drop, ◌∙◌, arith}
use Rattle.archive_store.specs.Told.{entries_of}
use Rattle.evidence_tool.specs.Requests.{IsInRange}
use Rattle.evidence_tool.specs.Inside.{asked, IsRun}
use Rattle.evidence_tool.specs.Replies.{reply_text}
use Rattle.evidence_tool.proofs.SessionLemmas.{session_started, range_at, one_more_request, in_order, next_answered, unwritten, part_of, whole_of}
use Rattle.evidence_tool.proofs.StopLemmas.{run_started, run_more}
use Rattle.evidence_tool.proofs.session.serve_all.Goals as goal

pub answer_text-reply-requires-clause-range : goal.answer_text-reply-requires-clause-range
answer_text-reply-requires-clause-range g c = range_at IsInRange asked c.args.requests.now c.loop-request.request-index _ c.requires.range (omega arith)

pub returns-in_default-write_all-clause-unwritten : goal.returns-in_default-write_all-clause-unwritten
returns-in_default-write_all-clause-unwritten g c = λ is.
    let d = g.D.Disk in
    let i = c.loop-request.request-index in
    let below : i < length c.args.requests.now = omega arith in
    let text = c.deref.ensures.value ∙ c.answer_text-reply.ensures.text in
    let part = c.in_default-write_all.ensures.part in
    let found = entries_of c.args.store.now.told in
    let answered = c.answer_text-reply.ensures.answer in
    unwritten d.tells d.images d.faults c.args.store.now c.loop-request.store c.answer_text-reply.new.store
    (map asked (take i c.args.requests.now)) (map asked (drop (i + 1) c.args.requests.now)) (map asked c.args.requests.now) _ _ _ c.loop-request.disk c.loop-request.memory _ c.answer_text-reply.result part.0
    (IsRun d.images d.clock d.since c.args.store.now.disk c.loop-request.store.disk found)
    (IsRun d.images d.clock d.since c.args.store.now.disk c.answer_text-reply.new.store.disk found)
    c.loop-request.invariant.answered answered
    (part_of _ _ part.0 c.deref.result.now (reply_text c.answer_text-reply.result) text part.1)
    (in_order asked c.args.requests.now i _ below)
    (λ rs told session run. run_more d.reads d.images d.clock d.since d.tells d.faults c.args.store.now c.loop-request.store c.answer_text-reply.new.store (map asked (take i c.args.requests.now)) rs _ c.answer_text-reply.result
    c.args.store.now.disk c.loop-request.store.disk c.answer_text-reply.new.store.disk told session answered.cause run (c.answer_text-reply.ensures.stops told))

pub loop-request-preserved : goal.loop-request-preserved
loop-request-preserved g c =
    let d = g.D.Disk in
    let i = c.loop-request.request-index in
    let below : i < length c.args.requests.now = omega arith in
    let text = c.deref.ensures.value ∙ c.answer_text-reply.ensures.text in
    let found = entries_of c.args.store.now.told in
    let answered = c.answer_text-reply.ensures.answer in
    record {
      answered = next_answered d.tells d.images d.faults c.args.store.now c.loop-request.store c.answer_text-reply.new.store
          (map asked (take i c.args.requests.now)) (map asked (take (i + 1) c.args.requests.now)) _ _ _ c.loop-request.disk c.loop-request.memory _ c.answer_text-reply.result _ _
          (IsRun d.images d.clock d.since c.args.store.now.disk c.loop-request.store.disk found)
          (IsRun d.images d.clock d.since c.args.store.now.disk c.answer_text-reply.new.store.disk found)
          c.loop-request.invariant.answered answered
          (whole_of _ _ c.deref.result.now (reply_text c.answer_text-reply.result) text c.in-Ok-write_all.ensures.whole)
          (one_more_request asked c.args.requests.now i _ below)
          c.is_disk-disk.ensures c.is_memory-memory.ensures
          (λ rs told session run. run_more d.reads d.images d.clock d.since d.tells d.faults c.args.store.now c.loop-request.store c.answer_text-reply.new.store (map asked (take i c.args.requests.now)) rs _ c.answer_text-reply.result
          c.args.store.now.disk c.loop-request.store.disk c.answer_text-reply.new.store.disk told session answered.cause run (c.answer_text-reply.ensures.stops told));
      later = omega (arith, c.loop-request.invariant.later, c.in-Ok-write_all.ensures.cause.later);
      disk_later = omega (arith, c.loop-request.invariant.disk_later, answered.later);
      room = c.answer_text-reply.ensures.room;
    }

pub loop-request-init : goal.loop-request-init
loop-request-init g c =
    let d = g.D.Disk in
    let found = entries_of c.args.store.now.told in
    record {
      answered = session_started d.tells d.images d.faults c.args.store.now _ (IsRun d.images d.clock d.since c.args.store.now.disk c.args.store.now.disk found)
          (λ told. run_started d.reads d.images d.clock d.since c.args.store.now.disk found (λ f left. g.met.D.Disk.only_now c.args.store.now.disk f told left) (c.requires.settled told));
      later = omega arith;
      disk_later = omega arith;
      room = omega (arith, c.in-Ok.ensures.capacity);
    }
