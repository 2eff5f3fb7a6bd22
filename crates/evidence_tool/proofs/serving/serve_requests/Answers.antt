use Rattle.std.proofs.Common.{IsTrue, ℕ, List, [], map, ap, ◌∙◌}
use Rattle.entry_codec.specs.declared.entry.Entry.{Entry}
use Rattle.archive_store.specs.Told.{entries_of, is_closed}
use Rattle.archive_store.specs.Images.{ReadsHistory}
use Rattle.archive_store.specs.Store.{Telling}
use Rattle.evidence_tool.specs.Inside.{asked, IsRun}
use Rattle.evidence_tool.specs.Stops.{IsLeft}
use Rattle.evidence_tool.proofs.SessionLemmas.{all_left, cut_left}
use Rattle.evidence_tool.proofs.StopLemmas.{left_since, run_started, settled_of}
use Rattle.evidence_tool.proofs.ServingLemmas.{not_served, was_served, none_answered}
use Rattle.evidence_tool.proofs.serving.serve_requests.Goals as goal

pub serve_all-served-requires-clause-settled : goal.serve_all-served-requires-clause-settled
serve_all-served-requires-clause-settled g c = λ told d left.
    settled_of (is_closed c.in-Ok.store.told) (entries_of c.in-Ok.store.told) d c.in-Ok.ensures.opened.not_closed (c.archive.ensures.facts.left told d left)

pub returns-in-Ok-clause-serving : goal.returns-in-Ok-clause-serving
returns-in-Ok-clause-serving g c =
    let d = g.J.Disk in
    let store = c.in-Ok.store in
    let found = entries_of store.told in
    let first = store.disk in
    let last = c.serve_all-served.new.store in
    let run = IsRun d.images d.clock d.since first last.disk found in
    let left = IsLeft ReadsHistory (d.images c.args.journal) (d.since c.close.result (d.clock c.args.journal)) (d.images c.close.result) found in
    let ends = λ (begun : List Entry) (done : ℕ) (told : IsTrue d.tells) (so_far : run begun done).
    left_since d.reads d.images d.clock d.since c.args.journal first last.disk c.close.result found begun done c.close.ensures.disk (c.in-Ok.ensures.only_reads.quiet told) so_far in
    was_served _ (map asked c.args.requests.now) c.serve_all-served.result _ store last c.status_of.ensures
    (record {
      opened = c.in-Ok.ensures.opened;
      keeps = c.archive.ensures.facts;
      not_before = c.in-Ok.ensures.only_reads.later;
      closed = c.close.ensures.disk;
      holds = λ told is. settled_of (is_closed last.told) (entries_of last.told) _ is (c.close.ensures.reads told);
      read_is_left = λ told. g.met.J.Disk.reads_now c.close.result told;
    })
    (λ disk memory is. all_left d.tells d.images d.faults store last (map asked c.args.requests.now) _ _ disk memory run left ends (c.serve_all-served.ensures.done disk memory is))
    (λ is. cut_left d.tells d.images d.faults store last (map asked c.args.requests.now) _ _ run left ends (c.serve_all-served.ensures.unwritten is))
    c.serve_all-served.ensures.failed
    (λ is.
    let same = c.serve_all-served.ensures.memory_store is in
    none_answered d.tells d.images d.faults store last g.K.Sink.taken c.args.output.now c.serve_all-served.new.output left same (c.serve_all-served.ensures.memory_output is)
    (λ told. left_since d.reads d.images d.clock d.since c.args.journal first first c.close.result found [] 0 (c.close.ensures.disk ∙ ap (λ (s : Telling _). s.disk) same) (c.in-Ok.ensures.only_reads.quiet told)
    (run_started d.reads d.images d.clock d.since first found (λ f here. g.met.J.Disk.only_now first f told here)
    (λ f here. settled_of (is_closed store.told) found f c.in-Ok.ensures.opened.not_closed (c.archive.ensures.facts.left told f here)))))

pub returns-in-Err-clause-serving : goal.returns-in-Err-clause-serving
returns-in-Err-clause-serving g c =
    not_served _ (map asked c.args.requests.now) c.refuse.result c.in-Err.ensures.err_only_reads c.in-Err.fault c.in-Err.ensures.answers c.in-Err.ensures.unopened c.in-Err.ensures.failed c.refuse.ensures.refused
