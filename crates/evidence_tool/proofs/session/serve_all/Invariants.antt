use Rattle.std.proofs.Common.{◌≤◌, take, map, vec_capacity}
use Rattle.archive_store.specs.Told.{entries_of}
use Rattle.evidence_tool.specs.Inside.{asked, IsRun}
use Rattle.evidence_tool.specs.Served.{AllAnswered}
use Rattle.evidence_tool.proofs.session.serve_all.Given as goal

-- the requests so far are answered, and their replies written
abbrev pub invariant-loop-request : goal.invariant-loop-request
invariant-loop-request g l = record {
  answered : AllAnswered g.D.Disk.tells g.D.Disk.images g.D.Disk.faults l.fn.store (map asked (take l.request-index l.requests))
      (g.K.Sink.taken l.fn.output) (g.K.Sink.taken l.output) l.disk l.memory l.store
      (IsRun g.D.Disk.images g.D.Disk.clock g.D.Disk.since l.fn.store.disk l.store.disk (entries_of l.fn.store.told));
  later : g.K.Sink.faults l.fn.output ≤ g.K.Sink.faults l.output;
  disk_later : g.D.Disk.faults l.fn.store.disk ≤ g.D.Disk.faults l.store.disk;
  room : 4096 ≤ vec_capacity l.text;
}
