use Rattle.evidence_tool.proofs.ServingLemmas.{reported}
use Rattle.evidence_tool.proofs.refusing.refuse.Goals as goal

pub returns-in_default : goal.returns-in_default
returns-in_default g c = record {
  refused = reported g.K.Sink.taken g.K.Sink.faults c.args.fault.now c.args.output.now c.say.new.output c.say.result c.requires
      c.in_default.not-DiskFault c.in_default.not-NotFormatted c.in_default.not-Memory c.say.ensures.said;
  later = c.say.ensures.later;
}
