use Rattle.ev_devices.proofs.DiskCalls.{asked_nothing, failed_nothing}
use Rattle.ev_devices.proofs.disk.MemDisk.ask.Goals as goal

pub returns-in-Ok-clause-nothing : goal.returns-in-Ok-clause-nothing
returns-in-Ok-clause-nothing c = asked_nothing c.args.self.now c.begin.ensures.made _ c.in-Ok.ensures.ok

pub returns-in-Err-clause-nothing : goal.returns-in-Err-clause-nothing
returns-in-Err-clause-nothing c = failed_nothing c.args.self.now c.begin.ensures.made _ c.in-Err.ensures.err
