use Rattle.trial_authority.proofs.Reserved.{reserved_whole, refused_keeps, still_marked}
use Rattle.trial_authority.proofs.stamping.next.Goals as goal

pub returns-clause-whole : goal.returns-clause-whole
returns-clause-whole g c = reserved_whole g.B.Disk.tells g.B.Disk.reads g.B.Disk.images g.B.Disk.faults c.args.state.now c.reserve.new.self c.reserve.result c.reserve.ensures.given

pub returns-clause-fault : goal.returns-clause-fault
returns-clause-fault g c = refused_keeps g.B.Disk.tells g.B.Disk.reads g.B.Disk.images g.B.Disk.faults c.args.state.now c.reserve.new.self c.reserve.result c.reserve.ensures.refused

pub returns-clause-any_moment : goal.returns-clause-any_moment
returns-clause-any_moment g c = λ n tells marked.
    let d = g.B.Disk in
    still_marked d.tells d.reads d.images d.faults c.args.state.now c.reserve.new.self d.clock d.since c.reserve.result c.reserve.ensures.given c.reserve.ensures.refused (c.requires.held tells)
    (g.met.B.Disk.reads_now c.args.state.now.disk tells) (λ f left. g.met.B.Disk.only_now c.args.state.now.disk f tells left) (c.reserve.ensures.any_moment tells) n marked
