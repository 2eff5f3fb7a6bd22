use Rattle.std.proofs.Common.{◌≡◌, inl, ◌+◌, ◌∷◌, [], ◌++◌, ◌∙◌, subst}
use Rattle.ev_world.specs.Disk.{Holds}
use Rattle.gate_journal.specs.Journal.{body}
use Rattle.gate_journal.proofs.FrameBytes.{front_kept, torn_behind, torn_gate, opened}
use Rattle.gate_journal.proofs.Crashes.{first_moment, second_moment}
use Rattle.gate_journal.proofs.frame.write_frame.Goals as goal

pub returns-in_err-write_behind-clause-either : goal.returns-in_err-write_behind-clause-either
returns-in_err-write_behind-clause-either g c tells h rest =
    inl (torn_behind _ c.args.end h rest c.args.payload.now _ _ (c.write_behind.ensures.within tells).torn)

pub returns-in_err-write_behind-clause-front : goal.returns-in_err-write_behind-clause-front
returns-in_err-write_behind-clause-front g c tells = front_kept c.args.end _ _ _ (c.requires.gate tells) (c.write_behind.ensures.within tells).torn

pub returns-in_err-open_gate-clause-either : goal.returns-in_err-open_gate-clause-either
returns-in_err-open_gate-clause-either g c tells h rest =
    let d = g.D.Disk in
    let frame : c.deref.result.now ≡ body c.args.payload.now ++ 0 ∷ [] = c.deref.ensures.value ∙ c.in-Ok.ensures.items in
    let holds = subst (λ f. Holds (d.reads c.args.disk.now) (c.args.end + 1) f (d.reads c.write_behind.new.disk)) frame (c.in_ok-write_behind.ensures.on_disk tells).written in
    torn_gate _ c.args.end h rest c.args.payload.now _ holds c.requires.size c.requires.limit _ (c.open_gate.ensures.within tells).torn

pub returns-clause-made : goal.returns-clause-made
returns-clause-made g c tells h rest =
    let d = g.D.Disk in
    let frame : c.deref.result.now ≡ body c.args.payload.now ++ 0 ∷ [] = c.deref.ensures.value ∙ c.in-Ok.ensures.items in
    let holds = subst (λ f. Holds (d.reads c.args.disk.now) (c.args.end + 1) f (d.reads c.write_behind.new.disk)) frame (c.in_ok-write_behind.ensures.on_disk tells).written in
    opened _ c.args.end h rest c.args.payload.now _ holds c.requires.size c.requires.limit _ (c.in_ok-open_gate.ensures.on_disk tells).written

pub returns-clause-either : goal.returns-clause-either
returns-clause-either g c tells h rest =
    let d = g.D.Disk in
    let frame : c.deref.result.now ≡ body c.args.payload.now ++ 0 ∷ [] = c.deref.ensures.value ∙ c.in-Ok.ensures.items in
    let holds = subst (λ f. Holds (d.reads c.args.disk.now) (c.args.end + 1) f (d.reads c.write_behind.new.disk)) frame (c.in_ok-write_behind.ensures.on_disk tells).written in
    torn_gate _ c.args.end h rest c.args.payload.now _ holds c.requires.size c.requires.limit _ (c.open_gate.ensures.within tells).torn

pub returns-in_err-write_behind-clause-any_moment : goal.returns-in_err-write_behind-clause-any_moment
returns-in_err-write_behind-clause-any_moment g c tells h rest settled =
    let d = g.D.Disk in
    first_moment d.clock d.since d.images d.reads _ c.write_behind.new.disk c.write_behind.new.disk c.args.end h rest settled c.args.payload.now _ (c.write_behind.ensures.within tells).any_moment

pub returns-in_err-open_gate-clause-any_moment : goal.returns-in_err-open_gate-clause-any_moment
returns-in_err-open_gate-clause-any_moment g c tells h rest settled =
    let d = g.D.Disk in
    let frame : c.deref.result.now ≡ body c.args.payload.now ++ 0 ∷ [] = c.deref.ensures.value ∙ c.in-Ok.ensures.items in
    let holds = subst (λ f. Holds (d.reads c.args.disk.now) (c.args.end + 1) f (d.reads c.write_behind.new.disk)) frame (c.in_ok-write_behind.ensures.on_disk tells).written in
    second_moment d.clock d.since d.images d.reads _ c.write_behind.new.disk _ c.args.end h rest settled c.args.payload.now _
    (c.write_behind.ensures.within tells).any_moment holds (c.in_ok-write_behind.ensures.on_disk tells).durable c.requires.size c.requires.limit (c.open_gate.ensures.within tells).any_moment

pub returns-clause-any_moment : goal.returns-clause-any_moment
returns-clause-any_moment g c tells h rest settled =
    let d = g.D.Disk in
    let frame : c.deref.result.now ≡ body c.args.payload.now ++ 0 ∷ [] = c.deref.ensures.value ∙ c.in-Ok.ensures.items in
    let holds = subst (λ f. Holds (d.reads c.args.disk.now) (c.args.end + 1) f (d.reads c.write_behind.new.disk)) frame (c.in_ok-write_behind.ensures.on_disk tells).written in
    second_moment d.clock d.since d.images d.reads _ c.write_behind.new.disk _ c.args.end h rest settled c.args.payload.now _
    (c.write_behind.ensures.within tells).any_moment holds (c.in_ok-write_behind.ensures.on_disk tells).durable c.requires.size c.requires.limit (c.open_gate.ensures.within tells).any_moment
