use Rattle.std.proofs.Common.{◌-◌, refl, arith}
use Rattle.entry_codec.specs.Spelling.{most_deposited}
use Rattle.entry_codec.specs.Fault.{group_form, after_group}
use Rattle.entry_codec.proofs.Repeats.{failed, refused_in}
use Rattle.entry_codec.proofs.Placing.{one_more_group, groups_taken}
use Rattle.entry_codec.proofs.deposit.groups.Goals as goal
use Rattle.entry_codec.specs.Inside.{read_at}

pub returns-in_err-room-clause-fault : goal.returns-in_err-room-clause-fault
returns-in_err-room-clause-fault c =
    let s = c.loop-further.invariant in
    refused_in c.from_residual.result _ (read_at (group_form c.loop-further.room) c.loop-further.payload) _ c.from_residual.ensures.1 c.in_err-room.ensures.fault
    (λ place wrong. failed (λ n. group_form) after_group c.args.count most_deposited c.args.payload.now s.groups c.loop-further.further c.loop-further.room c.loop-further.payload place s.so_far (omega arith) wrong)

pub loop-further-preserved : goal.loop-further-preserved
loop-further-preserved c =
    one_more_group c.args.count c.args.payload.now c.loop-further.counts.items _ c.loop-further.places.items _ c.loop-further.further c.loop-further.room _ c.loop-further.payload _
    c.loop-further.invariant (omega arith) c.in_ok-room.ensures.ok

pub returns-clause-ok : goal.returns-clause-ok
returns-clause-ok c =
    rw (c.from_vec.ensures, c.from_vec-2.ensures)
    (groups_taken c.args.count c.args.payload.now (record { counts = c.loop-further.counts.items; places = c.loop-further.places.items; bytes = most_deposited - c.loop-further.room }) c.loop-further.room c.loop-further.further c.loop-further.payload
    c.loop-further.invariant (omega arith) c.requires.place refl)
