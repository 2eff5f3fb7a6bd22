use Rattle.std.proofs.Common.{◌≡◌, ◌+◌, ◌-◌, ℕ, ap, arith, Ok, Err}
use Rattle.entry_codec.specs.Fault.{cohort_form, after_cohort}
use Rattle.entry_codec.specs.Inside.{read_at, place_of}
use Rattle.entry_codec.proofs.Repeats.{more, ended, failed, refused}
use Rattle.entry_codec.proofs.reading.cohorts_of.Goals as goal

pub returns-in_err-cohort-clause-fault : goal.returns-in_err-cohort-clause-fault
unfolding cohort_form
returns-in_err-cohort-clause-fault c =
    let wrong : read_at (cohort_form (c.loop-left.left - 1) c.loop-left.low) c.loop-left.payload ≡ Err (place_of c.in_err-cohort.field-0.0) = rw (← c.from.ensures) c.in_err-cohort.ensures.fault in
    refused c.from_residual.result _ _ c.from_residual.ensures.1
    (failed cohort_form after_cohort c.args.count 0 c.args.payload.now c.loop-left.cohorts.items c.loop-left.left c.loop-left.low c.loop-left.payload _ c.loop-left.invariant (omega arith) wrong)

pub loop-left-preserved : goal.loop-left-preserved
unfolding cohort_form
loop-left-preserved c =
    let read : read_at (cohort_form (c.loop-left.left - 1) c.loop-left.low) c.loop-left.payload ≡ Ok (c.in_ok-cohort.cohort, c.ranged.new.self) = rw (← c.from.ensures) c.in_ok-cohort.ensures.ok in
    more cohort_form after_cohort c.args.count 0 c.args.payload.now c.loop-left.cohorts.items c.loop-left.left c.loop-left.low c.loop-left.payload c.in_ok-cohort.cohort c.ranged.new.self c.push.new.self.items _
    c.loop-left.invariant (omega arith) read c.in_ok-push.ensures.items (ap (λ (n : ℕ). n + 1) c.from-low.ensures)

pub returns-clause-ok : goal.returns-clause-ok
returns-clause-ok c =
    rw c.from_vec.ensures (ended cohort_form after_cohort c.args.count 0 c.args.payload.now c.loop-left.cohorts.items c.loop-left.left c.loop-left.low c.loop-left.payload c.loop-left.invariant (omega arith))
