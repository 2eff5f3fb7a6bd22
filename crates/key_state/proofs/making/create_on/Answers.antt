use Rattle.std.proofs.Common.{◌≡◌, ℕ, ◌+◌, List, ◌++◌, length, drop, replicate, ◌∙◌, ap, arith}
use Rattle.std.proofs.lemmas.List.{length-replicate}
use Rattle.key_state.specs.Keys.{header}
use Rattle.key_state.proofs.StateLemmas.{header_over, unused_moment, header_moment}
use Rattle.key_state.proofs.making.create_on.Goals as goal

pub returns-clause-made : goal.returns-clause-made
returns-clause-made g c = λ tells not.
    header_over c.args.leaves _ _ _ _ (c.deref.ensures.value ∙ c.in_ok-unused.ensures.zeros) (c.in_ok-write_synced.ensures.on_disk tells).written (c.in_ok-write_synced-2.ensures.on_disk tells).written
    ∙ ap (λ (b : List ℕ). header ++ replicate c.args.leaves 0 ++ drop (16 + c.args.leaves) b) (c.is_formatted.ensures.quiet tells).same

pub returns-in_err-write_synced-clause-any_moment : goal.returns-in_err-write_synced-clause-any_moment
returns-in_err-write_synced-clause-any_moment g c = λ tells.
    let d = g.B.Disk in
    let size : length c.deref.result.now ≡ 16 + c.args.leaves = omega (arith, ap length c.deref.ensures.value, ap length c.in_ok-unused.ensures.zeros, length-replicate {A = ℕ} (c.args.leaves + 16) 0) in
    unused_moment d.reads d.images d.clock d.since _ c.is_formatted.new.disk c.write_synced.new.disk c.write_synced.new.disk _ _ size (c.is_formatted.ensures.quiet tells) (c.write_synced.ensures.within tells)

pub returns-in_err-write_synced-2-clause-any_moment : goal.returns-in_err-write_synced-2-clause-any_moment
returns-in_err-write_synced-2-clause-any_moment g c = λ tells.
    let d = g.B.Disk in
    let size : length c.deref.result.now ≡ 16 + c.args.leaves = omega (arith, ap length c.deref.ensures.value, ap length c.in_ok-unused.ensures.zeros, length-replicate {A = ℕ} (c.args.leaves + 16) 0) in
    header_moment d.reads d.images d.clock d.since _ c.is_formatted.new.disk c.write_synced.new.disk c.write_synced-2.new.disk _ _ size (c.is_formatted.ensures.quiet tells) (c.write_synced.ensures.within tells) (omega arith) (c.write_synced-2.ensures.within tells)

pub returns-clause-any_moment : goal.returns-clause-any_moment
returns-clause-any_moment g c = λ tells.
    let d = g.B.Disk in
    let size : length c.deref.result.now ≡ 16 + c.args.leaves = omega (arith, ap length c.deref.ensures.value, ap length c.in_ok-unused.ensures.zeros, length-replicate {A = ℕ} (c.args.leaves + 16) 0) in
    header_moment d.reads d.images d.clock d.since _ c.is_formatted.new.disk c.write_synced.new.disk c.write_synced-2.new.disk _ _ size (c.is_formatted.ensures.quiet tells) (c.write_synced.ensures.within tells) (omega arith) (c.write_synced-2.ensures.within tells)
