use Rattle.std.proofs.Common.{◌++◌, ap, ◌∙◌}
use Rattle.algorithm_policy.specs.Text.{header}
use Rattle.algorithm_policy.proofs.WriteLemmas.{policy_written}
use Rattle.algorithm_policy.proofs.writing.written.Goals as goal

pub returns : goal.returns
returns c =
    policy_written c.args.policy.now c.extend_from_slice.new.self.items c.push.new.self.items c.push_hash.new.text.items c.push_hash-2.new.text.items c.push_hash-3.new.text.items c.push_signers.new.text.items
    c.signers.ensures.valid
    (c.in_ok-extend_from_slice.ensures.items ∙ ap (λ l. l ++ header) c.new-text.ensures.items)
    c.in_ok-push.ensures.items
    c.in_ok-push_hash.ensures
    c.in_ok-push_hash-2.ensures
    c.in_ok-push_hash-3.ensures
    (rw (← c.signers.ensures.signers) c.in_ok-push_signers.ensures)
