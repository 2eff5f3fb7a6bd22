use Rattle.std.proofs.Common.{length, ap, sym, ◌∙◌, arith}
use Rattle.std.specs.List.{list_all, list_any}
use Rattle.std.specs.Str.{bytes_eq}
use Rattle.algorithm_policy.specs.declared.signer.Signer.{Signer}
use Rattle.algorithm_policy.specs.Content.{Content, is_below}
use Rattle.algorithm_policy.proofs.policy.Policy.place_fault.Goals as goal

pub returns-else-len-ge-MOST_SIGNERS-clause-free : goal.returns-else-len-ge-MOST_SIGNERS-clause-free
returns-else-len-ge-MOST_SIGNERS-clause-free c =
    record {
      valid = rw (← c.self.view_is) c.self.invariant;
      is = c.requires;
      below =
          ap (λ name. list_all (λ (s : Signer). is_below s.name name) c.args.self.now.signers) (sym c.as_slice.ensures)
          ∙ sym c.ends_below.ensures ∙ c.if-not-ends_below.false;
      new =
          ap (λ sid. list_any (λ (s : Signer). bytes_eq s.sid sid) c.args.self.now.signers) (sym c.as_slice-else-not-ends_below.ensures)
          ∙ sym c.has_sid.ensures ∙ c.if-has_sid.false;
      few =
          let view = ap (λ (p : Content). length p.signers) c.self.view_is in
          omega (arith, view, c.self.inside.signers.ok);
    }
