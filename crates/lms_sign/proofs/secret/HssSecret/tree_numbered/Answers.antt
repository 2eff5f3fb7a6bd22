use Rattle.lms_sign.specs.Hss.{tree_numbered}
use Rattle.lms_sign.proofs.secret.HssSecret.tree_numbered.Goals as goal

pub returns-clause-value : goal.returns-clause-value
unfolding tree_numbered
returns-clause-value c =
    let key = c.args.self.now in
    λ k. record {
      lms_type = key.lms_type;
      ots_type = key.ots_type;
      identifier = c.identifier.ensures k;
      seed = c.seed.ensures k;
    }
