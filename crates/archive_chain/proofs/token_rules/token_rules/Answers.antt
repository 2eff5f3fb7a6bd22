use Rattle.std.proofs.Common.{inr, sym, ◌∙◌}
use Rattle.token_check.specs.Sound.{stamp_seen}
use Rattle.archive_chain.proofs.Tokens.{early_breaks, keeps_as}
use Rattle.archive_chain.proofs.token_rules.token_rules.Goals as goal

pub returns-then-not-is_stamped-clause-breaks : goal.returns-then-not-is_stamped-clause-breaks
returns-then-not-is_stamped-clause-breaks c = λ covered latest.
    inr (stamp_seen c.in_ok-stamp.stamp, c.in_ok-stamp.ensures.sound, λ stamps. absurd (let t = c.is_stamped.ensures.1 stamps in let f = c.if-not-is_stamped.true in cc))

pub returns-in-Some-clause-breaks : goal.returns-in-Some-clause-breaks
returns-in-Some-clause-breaks c = λ covered latest.
    inr (early_breaks c.args.policy.now c.args.alg c.args.root.now covered c.args.token.now (stamp_seen c.in_ok-stamp.stamp) c.args.latest c.in-Some.refusal c.in_ok-stamp.ensures.sound
    (c.is_stamped.ensures.0 c.if-not-is_stamped.false) latest (sym c.early.ensures ∙ c.in-Some.is))

pub returns-in-None-clause-keeps : goal.returns-in-None-clause-keeps
returns-in-None-clause-keeps c = λ covered latest.
    keeps_as c.args.policy.now c.args.alg c.args.root.now covered c.args.token.now (stamp_seen c.in_ok-stamp.stamp) c.args.latest c.in_ok-stamp.ensures.sound
    (c.is_stamped.ensures.0 c.if-not-is_stamped.false) latest (sym c.early.ensures ∙ c.in-None.is)
