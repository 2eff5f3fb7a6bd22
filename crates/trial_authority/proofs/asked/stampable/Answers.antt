use Rattle.std.proofs.Common.{◌≡◌, None, sym, ap, ◌∙◌}
use Rattle.tst_info.specs.Request.{request_seen, ToStamp}
use Rattle.cms_signed.specs.Names.{known_hash}
use Rattle.trial_authority.proofs.asked.stampable.Goals as goal

pub returns-in-None-clause-none : goal.returns-in-None-clause-none
returns-in-None-clause-none c = λ asked alg asks.
    let same : request_seen c.in-Ok.asked ≡ asked = c.in-Ok.ensures.only asked asks.reads in
    let unknown : known_hash asked.hash ≡ None = sym (ap (λ (q : ToStamp). known_hash q.hash) same) ∙ sym c.known_hash.ensures ∙ c.in-None.is in
    absurd (let known = asks.known in cc)

pub returns-in_default-clause-none : goal.returns-in_default-clause-none
returns-in_default-clause-none c = λ asked alg asks. c.in_default.ensures.only asked asks.reads
