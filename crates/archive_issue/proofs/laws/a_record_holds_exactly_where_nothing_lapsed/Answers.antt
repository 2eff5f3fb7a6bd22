use Rattle.archive_issue.proofs.Holding.{records_hold}
use Rattle.archive_issue.proofs.laws.a_record_holds_exactly_where_nothing_lapsed.Goals as goal

pub returns : goal.returns
returns c = records_hold c.no_text_is_two_policies.ensures c.what_a_policy_keeps.ensures.found
