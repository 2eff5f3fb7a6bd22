use Rattle.archive_issue.proofs.Verifying.{is_valid}
use Rattle.archive_issue.proofs.laws.a_record_is_valid_where_nothing_stands_against_it.Goals as goal

pub returns : goal.returns
returns c = is_valid c.no_text_is_two_policies.ensures c.what_a_policy_keeps.ensures.found
