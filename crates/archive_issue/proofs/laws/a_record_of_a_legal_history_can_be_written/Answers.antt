use Rattle.archive_issue.proofs.Written.{records_written}
use Rattle.archive_issue.proofs.laws.a_record_of_a_legal_history_can_be_written.Goals as goal

pub returns : goal.returns
returns c = records_written c.no_text_is_two_policies.ensures c.what_a_policy_keeps.ensures.found
