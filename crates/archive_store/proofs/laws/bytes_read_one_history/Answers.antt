use Rattle.archive_store.proofs.OneFault.{one_history}
use Rattle.archive_store.proofs.laws.bytes_read_one_history.Goals as goal

pub returns : goal.returns
returns c = one_history c.bytes_read_one_list.ensures c.no_bytes_spell_two_entries.ensures
