use Rattle.archive_store.proofs.OneFault.{no_refusal}
use Rattle.archive_store.proofs.laws.what_is_read_is_not_refused.Goals as goal

pub returns : goal.returns
returns c =
    no_refusal c.bytes_read_one_list.ensures c.no_bytes_spell_two_entries.ensures (λ bytes spells. (c.bytes_without_a_fault_are_an_entry.ensures bytes).1 spells) c.no_text_is_two_policies.ensures
    c.an_entry_that_keeps_all_rules_breaks_none.ensures c.what_is_read_is_not_damaged.ensures
