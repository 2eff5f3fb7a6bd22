use Rattle.archive_store.proofs.OneFault.{one_refusal}
use Rattle.archive_store.proofs.laws.bytes_are_refused_for_one_fault.Goals as goal

pub returns : goal.returns
returns c =
    one_refusal c.bytes_read_one_list.ensures c.no_bytes_spell_two_entries.ensures (λ bytes spells. (c.bytes_without_a_fault_are_an_entry.ensures bytes).1 spells) c.no_text_is_two_policies.ensures
    c.an_entry_that_keeps_all_rules_breaks_none.ensures c.an_entry_breaks_one_rule_first.ensures c.what_is_read_is_not_damaged.ensures c.bytes_have_one_damage.ensures
