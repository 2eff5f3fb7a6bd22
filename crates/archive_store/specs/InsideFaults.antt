-- Faults of the outside and of the crates below, as answers of the store.
use Rattle.std.specs.Prelude.{ℕ}
use Rattle.gate_journal.specs.declared.fault.JournalFault.{JournalFault}
use Rattle.gate_journal.specs.declared.fault.JournalFault.TheVariants as journal
use Rattle.entry_codec.specs.declared.fault.EntryFault.{EntryFault}
use Rattle.entry_codec.specs.declared.fault.EntryFault.TheVariants as codec
use Rattle.archive_chain.specs.declared.refusal.Refusal.{Refusal}
use Rattle.archive_chain.specs.declared.refusal.Refusal.TheVariants as rule
use Rattle.archive_store.specs.declared.fault.Outside.{Outside}
use Rattle.archive_store.specs.declared.fault.Outside.TheVariants as outside
use Rattle.archive_store.specs.declared.fault.StoreFault.{StoreFault}
use Rattle.archive_store.specs.declared.fault.StoreFault.TheVariants as fault

-- a fault of the disk, or want of memory
abbrev pub outside_fault : Outside → StoreFault
outside_fault outside.DiskFault = fault.DiskFault
outside_fault outside.Memory = fault.Memory

-- why a journal can't be opened; of its other answers none comes there
abbrev pub journal_fault : JournalFault → StoreFault
journal_fault journal.DiskFault = fault.DiskFault
journal_fault journal.Occupied = fault.Occupied
journal_fault journal.NotFormatted = fault.NotFormatted
journal_fault (journal.BadLength entry size) = fault.BadLength entry size
journal_fault (journal.Damaged entry kept found) = fault.Damaged entry kept found
journal_fault (journal.Full size) = fault.Memory
journal_fault (journal.Broken entry) = fault.Memory
journal_fault journal.Memory = fault.Memory

-- the payload with this number is no entry
abbrev pub entry_fault : ℕ → EntryFault → StoreFault
entry_fault entry (codec.Bad place) = fault.BadEntry entry place
entry_fault entry codec.Memory = fault.Memory

-- the entry with this number breaks a rule
abbrev pub rule_fault : ℕ → Refusal → StoreFault
rule_fault entry (rule.Limit full) = fault.Illegal entry (rule.Limit full)
rule_fault entry (rule.Count count pending) = fault.Illegal entry (rule.Count count pending)
rule_fault entry (rule.NotLive cohort) = fault.Illegal entry (rule.NotLive cohort)
rule_fault entry (rule.OtherHash cohort) = fault.Illegal entry (rule.OtherHash cohort)
rule_fault entry (rule.ChainFull id) = fault.Illegal entry (rule.ChainFull id)
rule_fault entry (rule.Token check) = fault.Illegal entry (rule.Token check)
rule_fault entry rule.Imprint = fault.Illegal entry rule.Imprint
rule_fault entry (rule.TokenEarly token covered) = fault.Illegal entry (rule.TokenEarly token covered)
rule_fault entry (rule.BadPolicy line kind) = fault.Illegal entry (rule.BadPolicy line kind)
rule_fault entry (rule.PolicyDrops name) = fault.Illegal entry (rule.PolicyDrops name)
rule_fault entry rule.Memory = fault.Memory
