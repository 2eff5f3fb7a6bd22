-- Why a store can't be opened: a damage of its journal, or a payload that spoils the others.
use Rattle.std.proofs.Common.{◌≡◌, ◌⊎◌, ℕ, Bool, List, refl}
use Rattle.gate_journal.specs.Journal.{Reads}
use Rattle.gate_journal.specs.Damage.{Damages, IsOpenFault as IsJournalFault}
use Rattle.gate_journal.specs.declared.fault.JournalFault.{JournalFault}
use Rattle.gate_journal.specs.declared.fault.JournalFault.TheVariants as journal
use Rattle.entry_codec.specs.declared.entry.Entry.{Entry}
use Rattle.archive_chain.specs.declared.refusal.Refusal.{Refusal}
use Rattle.archive_chain.specs.declared.refusal.Refusal.TheVariants as rule
use Rattle.archive_chain.specs.Held.{Held}
use Rattle.archive_store.specs.declared.fault.Outside.{Outside}
use Rattle.archive_store.specs.declared.fault.Outside.TheVariants as outside
use Rattle.archive_store.specs.declared.fault.StoreFault.{StoreFault}
use Rattle.archive_store.specs.declared.fault.StoreFault.TheVariants as fault
use Rattle.archive_store.specs.Images.{ReadsHistory}
use Rattle.archive_store.specs.Opening.{Spoils, Unopens, IsOutside, IsUnopened, IsOpenFault}
use Rattle.archive_store.specs.InsideFaults.{outside_fault, journal_fault, rule_fault}
use Rattle.archive_store.specs.InsideReplay.{IsNotTaken}

-- ---- a damage of the journal

pub journal_answers : (j : JournalFault) → IsJournalFault j → IsOpenFault (journal_fault j)
journal_answers journal.NotFormatted is = tt
journal_answers (journal.BadLength entry size) is = tt
journal_answers (journal.Damaged entry kept found) is = tt
journal_answers journal.DiskFault is = tt
journal_answers journal.Memory is = tt
journal_answers journal.Occupied is = absurd is
journal_answers (journal.Full size) is = absurd is
journal_answers (journal.Broken entry) is = absurd is

pub journal_unopens : (b : List ℕ) (j : JournalFault) → Damages b j → Unopens b (journal_fault j)
journal_unopens b journal.NotFormatted is = is
journal_unopens b (journal.BadLength entry size) is = is
journal_unopens b (journal.Damaged entry kept found) is = is
journal_unopens b journal.DiskFault is = tt
journal_unopens b journal.Memory is = tt
journal_unopens b journal.Occupied is = absurd is
journal_unopens b (journal.Full size) is = absurd is
journal_unopens b (journal.Broken entry) is = absurd is

pub journal_disk : (j : JournalFault) → journal_fault j ≡ fault.DiskFault → j ≡ journal.DiskFault
journal_disk journal.DiskFault same = refl
journal_disk journal.NotFormatted same = absurd (cc same)
journal_disk (journal.BadLength entry size) same = absurd (cc same)
journal_disk (journal.Damaged entry kept found) same = absurd (cc same)
journal_disk journal.Memory same = absurd (cc same)
journal_disk journal.Occupied same = absurd (cc same)
journal_disk (journal.Full size) same = absurd (cc same)
journal_disk (journal.Broken entry) same = absurd (cc same)

-- ---- a payload

pub spoilt_unopens : (b : List ℕ) (payloads : List (List ℕ)) (e : StoreFault) → Reads b payloads → Spoils payloads e → Unopens b e
spoilt_unopens b payloads (fault.BadEntry entry place) reads is = (payloads, reads, is)
spoilt_unopens b payloads (fault.Illegal entry refusal) reads is = (payloads, reads, is)
spoilt_unopens b payloads fault.DiskFault reads is = tt
spoilt_unopens b payloads fault.Memory reads is = tt
spoilt_unopens b payloads fault.Occupied reads is = absurd is
spoilt_unopens b payloads fault.NotFormatted reads is = absurd is
spoilt_unopens b payloads (fault.BadLength entry size) reads is = absurd is
spoilt_unopens b payloads (fault.Damaged entry kept found) reads is = absurd is
spoilt_unopens b payloads (fault.Refused refusal) reads is = absurd is
spoilt_unopens b payloads (fault.Closed place) reads is = absurd is
spoilt_unopens b payloads (fault.Unknown id groups) reads is = absurd is

-- ---- a fault of the outside

pub outside_spoils : (payloads : List (List ℕ)) (o : Outside) → Spoils payloads (outside_fault o)
outside_spoils payloads outside.DiskFault = tt
outside_spoils payloads outside.Memory = tt

pub outside_answers : (o : Outside) → IsOpenFault (outside_fault o)
outside_answers outside.DiskFault = tt
outside_answers outside.Memory = tt

pub outside_not_taken : (tells : Bool) (old : Held) (documents : List (List (List ℕ))) (e : Entry) (number : ℕ) (o : Outside) → IsNotTaken tells old documents e number (outside_fault o)
outside_not_taken tells old documents e number outside.DiskFault = tt
outside_not_taken tells old documents e number outside.Memory = tt

pub outside_disk : (o : Outside) → outside_fault o ≡ fault.DiskFault → o ≡ outside.DiskFault
outside_disk outside.DiskFault same = refl
outside_disk outside.Memory same = absurd (cc same)

-- none of these is a fault of the disk
pub rule_no_disk : (number : ℕ) (refusal : Refusal) → rule_fault number refusal ≡ fault.DiskFault → ⊥
rule_no_disk number (rule.Limit full) same = absurd (cc same)
rule_no_disk number (rule.Count count pending) same = absurd (cc same)
rule_no_disk number (rule.NotLive cohort) same = absurd (cc same)
rule_no_disk number (rule.OtherHash cohort) same = absurd (cc same)
rule_no_disk number (rule.ChainFull id) same = absurd (cc same)
rule_no_disk number (rule.Token check) same = absurd (cc same)
rule_no_disk number rule.Imprint same = absurd (cc same)
rule_no_disk number (rule.TokenEarly token covered) same = absurd (cc same)
rule_no_disk number (rule.BadPolicy line kind) same = absurd (cc same)
rule_no_disk number (rule.PolicyDrops name) same = absurd (cc same)
rule_no_disk number rule.Memory same = absurd (cc same)

-- ---- each refusal has its own bytes

pub refusal_of : ((b : List ℕ) (e f : StoreFault) → Unopens b e → Unopens b f → IsOutside e ⊎ (IsOutside f ⊎ (e ≡ f)))
    → ((b : List ℕ) (h : List Entry) (e : StoreFault) → ReadsHistory b h → Unopens b e → IsOutside e)
    → (b : List ℕ) (e : StoreFault) → Unopens b e → IsUnopened b e
refusal_of one_fault not_refused b e is = record {
  unopens = is;
  first = λ f other. one_fault b f e other is;
  completes = λ h reads. not_refused b h e reads is;
}
