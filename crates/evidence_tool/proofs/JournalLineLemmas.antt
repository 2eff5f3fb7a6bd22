-- The line of a journal's fault.
use Rattle.std.proofs.Common.{◌≡◌, ℕ, List, ◌++◌, ap, sym, ◌∙◌}
use Rattle.std.specs.Prelude.{codes}
use Rattle.archive_chain.specs.declared.refusal.Refusal.{Refusal}
use Rattle.archive_store.specs.declared.fault.StoreFault.{StoreFault}
use Rattle.archive_store.specs.declared.fault.StoreFault.TheVariants.{DiskFault, Occupied, NotFormatted, BadLength, Damaged, BadEntry, Illegal, Refused, Closed, Unknown, Memory}
use Rattle.session_text.specs.RefusalTexts.{IsRefusalText}
use Rattle.evidence_tool.specs.JournalLines.{journal_line, IsJournalLine}

pub one_line : ((refusal : Refusal) (a b : List ℕ) → IsRefusalText refusal a → IsRefusalText refusal b → a ≡ b)
    → (fault : StoreFault) (a b : List ℕ) → IsJournalLine fault a → IsJournalLine fault b → a ≡ b
one_line one_text (BadLength entry length) a b x y = x ∙ sym y
one_line one_text (Damaged entry kept found) a b x y = x ∙ sym y
one_line one_text (BadEntry entry place) a b x y = x ∙ sym y
one_line one_text (Illegal entry rule) a b x y = x.2 ∙ ap (λ t. journal_line entry (codes "rule " ++ t)) (one_text rule x.0 y.0 x.1 y.1) ∙ sym y.2
one_line one_text DiskFault a b x y = absurd x
one_line one_text Occupied a b x y = absurd x
one_line one_text NotFormatted a b x y = absurd x
one_line one_text (Refused refusal) a b x y = absurd x
one_line one_text (Closed place) a b x y = absurd x
one_line one_text (Unknown id groups) a b x y = absurd x
one_line one_text Memory a b x y = absurd x
