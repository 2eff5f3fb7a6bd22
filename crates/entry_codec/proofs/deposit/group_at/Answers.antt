use Rattle.std.proofs.Common.{List, ℕ, sym, subst}
use Rattle.object_groups.specs.Groups.{IsGroup}
use Rattle.entry_codec.proofs.Lying.{not_refused}
use Rattle.entry_codec.proofs.deposit.group_at.Goals as goal

pub unreachable-requires : goal.unreachable-requires
unreachable-requires c =
    not_refused c.in_ok-documents.documents _ (subst (λ (ds : List (List ℕ)). IsGroup ds) (sym c.in_ok-documents.ensures) c.requires.group) c.in_default.ensures.fault
