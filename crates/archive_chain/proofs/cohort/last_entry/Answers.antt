use Rattle.std.proofs.Common.{◌-◌, List, length, sym, ap, ◌∙◌}
use Rattle.std.specs.Prelude.{slice_get}
use Rattle.archive_chain.specs.declared.row.Later.{Later}
use Rattle.archive_chain.proofs.Ending.{last_got}
use Rattle.archive_chain.proofs.cohort.last_entry.Goals as goal

pub returns-in-Some : goal.returns-in-Some
returns-in-Some c =
    sym (last_got c.args.row.now.stamp c.args.row.now.later.items c.in-Some.later.now
    (sym (ap (λ (xs : List Later). slice_get xs (length xs - 1)) c.as_slice.ensures.value) ∙ sym c.in-Some.ensures.value))
