use Rattle.std.proofs.Common.{◌≡◌, ℕ, ◌+◌, ◌++◌, List, length, sym, ap, ◌∙◌, arith}
use Rattle.archive_store.specs.declared.row.Home.{Home}
use Rattle.archive_store.specs.InsideRows.{homes_of, homes_from}
use Rattle.archive_store.proofs.Homes.{homes_then}
use Rattle.archive_store.proofs.catalogue.Catalogue.push.Goals as goal

pub invariant_of-self : goal.invariant_of-self
invariant_of-self c =
    let rows = c.self.inside.rows in
    let entry : c.len-entry.result ≡ 0 + length rows.items = omega (arith, c.len-entry.ensures, rows.ok.0) in
    c.push_homes.ensures.items
    ∙ ap (λ (l : List Home). l ++ homes_of c.len-entry.result c.groups.result) c.self.invariant
    ∙ ap (λ (n : ℕ). homes_from 0 rows.items ++ homes_of n c.groups.result) entry
    ∙ ap (λ (n : ℕ). homes_from 0 rows.items ++ homes_of (0 + length rows.items) n) c.groups.ensures
    ∙ sym (homes_then rows.items c.args.row 0)
    ∙ ap (homes_from 0) (sym c.in-Ok.ensures.items)
