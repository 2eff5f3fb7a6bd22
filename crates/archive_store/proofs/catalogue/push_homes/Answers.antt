use Rattle.std.proofs.Common.{◌≡◌, ℕ, suc, ◌+◌, ◌∷◌, [], ◌++◌, List, sym, ap, ◌∙◌, append_assoc, append-nil, arith}
use Rattle.archive_store.specs.declared.row.Home.{Home}
use Rattle.archive_store.specs.InsideRows.{homes_of}
use Rattle.archive_store.proofs.catalogue.push_homes.Goals as goal

homes_more : (old now : List Home) (entry n : ℕ) → now ≡ old ++ homes_of entry n → now ++ record { entry = entry; number = n } ∷ [] ≡ old ++ homes_of entry (n + 1)
homes_more old now entry n is =
    let one : suc n ≡ n + 1 = omega arith in
    ap (λ (l : List Home). l ++ record { entry = entry; number = n } ∷ []) is ∙ append_assoc old (homes_of entry n) (record { entry = entry; number = n } ∷ []) ∙ ap (λ (k : ℕ). old ++ homes_of entry k) one

pub loop-number-init : goal.loop-number-init
loop-number-init c = record { items = sym (append-nil _); room = omega arith }

pub loop-number-preserved : goal.loop-number-preserved
loop-number-preserved c = record {
  items = c.in-Ok.ensures.items ∙ homes_more _ _ _ _ c.loop-number.invariant.items;
  room = omega (arith, c.in-Ok.ensures.len, c.in-Ok.ensures.capacity, c.loop-number.invariant.room);
}
