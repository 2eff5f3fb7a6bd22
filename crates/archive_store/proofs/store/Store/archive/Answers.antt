use Rattle.archive_store.proofs.Fields.{store_of}
use Rattle.archive_store.proofs.store.Store.archive.Goals as goal

pub returns-clause-facts : goal.returns-clause-facts
returns-clause-facts g c = rw (← c.self.view_is) (store_of _ _ _ _ _ _ _ _ _ _ _ c.self.invariant)
