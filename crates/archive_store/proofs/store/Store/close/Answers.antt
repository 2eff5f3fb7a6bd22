use Rattle.archive_store.proofs.Fields.{store_of}
use Rattle.archive_store.proofs.store.Store.close.Goals as goal

pub returns-clause-reads : goal.returns-clause-reads
returns-clause-reads g c =
    rw (← c.self.view_is, c.close.ensures) (λ known. (store_of _ _ _ _ _ _ _ _ _ _ _ c.self.invariant).left known _ (g.met.D.Disk.reads_now _ known))

pub returns-clause-left : goal.returns-clause-left
returns-clause-left g c =
    rw (← c.self.view_is, c.close.ensures) (λ known f image. (store_of _ _ _ _ _ _ _ _ _ _ _ c.self.invariant).left known f image)
