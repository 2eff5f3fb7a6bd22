-- What a run did to the devices that it was handed.
use Rattle.std.specs.Prelude.{◌≡◌, ℕ, ◌≤◌, Bool, List}
use Rattle.std.specs.declared.option.Option.{Option}
use Rattle.evidence_tool.specs.declared.top.Ended.{Ended}

-- What contracts see of a source, a sink and a disk.
pub record Devices (S K J : Type 0) : Type 1 where
  pub left : S → Option (List ℕ)
  pub source_faults : S → ℕ
  pub taken : K → Option (List ℕ)
  pub sink_faults : K → ℕ
  pub tells : Bool
  pub reads : J → List ℕ
  pub images : J → List ℕ → Type 0
  pub clock : J → ℕ
  pub since : J → ℕ → List ℕ → Type 0
  pub disk_faults : J → ℕ

-- the same, one after the other
abbrev pub devices : {S K J : Type 0} → (S → Option (List ℕ)) → (S → ℕ) → (K → Option (List ℕ)) → (K → ℕ)
    → Bool → (J → List ℕ) → (J → List ℕ → Type 0) → (J → ℕ) → (J → ℕ → List ℕ → Type 0) → (J → ℕ) → Devices S K J
devices left source_faults taken sink_faults tells reads images clock since disk_faults = record {
  left = left;
  source_faults = source_faults;
  taken = taken;
  sink_faults = sink_faults;
  tells = tells;
  reads = reads;
  images = images;
  clock = clock;
  since = since;
  disk_faults = disk_faults;
}

-- a device before a run and after it
pub record Change (T : Type 0) : Type 0 where
  pub before : T
  pub after : T

-- The source, the sink, the disk of the journal and the authority before a run and after it, and its status.
pub record Run (S K J A : Type 0) : Type 0 where
  pub source : Change S
  pub sink : Change K
  pub disk : Change J
  pub authority : Change A
  pub status : ℕ

-- the run that was lent this source and this sink, was given this disk and this authority, and has ended so
abbrev pub run_of : {S K J A : Type 0} → S → S → K → K → J → A → Ended J A → Run S K J A
run_of source source' sink sink' disk authority ended = record {
  source = record { before = source; after = source' };
  sink = record { before = sink; after = sink' };
  disk = record { before = disk; after = ended.journal };
  authority = record { before = authority; after = ended.authority };
  status = ended.status;
}

-- a device that was left alone
abbrev pub IsLeftAlone : {T : Type 0} → Change T → Type 0
IsLeftAlone c = c.after ≡ c.before

-- no count of faults has fallen
pub record NoneFell {S K J A : Type 0} (d : Devices S K J) (r : Run S K J A) : Type 0 where
  pub source : d.source_faults r.source.before ≤ d.source_faults r.source.after
  pub sink : d.sink_faults r.sink.before ≤ d.sink_faults r.sink.after
  pub disk : d.disk_faults r.disk.before ≤ d.disk_faults r.disk.after
