-- Devices in memory: a source, a sink and a disk, which fail at the calls that they are told to fail at.
use Rattle.std.specs.Prelude.{ℕ, ◌+◌, ◌-◌, ◌^◌, min, List, Contains}

-- What it holds, the numbers of the calls that fail, how many calls there were, and how many have failed.
-- A source holds what is left, a sink what it has taken, and a disk what a read gives.
pub record Device : Type 0 where
  pub bytes : List ℕ
  pub failing : List ℕ
  pub calls : ℕ
  pub faults : ℕ

-- a sink, and how many bytes it takes at once
pub record SinkDevice : Type 0 where
  pub device : Device
  pub most : ℕ

-- one more, up to the end of the type
abbrev pub counted : ℕ → ℕ
counted n = min (n + 1) (2 ^ 64 - 1)

-- its next call is one that fails; calls are numbered from 0
abbrev pub IsFailing : Device → Type 0
IsFailing d = Contains d.failing d.calls

-- after a call that failed, and after one that did not and left these bytes
abbrev pub failed : Device → Device
failed d = record d { calls = counted d.calls; faults = counted d.faults }

-- after a call that did not fail and left these bytes
abbrev pub called : Device → List ℕ → Device
called d bytes = record d { bytes = bytes; calls = counted d.calls }
