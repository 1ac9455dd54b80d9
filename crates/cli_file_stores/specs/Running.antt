-- The bytes that a running sum was given.
use Rattle.std.specs.Prelude.{ℕ, ◌≡◌, ◌-◌, ◌^◌, List, length, min}
use Rattle.sha2.specs.Hashers.{Holds256}
use Rattle.cli_file_stores.specs.declared.byte_sums.RunningSum.{RunningSum}

-- a running sum was given these bytes
pub record WasGiven (sum : RunningSum) (bytes : List ℕ) : Type 0 where
  pub count : sum.bytes ≡ min (length bytes) (2 ^ 64 - 1)
  pub message : Holds256 sum.hasher bytes
