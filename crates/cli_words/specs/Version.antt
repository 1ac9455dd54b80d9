-- The version of the program.
use Rattle.std.specs.Prelude.{ℕ, List, codes}

-- the version of the program and the logic that it is proved by, as the record of a run says them
unfoldable pub program_version : List ℕ
program_version = codes "1.0.0 (logic dac8208d650f15bf)"
