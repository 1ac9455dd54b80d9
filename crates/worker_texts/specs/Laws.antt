-- Which texts of a worker stand at the front of a text, and which faults there are.
use Rattle.std.specs.Prelude.{◌≡◌, ◌≢◌, ℕ, List, ◌++◌, Ok, Err}
use Rattle.certificate_lines.specs.declared.fault.TextFault.{TextFault}
use Rattle.certificate_lines.specs.declared.fault.TextKind.TheVariants.{BadHead, AfterEnd, ReadFault, Memory}
use Rattle.worker_texts.specs.WorkerText.{WorkerTextTold, text_of, HasWorkerText, text_in}

pub record WorkerTextsAreRead : Type 0 where
  -- what is spelled is told, whatever stands behind it
  pub told : (told : WorkerTextTold) (rest : List ℕ) → HasWorkerText told → text_in (text_of told ++ rest) ≡ Ok told
  -- at most one text stands at the front
  pub one : (told other : WorkerTextTold) (rest more : List ℕ) → HasWorkerText told → HasWorkerText other
      → text_of told ++ rest ≡ text_of other ++ more → (told ≡ other) × (rest ≡ more)
  -- the fault is one of a line: no head and no end is wanted, and no memory or source decides it
  pub faults : (text : List ℕ) (fault : TextFault) → text_in text ≡ Err fault
      → (fault.kind ≢ BadHead) × (fault.kind ≢ AfterEnd) × (fault.kind ≢ ReadFault) × (fault.kind ≢ Memory)
