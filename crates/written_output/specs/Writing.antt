-- What a run has written to a sink, text by text.
use Rattle.std.specs.Prelude.{◌≡◌, ◌⊎◌, ℕ, Bool, true, false, List, [], ◌++◌, Option, Some, None}
use Rattle.std.specs.Option.{option_map}
use Rattle.std.specs.Io.KnownBytes.{Appends}
use Rattle.written_output.specs.declared.written.Written.{Written}

-- the text that is kept, if one is
abbrev pub kept_of : Written → Option (List ℕ)
kept_of written = option_map (λ v. v.items) written.kept

-- A text was written behind what a run had written, to a sink that held the old bytes and now holds the new ones.
-- Unless a write failed, the sink has all of the text. What is kept has it either way.
pub record IsWritten (old new : Option (List ℕ)) (was_failed is_failed : Bool) (before after : Written)
    (text : List ℕ) : Type 0 where
  pub kept : (kept : List ℕ) → kept_of before ≡ Some kept → kept_of after ≡ Some (kept ++ text)
  pub whole : after.is_cut ≡ false → (before.is_cut ≡ false) × Appends old new text
  pub cut : after.is_cut ≡ true → ((before.is_cut ≡ true) × (is_failed ≡ was_failed)) ⊎ (is_failed ≡ true)

-- the same of a sink, by what it holds and whether its last write failed
abbrev pub HasWritten : {W : Type 0} → (W → Option (List ℕ)) → (W → Bool) → W → Written → W → Written → List ℕ
    → Type 0
HasWritten contents is_failed out before new after text =
    IsWritten (contents out) (contents new) (is_failed out) (is_failed new) before after text

-- nothing was written yet
pub record IsFresh (written : Written) : Type 0 where
  pub kept : (kept_of written ≡ None) ⊎ (kept_of written ≡ Some [])
  pub uncut : written.is_cut ≡ false
