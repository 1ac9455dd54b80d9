-- A file is put at its place.
use Rattle.std.proofs.Common.{◌≡◌, ℕ, zero, suc, ◌<◌, Bool, true, false, None, List, [], ◌∷◌, ◌++◌, length, take, drop, get_or, refl, ap, arith}
use Rattle.std.specs.Prelude.{slice_set}
use Rattle.std.specs.Str.{bytes_eq}
use Rattle.std.specs.Option.{option_or}
use Rattle.std.proofs.lemmas.Slice.Eq.{bytes_eq-Decides}
use Rattle.std.proofs.Common.{sym, ◌∙◌, Some, if◌then◌else◌}
use Rattle.cli_file_stores.specs.Files.{NamedFile, held, with_file, with_bytes}

module _ (name bytes : List ℕ) where
  -- past a file of another name
  pub passed : (files : List NamedFile) (i : ℕ) (e : NamedFile) → i < length files → bytes_eq (get_or files i e).name name ≡ false
      → take i files ++ with_file (drop i files) name bytes ≡ take (suc i) files ++ with_file (drop (suc i) files) name bytes
  passed [] i e lt other = absurd (omega (arith, lt))
  passed (f ∷ fs) zero e lt other = rw other refl
  passed (f ∷ fs) (suc i) e lt other = ap (λ (l : List NamedFile). f ∷ l) (passed fs i e (omega arith) other)

  -- at the first file of the name
  pub found : (files : List NamedFile) (i : ℕ) (e : NamedFile) → i < length files → bytes_eq (get_or files i e).name name ≡ true
      → take i files ++ with_file (drop i files) name bytes ≡ slice_set files i (record { name = name; bytes = bytes })
  found [] i e lt same = absurd (omega (arith, lt))
  found (f ∷ fs) zero e lt same = rw same refl
  found (f ∷ fs) (suc i) e lt same = ap (λ (l : List NamedFile). f ∷ l) (found fs i e (omega arith) same)

-- what stands under each name then
pub held-with_file : (files : List NamedFile) (name bytes other : List ℕ) → held (with_file files name bytes) other ≡ with_bytes (held files) name bytes other
held-with_file [] name bytes other = go (bytes_eq name other)
  where
    go : (b : Bool) → option_or (if b then Some bytes else None) None ≡ (if b then Some bytes else None)
    go true = refl
    go false = refl
held-with_file (f ∷ fs) name bytes other = go (bytes_eq f.name name) refl (held-with_file fs name bytes other)
  where
    again : (b : Bool) → option_or (if b then Some bytes else None) (held fs other) ≡ (if b then Some bytes else option_or (if b then Some f.bytes else None) (held fs other))
    again true = refl
    again false = refl

    later : (a b : Bool) → bytes_eq f.name other ≡ a → bytes_eq name other ≡ b → bytes_eq f.name name ≡ false
        → held (with_file fs name bytes) other ≡ (if b then Some bytes else held fs other)
        → option_or (if a then Some f.bytes else None) (held (with_file fs name bytes) other) ≡ (if b then Some bytes else option_or (if a then Some f.bytes else None) (held fs other))
    later false false e1 e2 e3 k = k
    later false true e1 e2 e3 k = k
    later true false e1 e2 e3 k = refl
    later true true e1 e2 e3 k =
        let same : f.name ≡ name = (bytes_eq-Decides f.name other).0 e1 ∙ sym ((bytes_eq-Decides name other).0 e2) in
        let bad : true ≡ false = sym ((bytes_eq-Decides f.name name).1 same) ∙ e3 in
        cc

    go : (b : Bool) → bytes_eq f.name name ≡ b → held (with_file fs name bytes) other ≡ with_bytes (held fs) name bytes other
        → held (if b then record { name = name; bytes = bytes } ∷ fs else f ∷ with_file fs name bytes) other ≡ with_bytes (held (f ∷ fs)) name bytes other
    go true e k = let same : f.name ≡ name = (bytes_eq-Decides f.name name).0 e in rw same (again (bytes_eq name other))
    go false e k = later (bytes_eq f.name other) (bytes_eq name other) refl refl e k
