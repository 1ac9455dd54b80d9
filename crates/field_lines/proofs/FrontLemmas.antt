-- The piece at the front of bytes, whatever comes later.
use Rattle.std.proofs.Common.{◌≡◌, ℕ, ◌+◌, ◌-◌, ◌<◌, ◌≤◌, Bool, true, false, List, [], ◌∷◌, ◌++◌, length, take, drop, Some, suc, slice_range, refl, sym, ap, ◌∙◌, append_assoc, arith, subst, length-append, take_all, take-take, drop_of_length-le, if◌then◌else◌}
use Rattle.std.specs.List.{slice_split, onto_first}
use Rattle.std.proofs.Math.Seq.{drop-append_seam}
use Rattle.std.proofs.lemmas.List.{append-nil}
use Rattle.std.proofs.lemmas.Bool.{false≢true}
use Rattle.std.proofs.lemmas.Bool.Decides.{nat_tests}
use Rattle.std.proofs.lemmas.List.Splits.{slice_split-cons_no, slice_split_none, slice_split_at}
use Rattle.field_lines.specs.RawPieces.{RawLine, is_lf, numbered, raw_lines_from}
use Rattle.field_lines.specs.Fault.{most_bytes}
use Rattle.field_lines.specs.Cut.{cut_of, fault_at}
use Rattle.field_lines.specs.HeldBytes.{Pulled, MayCome}
use Rattle.field_lines.specs.TakenPieces.{taken_bytes, TakesFirst}
use Rattle.field_lines.specs.declared.taken_pieces.TakenPiece.{TakenPiece}
use Rattle.field_lines.specs.Front.{HasNoLf, HasLfAt, IsAllOf, IsFrontPiece, IsWithin}
use Rattle.field_lines.specs.LinesFrom.{no_line}
use Rattle.field_lines.specs.declared.fault.LineFault.{LineFault}
use Rattle.field_lines.proofs.SplitLemmas.{parts_of, numbered-ended, numbered-last}
use Rattle.field_lines.proofs.CutLemmas.{cut_of-faulty}

-- a piece stands within the bytes
pub front_within : (bytes : List ℕ) (ended lf : Bool) (count : ℕ) → IsFrontPiece bytes ended count lf → IsWithin bytes count lf
front_within bytes ended true count is = (omega (arith, is.within), λ _. is.within)
front_within bytes ended false count is = (omega (arith, is.all), λ lf. absurd (false≢true lf))

-- how many bytes are taken with a piece
abbrev pub with_end : ℕ → Bool → ℕ
with_end count ended = if ended then count + 1 else count

module _ (bytes : List ℕ) (count n : ℕ) (later : List ℕ) where
  -- a piece with its LF, whatever comes later
  pub lf_first : HasLfAt bytes count → raw_lines_from n (bytes ++ later) ≡ record { number = n; bytes = take count bytes; ended = true } ∷ raw_lines_from (n + 1) (drop (count + 1) bytes ++ later)
  lf_first at =
      let rest = drop (count + 1) bytes ++ later in
      let parts : bytes ++ later ≡ take count bytes ++ 10 ∷ rest =
      ap (λ (l : List ℕ). l ++ later) at.parts ∙ append_assoc (take count bytes) (10 ∷ drop (count + 1) bytes) later in
      ap (λ (l : List ℕ). numbered n (slice_split is_lf l)) parts
      ∙ ap (numbered n) (slice_split_at is_lf (take count bytes) 10 rest at.before refl)
      ∙ numbered-ended n (take count bytes) is_lf rest

-- a last piece
pub all_first : (bytes : List ℕ) (ended : Bool) (count n : ℕ) (later : List ℕ) → IsAllOf bytes ended count → later ≡ []
    → raw_lines_from n (bytes ++ later) ≡ record { number = n; bytes = take count bytes; ended = false } ∷ raw_lines_from (n + 1) (drop count bytes ++ later)
all_first bytes ended count n later is none =
    let short : length bytes ≤ count = omega (arith, is.all) in
    let some : length bytes ≡ 0 → ⊥ = λ z. omega (arith, is.some, is.all, z) in
    rw (none, take_all count bytes short, drop_of_length-le bytes short, append-nil bytes, slice_split_none is_lf bytes is.no_lf) (numbered-last n bytes some)

-- the first piece of the bytes that are held, whatever comes later, where it isn't too long
pub front_first : (bytes : List ℕ) (ended lf : Bool) (count : ℕ) → IsFrontPiece bytes ended count lf → count ≤ most_bytes → (n : ℕ) (later : List ℕ) → MayCome ended later
    → raw_lines_from n (bytes ++ later) ≡ record { number = n; bytes = take count bytes; ended = lf } ∷ raw_lines_from (n + 1) (drop (with_end count lf) bytes ++ later)
front_first bytes ended true count is short n later may = lf_first bytes count n later is
front_first bytes ended false count is short n later may = all_first bytes ended count n later is (may (is.last short))

-- bytes with no LF are put in front of the first part
split_on : (xs ys : List ℕ) (first : List ℕ) (more : List (List ℕ)) → HasNoLf xs → slice_split is_lf ys ≡ first ∷ more → slice_split is_lf (xs ++ ys) ≡ (xs ++ first) ∷ more
split_on [] ys first more none is = is
split_on (x ∷ xs) ys first more none is =
    slice_split-cons_no is_lf x (xs ++ ys) (none 0 0 (omega arith))
    ∙ ap (onto_first x) (split_on xs ys first more (λ (k d : ℕ) (lt : k < length xs). none (suc k) d (omega arith)) is)

-- a piece that begins with these bytes
pub record BeginsWith (bytes : List ℕ) (n : ℕ) (pieces : List RawLine) : Type 0 where
  pub more : List ℕ
  pub lf : Bool
  pub rest : List RawLine
  pub is : pieces ≡ record { number = n; bytes = bytes ++ more; ended = lf } ∷ rest

begins_by : (bytes : List ℕ) (n : ℕ) (first : List ℕ) (more : List (List ℕ)) → 1 ≤ length bytes → BeginsWith bytes n (numbered n ((bytes ++ first) ∷ more))
begins_by bytes n first [] some = record { more = first; lf = false; rest = []; is = numbered-last n (bytes ++ first) (λ z. omega (arith, z, some, length-append bytes first)) }
begins_by bytes n first (next ∷ more) some = record { more = first; lf = true; rest = numbered (n + 1) (next ∷ more); is = refl }

pub begins_with : (bytes : List ℕ) (n : ℕ) (later : List ℕ) → HasNoLf bytes → 1 ≤ length bytes → BeginsWith bytes n (raw_lines_from n (bytes ++ later))
begins_with bytes n later none some =
    let parts = parts_of is_lf later in
    subst (λ (ps : List (List ℕ)). BeginsWith bytes n (numbered n ps)) (sym (split_on bytes later parts.first parts.more none parts.is)) (begins_by bytes n parts.first parts.more some)

-- what is wrong with a piece is wrong with a longer one
fault_stays : (n : ℕ) (xs ys : List ℕ) (f : LineFault) → fault_at n xs ≡ Some f → fault_at n (xs ++ ys) ≡ Some f
fault_stays n xs ys f is = let long = length-append xs ys in grind (arith, nat_tests)

-- the fault of the piece at the front is that of the cut, whatever comes later
pub front_faulty : (bytes : List ℕ) (ended lf : Bool) (count n : ℕ) (f : LineFault) → IsFrontPiece bytes ended count lf → fault_at n (take count bytes) ≡ Some f
    → (later : List ℕ) → cut_of (raw_lines_from n (bytes ++ later)) ≡ no_line (Some f)
front_faulty bytes ended true count n f is at later =
    ap cut_of (lf_first bytes count n later is) ∙ cut_of-faulty (record { number = n; bytes = take count bytes; ended = true }) (raw_lines_from (n + 1) (drop (count + 1) bytes ++ later)) f at
front_faulty bytes ended false count n f is at later =
    let whole : take count bytes ≡ bytes = take_all count bytes (omega (arith, is.all)) in
    let begins = begins_with bytes n later is.no_lf (omega (arith, is.some, is.all)) in
    let faulty : fault_at n (bytes ++ begins.more) ≡ Some f = fault_stays n bytes begins.more f (subst (λ (l : List ℕ). fault_at n l ≡ Some f) whole at) in
    ap cut_of begins.is ∙ cut_of-faulty (record { number = n; bytes = bytes ++ begins.more; ended = begins.lf }) begins.rest f faulty

-- what was taken lies behind what was taken before
pub taken_at : (before bytes : List ℕ) (count taken : ℕ) → count ≤ taken → slice_range (before ++ take taken bytes) (length before) (length before + count) ≡ take count bytes
taken_at before bytes count taken le =
    let width : length before + count - length before ≡ count = omega arith in
    ap (λ k. take k (drop (length before) (before ++ take taken bytes))) width
    ∙ ap (take count) (drop-append_seam before (take taken bytes))
    ∙ take-take count taken bytes le

-- the first of the pieces was taken
pub takes_first : (bytes : List ℕ) (ended lf : Bool) (count taken : ℕ) (after : Pulled) (t : TakenPiece) → IsFrontPiece bytes ended count lf → count ≤ most_bytes → taken ≡ with_end count lf
    → taken_bytes after t ≡ take count bytes → t.ended ≡ lf → after.bytes ≡ drop taken bytes → TakesFirst ended bytes after t
takes_first bytes ended lf count taken after t front short taken_is bytes_are ended_is rest n later may =
    rw (bytes_are, ended_is, rest, taken_is) (front_first bytes ended lf count front short n later may)
