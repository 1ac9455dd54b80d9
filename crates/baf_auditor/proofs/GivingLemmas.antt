-- The listed blocks that lines give to districts, line by line.
use Rattle.std.proofs.Common.{◌≡◌, ℕ, ◌+◌, ◌*◌, ◌<◌, ◌≤◌, ◌==◌, ◌&&◌, ◌||◌, cond, Bool, true, false, List, Option, Some, None, refl, sym, ap, subst, ◌∙◌, arith, if◌then◌else◌}
use Rattle.std.proofs.Math.Bool.{and_comm}
use Rattle.std.specs.Str.{bytes_eq}
use Rattle.std.specs.Option.{unwrap_or}
use Rattle.std.specs.Ordering.{nat_cmp, ordering_then, is_eq}
use Rattle.std.specs.declared.cmp.Ordering.{Ordering}
use Rattle.std.specs.declared.cmp.Ordering.TheVariants.{Less, Equal, Greater}
use Rattle.std.specs.Cmp.{unsigned_tied}
use Rattle.std.specs.Cmp.Lexicographic.{slice_cmp, texts_ties, same_text}
use Rattle.std.specs.BTreeMap.{is_at}
use Rattle.baf_auditor.specs.Findings.{DrawnSet, county_of_block}
use Rattle.baf_auditor.specs.Listing.{place_of}
use Rattle.baf_auditor.specs.Giving.{by_label}
use Rattle.baf_auditor.specs.Districts.{with_people, is_place, after_shown, shows_county}

-- ---- keys that tie
pub tied_then : (a b : Ordering) → is_eq (ordering_then a b) ≡ (is_eq a && is_eq b)
tied_then Less b = refl
tied_then Equal b = refl
tied_then Greater b = refl

pub tied_key : (x y : List ℕ × ℕ) → is_at (by_label x) y ≡ (bytes_eq x.0 y.0 && x.1 == y.1)
tied_key x y = tied_then (slice_cmp nat_cmp x.0 y.0) (nat_cmp x.1 y.1)
    ∙ ap (λ (b : Bool). b && is_eq (nat_cmp x.1 y.1)) (sym (texts_ties x.0 y.0))
    ∙ ap (λ (b : Bool). bytes_eq x.0 y.0 && b) (unsigned_tied x.1 y.1)

-- ---- the people of a district are put in their place
pub put_people : (own : List ℕ) (people before : ℕ) (old : List ℕ → Option ℕ) (other : List ℕ) (new : Option ℕ) → before ≡ unwrap_or (old own) 0
    → new ≡ cond (is_at (slice_cmp nat_cmp own) other) (Some (before + people)) (old other) → new ≡ with_people other own people (old other)
put_people own people before old other new sum put =
    put ∙ ap (λ (b : Bool). cond b (Some (before + people)) (old other)) (sym (texts_ties own other)) ∙ by (bytes_eq own other) refl
  where
    by : (b : Bool) → bytes_eq own other ≡ b → cond b (Some (before + people)) (old other) ≡ (if b then Some (unwrap_or (old other) 0 + people) else old other)
    by false t = refl
    by true t =
        let same : own ≡ other = same_text own other (sym t) in
        let there : before ≡ unwrap_or (old other) 0 = sum ∙ ap (λ (l : List ℕ). unwrap_or (old l) 0) same in
        ap (λ (n : ℕ). Some (n + people)) there

-- one more block has at most as many people as fit
pub more_people : (other own : List ℕ) (people i : ℕ) (before new : Option ℕ) → people < 4294967296 → unwrap_or before 0 ≤ 4294967296 * i → new ≡ with_people other own people before
    → unwrap_or new 0 ≤ 4294967296 * (i + 1)
more_people other own people i before new fits few is = subst (λ (o : Option ℕ). unwrap_or o 0 ≤ 4294967296 * (i + 1)) (sym is) (by (bytes_eq own other))
  where
    by : (b : Bool) → unwrap_or (if b then Some (unwrap_or before 0 + people) else before) 0 ≤ 4294967296 * (i + 1)
    by true = omega (arith, fits, few)
    by false = omega (arith, few)

-- ---- a district is put with its set's place
pub put_place : (label : List ℕ) (code place : ℕ) (drawn : List DrawnSet) (key : List ℕ × ℕ) (before new : Option (Unit {0})) → place_of drawn (county_of_block code) ≡ Some place
    → new ≡ cond (is_at (by_label (label, place)) key) (Some tt) before → new ≡ after_shown drawn key before (label, code)
put_place label code place drawn key before new is put =
    put ∙ ap (λ (b : Bool). cond b (Some tt) before) (tied_key (label, place) key ∙ and_comm (bytes_eq label key.0) (place == key.1))
    ∙ ap (λ (o : Option ℕ). cond (is_place o key.1 && bytes_eq label key.0) (Some tt) before) (sym is)

pub no_place : (label : List ℕ) (code : ℕ) (drawn : List DrawnSet) (key : List ℕ × ℕ) (before : Option (Unit {0})) → place_of drawn (county_of_block code) ≡ None
    → before ≡ after_shown drawn key before (label, code)
no_place label code drawn key before none = ap (λ (o : Option ℕ). if (is_place o key.1 && bytes_eq label key.0) then Some tt else before) (sym none)

-- ---- a district is put with a county
pub put_county : (label : List ℕ) (code : ℕ) (key : List ℕ × ℕ) (before new : Bool) → new ≡ cond (is_at (by_label (label, county_of_block code)) key) true before
    → new ≡ (shows_county key (label, code) || before)
put_county label code key before new put =
    put ∙ ap (λ (b : Bool). cond b true before) (tied_key (label, county_of_block code) key) ∙ by (shows_county key (label, code))
  where
    by : (b : Bool) → cond b true before ≡ (b || before)
    by true = refl
    by false = refl

pub or_moved : (s o r : Bool) → ((s || o) || r) ≡ (o || (s || r))
or_moved true true r = refl
or_moved true false r = refl
or_moved false o r = refl
