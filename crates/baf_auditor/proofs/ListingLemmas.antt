-- The places of sets, and what the listed blocks are.
use Rattle.std.proofs.Common.{◌≡◌, ℕ, suc, ◌+◌, cond, Bool, true, false, List, [], ◌∷◌, ◌++◌, length, Option, Some, None, refl, sym, ap, ◌∙◌, arith}
use Rattle.std.specs.List.{position_from}
use Rattle.std.specs.Option.{option_map, option_or}
use Rattle.county_codes.specs.declared.group.Group.{Group}
use Rattle.county_codes.specs.declared.withdrawn.Withdrawn as county
use Rattle.grouping_laws.specs.Sets.{contains}
use Rattle.grouping_laws.specs.Grouping.{Grouping}
use Rattle.baf_auditor.specs.Findings.{DrawnSet, groups_from, withdrawn_from}
use Rattle.baf_auditor.specs.Listing.{place_of}

-- ---- the place of a county's set, by groups and withdrawn sets
option_map_map : (n : ℕ) (o : Option ℕ) → option_map (λ i. (n + 1) + i) o ≡ option_map (λ i. n + i) (option_map (λ i. (0 + 1) + i) o)
option_map_map n None = refl
option_map_map n (Some i) = let e : (n + 1) + i ≡ n + ((0 + 1) + i) = omega arith in ap (λ (k : ℕ). Some k) e

-- places counted from a number
pub shifted : {X : Type 0} (test : X → Bool) (xs : List X) (n : ℕ) → position_from test n xs ≡ option_map (λ i. n + i) (position_from test 0 xs)
shifted test [] n = refl
shifted {X = X} test (x ∷ xs) n = by (test x)
    (shifted test xs (n + 1) ∙ option_map_map n (position_from test 0 xs) ∙ ap (λ (o : Option ℕ). option_map (λ i. n + i) o) (sym (shifted test xs (0 + 1))))
  where
    by : (b : Bool) → position_from test (n + 1) xs ≡ option_map (λ i. n + i) (position_from test (0 + 1) xs)
        → cond b (Some n) (position_from test (n + 1) xs) ≡ option_map (λ i. n + i) (cond b (Some 0) (position_from test (0 + 1) xs))
    by true later = let e : n ≡ n + 0 = omega arith in ap (λ (k : ℕ). Some k) e
    by false later = later

-- the withdrawn sets, whatever their numbers
of_withdrawn : (code : ℕ) (ws : List county.Withdrawn) (n k : ℕ)
    → position_from (λ (set : DrawnSet). contains set.codes code) n (withdrawn_from k ws) ≡ position_from (λ (w : county.Withdrawn). contains w.codes code) n ws
of_withdrawn code [] n k = refl
of_withdrawn code (w ∷ ws) n k = ap (λ (o : Option ℕ). cond (contains w.codes code) (Some n) o) (of_withdrawn code ws (n + 1) (k + 1))

-- the groups, and then further sets
of_groups : (code : ℕ) (rest : List DrawnSet) (gs : Grouping) (n k : ℕ)
    → position_from (λ (set : DrawnSet). contains set.codes code) n (groups_from k gs ++ rest)
    ≡ option_or (position_from (λ (g : Group). contains g.codes code) n gs) (position_from (λ (set : DrawnSet). contains set.codes code) (n + length gs) rest)
of_groups code rest [] n k = let e : n ≡ n + 0 = omega arith in ap (λ (m : ℕ). position_from (λ (set : DrawnSet). contains set.codes code) m rest) e
of_groups code rest (g ∷ gs) n k = by (contains g.codes code) (of_groups code rest gs (n + 1) (k + 1))
  where
    by : (b : Bool) → position_from (λ (set : DrawnSet). contains set.codes code) (n + 1) (groups_from (k + 1) gs ++ rest)
        ≡ option_or (position_from (λ (h : Group). contains h.codes code) (n + 1) gs) (position_from (λ (set : DrawnSet). contains set.codes code) (n + 1 + length gs) rest)
        → cond b (Some n) (position_from (λ (set : DrawnSet). contains set.codes code) (n + 1) (groups_from (k + 1) gs ++ rest))
        ≡ option_or (cond b (Some n) (position_from (λ (h : Group). contains h.codes code) (n + 1) gs)) (position_from (λ (set : DrawnSet). contains set.codes code) (n + suc (length gs)) rest)
    by true later = refl
    by false later =
        let e : n + 1 + length gs ≡ n + suc (length gs) = omega arith in
        later ∙ ap (λ (m : ℕ). option_or (position_from (λ (h : Group). contains h.codes code) (n + 1) gs) (position_from (λ (set : DrawnSet). contains set.codes code) m rest)) e

pub place_in_sets : (code : ℕ) (gs : Grouping) (ws : List county.Withdrawn)
    → place_of (groups_from 1 gs ++ withdrawn_from 1 ws) code
    ≡ option_or (position_from (λ (g : Group). contains g.codes code) 0 gs) (option_map (λ i. length gs + i) (position_from (λ (w : county.Withdrawn). contains w.codes code) 0 ws))
place_in_sets code gs ws =
    let e : 0 + length gs ≡ length gs = omega arith in
    of_groups code (withdrawn_from 1 ws) gs 0 1
    ∙ ap (λ (m : ℕ). option_or (position_from (λ (g : Group). contains g.codes code) 0 gs) (position_from (λ (set : DrawnSet). contains set.codes code) m (withdrawn_from 1 ws))) e
    ∙ ap (λ (o : Option ℕ). option_or (position_from (λ (g : Group). contains g.codes code) 0 gs) o)
    (of_withdrawn code ws (length gs) 1 ∙ shifted (λ (w : county.Withdrawn). contains w.codes code) ws (length gs))

-- where no group has the county, the place is that of the withdrawn set
pub place_late : (code : ℕ) (gs : Grouping) (ws : List county.Withdrawn) (place : ℕ)
    → position_from (λ (g : Group). contains g.codes code) 0 gs ≡ None → position_from (λ (w : county.Withdrawn). contains w.codes code) 0 ws ≡ Some place
    → Some (length gs + place) ≡ place_of (groups_from 1 gs ++ withdrawn_from 1 ws) code
place_late code gs ws place none there = sym (place_in_sets code gs ws
    ∙ ap (λ (o : Option ℕ). option_or o (option_map (λ i. length gs + i) (position_from (λ (w : county.Withdrawn). contains w.codes code) 0 ws))) none
    ∙ ap (λ (o : Option ℕ). option_map (λ i. length gs + i) o) there)
