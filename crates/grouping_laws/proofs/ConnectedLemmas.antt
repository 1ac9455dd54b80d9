-- A set is connected exactly where the part around one of its counties is as large.
use Rattle.std.proofs.Common.{◌≡◌, ℕ, ◌≤◌, ◌==◌, ◌↔◌, IsTrue, Bool, true, false, List, length, refl, sym, ap, ◌∙◌, arith}
use Rattle.std.proofs.lemmas.Bool.{eqb-true, eq-eqb, false≢true}
use Rattle.grouping_laws.specs.Sets.{indicator, count, contains}
use Rattle.grouping_laws.specs.Problem.{Problem, Connected}
use Rattle.grouping_laws.specs.Parts.{IsPart}
use Rattle.place_sets.proofs.Sums.{often_none, often_some, total_within, total_ones, sum_by-take_out, take_out}
use Rattle.grouping_laws.proofs.Alike.{connected_alike, length_alike, alike_from_same}
use Rattle.grouping_laws.proofs.Fill.{whole, same_from}

-- codes of a list, each once and as many as the list's, are all of it
all_of_it : (part codes : List ℕ) → ((c : ℕ) → count c part ≤ 1) → ((c : ℕ) → count c codes ≤ 1) → ((c : ℕ) → contains part c ≡ true → contains codes c ≡ true) → length codes ≤ length part → (c : ℕ) → contains codes c ≡ true → contains part c ≡ true
all_of_it part codes once single inside long c m = go (contains part c) refl
  where
    go : (b : Bool) → contains part c ≡ b → b ≡ true
    go true e = refl
    go false e = absurd (omega (arith, total_within (λ x. 1) part (take_out c codes) fewer, total_ones part, total_ones (take_out c codes), total_ones codes, sum_by-take_out (λ x. 1) c codes m, long))
      where
        fewer : (d : ℕ) → count d part ≤ count d (take_out c codes)
        fewer d = other (contains part d) refl
          where
            other : (b : Bool) → contains part d ≡ b → count d part ≤ count d (take_out c codes)
            other false f = omega (arith, often_none d part f)
            other true f = omega (arith, once d, often_some d codes (inside d f), sum_by-take_out (λ y. indicator (y == d)) c codes m, apart (c == d) refl)
              where
                apart : (b : Bool) → (c == d) ≡ b → indicator (c == d) ≡ 0
                apart true k = absurd (false≢true (sym e ∙ (ap (contains part) (eqb-true c d k) ∙ f)))
                apart false k = ap indicator k

pub same_length : (p : Problem) (part codes : List ℕ) (start size : ℕ) → ((c : ℕ) → count c codes ≤ 1) → IsPart p (contains codes) part → contains part start ≡ true → size ≡ length part → IsTrue (size == length codes) ↔ Connected p codes
same_length p part codes start size once is around measured = (λ t. there (eqb-true size (length codes) t), λ connected. eq-eqb size (length codes) (back connected))
  where
    there : size ≡ length codes → Connected p codes
    there e = connected_alike p part codes (alike_from_same part codes is.once once (same_from part codes (λ y m. all_of_it part codes is.once once is.inside (omega (arith, e, measured)) y m) is.inside)) is.connected

    back : Connected p codes → size ≡ length codes
    back connected = measured ∙ length_alike part codes (alike_from_same part codes is.once once (whole p part codes start connected is around))
