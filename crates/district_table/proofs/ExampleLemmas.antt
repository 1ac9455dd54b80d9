-- What the definitions of `specs/DistrictTable.antt` say of two districts that are written out.
use Rattle.std.proofs.Common.{◌≡◌, ℕ, false, refl, [], ◌∷◌, map, codes, arith}
use Rattle.std.specs.Fmt.{digits}
use Rattle.std.specs.Global.{Vec}
use Rattle.grouping_laws.specs.Problem.{Problem}
use Rattle.grouping_laws.proofs.WindowLemmas.{bounds_law}
use Rattle.baf_auditor.specs.declared.finding.Set.{Set}
use Rattle.baf_auditor.specs.declared.finding.Set.TheVariants.{Group, Withdrawn}
use Rattle.district_table.specs.DistrictTable.{label_field, IsDistrictsText}

-- two seats for 200 people, so a district has 95 to 105
abbrev two_seats : Problem
two_seats = record { counties = 37001 ∷ 37003 ∷ []; people = λ c. 100; adjacent = λ x y. false; total_people = 200; chamber = 2; seats_left = 2; numerator = 1; denominator = 20 }

-- one district has too few people, and the other has blocks in a group and in a withdrawn set
example : (s t : Vec Set) (a b : Vec ℕ) → s.items ≡ Group 1 ∷ [] → t.items ≡ Group 1 ∷ Withdrawn 2 ∷ [] → a.items ≡ 37001 ∷ [] → b.items ≡ 37001 ∷ 37003 ∷ []
    → IsDistrictsText
    two_seats
    (record { label = codes "1"; people = 94; sets = s; counties = a } ∷ record { label = codes "2,b"; people = 105; sets = t; counties = b } ∷ [])
    (codes "DISTRICT,POPULATION,LEAST,GREATEST,SETS,COUNTIES\n1,94,95,105,1,37001\n\"2,b\",105,95,105,1 W2,37001 37003\n")
unfolding digits
example s t a b e f g h = ((95, 105), bounds_law two_seats (omega arith) (omega arith) 1 (omega arith), rw (e, f, g, h) refl)

-- a spreadsheet would take the first of these labels for formulas, and not the last
formulas : map label_field (codes "=1+1" ∷ codes "+1" ∷ codes "-2" ∷ codes "@a" ∷ codes "2-1" ∷ codes "a" ∷ codes " =1" ∷ [] ∷ [])
    ≡ codes "'=1+1" ∷ codes "'+1" ∷ codes "'-2" ∷ codes "'@a" ∷ codes "2-1" ∷ codes "a" ∷ codes " =1" ∷ [] ∷ []
formulas = refl
