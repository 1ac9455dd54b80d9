-- A size that is next at a state is next at the state by places.
use Rattle.std.proofs.Common.{◌≡◌, ℕ, ◌≤◌, ◌<◌, true, List, length, None, sym, ◌∙◌, subst, arith}
use Rattle.std.proofs.lemmas.Bool.{lt-ltb, ltb-true}
use Rattle.std.proofs.lemmas.List.{length-map}
use Rattle.grouping_laws.specs.Problem.{Problem}
use Rattle.grouping_laws.specs.GroupsFrom.{IsOrder}
use Rattle.grouping_laws.specs.Places.{codes_at}
use Rattle.grouping_laws.specs.PlaceProblem.{code_at, at_places}
use Rattle.grouping_laws.proofs.Seated.{first_code}
use Rattle.certificate_data.specs.declared.format.Format.{Format}
use Rattle.certificate_data.specs.declared.format.Format.TheVariants.{Wide}
use Rattle.certificate_data.specs.Round.{Round}
use Rattle.certificate_laws.specs.State.{State}
use Rattle.certificate_laws.specs.Fitting.{Fits}
use Rattle.certificate_laws.specs.Leaves.{IsStuck}
use Rattle.certificate_laws.specs.Places.{IsStateAt}
use Rattle.certificate_laws.proofs.Places.{places_serve}
use Rattle.certificate_laws.proofs.StateLemmas.{all_below}
use Rattle.search_groups.specs.PartGroups.{IsSizeToList}

-- a round in the wide format
abbrev by_order : List ℕ → Round
by_order order = record { order = order; limit = 0; target = None; format = Wide; tolerance = None }

pub next_by_places : (p : Problem) (order : List ℕ) (s t : State) (size : ℕ) (format : Format) → format ≡ Wide → IsOrder p order → IsStateAt order s t
    → ((g : List ℕ) → Fits format p s g → length g < size → ⊥) → ((c : ℕ) → IsStuck p s c → ⊥) → ((c : ℕ) → t.rest c ≡ true → t.least c ≤ size) → IsSizeToList (at_places p order) t size
next_by_places p order s t size format wide whole at none free low = record {
  listed = λ c e. sym (all_below (length order) c) ∙ lt-ltb c (length order) (at.rest.below c e);
  none = smaller;
  no_stuck = stuck;
  low = low;
}
  where
    smaller : (g : List ℕ) → Fits Wide (at_places p order) t g → length g < size → ⊥
    smaller g f l =
        let fits = (places_serve.fits p (by_order order) s t g whole at (λ x e. ltb-true x (length order) (all_below (length order) x ∙ f.lawful.listed x e))).0 f in
        none (codes_at order g) (subst (λ z. Fits z p s (codes_at order g)) (sym wide) fits) (omega (arith, l, length-map g (code_at order)))

    stuck : (c : ℕ) → IsStuck (at_places p order) t c → ⊥
    stuck c v =
        let part = places_serve.part p order s.rest t.rest v.part whole at.rest v.is_part in
        let k = first_code (codes_at order v.part) part.connected.some_county in
        free k.0 (record { part = codes_at order v.part; is_part = part; around = k.1; cannot_fill = (places_serve.cannot_fill p order s t v.part whole at (λ x e. at.rest.below x (v.is_part.inside x e))).0 v.cannot_fill })
