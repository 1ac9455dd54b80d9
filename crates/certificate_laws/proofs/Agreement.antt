-- What agrees with a state completes it, so proof trees and certificates show what they say.
use Rattle.std.proofs.Common.{◌≡◌, ℕ, ◌+◌, ◌≤◌, true, List, [], ◌∷◌, length, ◌==◌, refl, sym, ap, ◌∙◌, subst, arith, inl, inr, Option, Some, None, Contains}
use Rattle.std.specs.List.{AllZip}
use Rattle.county_codes.specs.declared.group.Group.{Group}
use Rattle.grouping_laws.specs.Sets.{indicator, sum_by, count, count_in, contains, SameSet}
use Rattle.grouping_laws.specs.Problem.{Problem, Suits, people_of, Connected, LawfulGroup}
use Rattle.grouping_laws.specs.Grouping.{Grouping, Lawful, counts, sets_of, seats_of}
use Rattle.place_sets.proofs.Sums.{sum_by-map, total_alike, often_some, digit_one}
use Rattle.grouping_laws.proofs.Elements.{Has, has_all, has_from_contains, contains_from_has, has_set}
use Rattle.grouping_laws.proofs.Digits.{digit_true, true_digit}
use Rattle.grouping_laws.proofs.Sizes.{stands_some, count-le-count_in}
use Rattle.grouping_laws.proofs.Alike.{Alike, length_alike, alike_from_same}
use Rattle.grouping_laws.proofs.Parts.{member_head, has_from_stands}
use Rattle.certificate_data.specs.declared.format.Format.{Format}
use Rattle.certificate_data.specs.declared.format.Format.TheVariants.{Plain, Wide}
use Rattle.certificate_data.specs.Round.{Round}
use Rattle.certificate_laws.specs.State.{State, IsState, IsLeastSize, empty_state}
use Rattle.certificate_laws.specs.Agreement.{Agrees}
use Rattle.certificate_laws.specs.Certificate.{Beats, TargetFits, Conclusion, ProofTreeExcludes, CertificateShows}
use Rattle.certificate_laws.proofs.Completion.{Completes}
use Rattle.certificate_laws.proofs.Steps.{others_of, others_has, sum_by-others, counts_with, beats_same}
use Rattle.certificate_laws.proofs.Heart.{no_greater}

pub others_keep : {X : Type 0} (xs : List X) (y : X) (h : Has xs y) (z : X) → Has xs z → (y ≡ z → ⊥) → Has (others_of xs y h) z
others_keep [] y h z k apart = absurd h
others_keep (x ∷ xs) y (inl e) z (inl k) apart = absurd (apart (sym e ∙ k))
others_keep (x ∷ xs) y (inl e) z (inr k) apart = k
others_keep (x ∷ xs) y (inr h) z (inl k) apart = inl k
others_keep (x ∷ xs) y (inr h) z (inr k) apart = inr (others_keep xs y h z k apart)

-- two groups of a grouping that has a code once are one if both have it
pub one_group : (c : ℕ) (g : Grouping) (m n : Group) → Has g m → Has g n → contains m.codes c ≡ true → contains n.codes c ≡ true → count_in c (sets_of g) ≤ 1 → m ≡ n
one_group c [] m n h k a b once = absurd h
one_group c (x ∷ xs) m n (inl e) (inl f) a b once = sym e ∙ f
one_group c (x ∷ xs) m n (inl e) (inr k) a b once = absurd (omega (arith, once, often_some c x.codes (subst (λ (y : Group). contains y.codes c ≡ true) (sym e) a), stands_some c (sets_of xs) n.codes (has_set xs n k) b))
one_group c (x ∷ xs) m n (inr h) (inl f) a b once = absurd (omega (arith, once, often_some c x.codes (subst (λ (y : Group). contains y.codes c ≡ true) (sym f) b), stands_some c (sets_of xs) m.codes (has_set xs m h) a))
one_group c (x ∷ xs) m n (inr h) (inr k) a b once = one_group c xs m n h k a b (omega arith)

-- what is left of a grouping without the groups that are settled
pub record Peeled (p : Problem) (closed : List (List ℕ)) (g : Grouping) : Type 0 where
  pub opens : Grouping
  pub seats : List ℕ
  pub suits : AllZip (λ k n. Suits p (people_of p k) n) closed seats
  pub all_seats : sum_by (λ k. k) seats + seats_of opens ≡ seats_of g
  pub stand : (c : ℕ) → count_in c closed + count_in c (sets_of opens) ≡ count_in c (sets_of g)
  pub sizes : (j : ℕ) → counts closed j + counts (sets_of opens) j ≡ counts (sets_of g) j
  pub among : (m : Group) → Has opens m → Has g m

pub peel : (p : Problem) (closed : List (List ℕ)) (g : Grouping)
    → ((m : Group) → Has g m → Suits p (people_of p m.codes) m.seats)
    → ((k : List ℕ) → Has closed k → 1 ≤ length k)
    → ((c : ℕ) → count_in c closed ≤ 1)
    → ((k : List ℕ) → Has closed k → (m : Group) × Has g m × Alike m.codes k)
    → Peeled p closed g
peel p [] g suits full once found = record { opens = g; seats = []; suits = tt; all_seats = omega arith; stand = λ c. omega arith; sizes = λ j. omega arith; among = λ m h. h }
peel p (k ∷ closed) g suits full once found =
    let r = found k (inl refl) in
    let next = peel p closed (others_of g r.0 r.1) (λ m h. suits m (others_has g r.0 r.1 m h)) (λ x h. full x (inr h)) (λ c. omega (arith, once c))
    (λ x h. let q = found x (inr h) in (q.0, others_keep g r.0 r.1 q.0 q.1 (λ e. apart r.0 r.2 q.0 x q.2 h e), q.2)) in
    record {
      opens = next.opens;
      seats = r.0.seats ∷ next.seats;
      suits = (subst (λ z. Suits p z r.0.seats) (total_alike p.people r.0.codes k r.2) (suits r.0 r.1), next.suits);
      all_seats = omega (arith, next.all_seats, sum_by-others (λ (m : Group). m.seats) g r.0 r.1);
      stand = λ c. omega (arith, next.stand c, r.2 c, sum_by-map (count c) (λ (m : Group). m.codes) g, sum_by-map (count c) (λ (m : Group). m.codes) (others_of g r.0 r.1), sum_by-others (λ (m : Group). count c m.codes) g r.0 r.1);
      sizes = λ j. omega (arith, next.sizes j, ap (λ z. indicator (z == j)) (length_alike r.0.codes k r.2), sum_by-map (λ x. indicator (length x == j)) (λ (m : Group). m.codes) g, sum_by-map (λ x. indicator (length x == j)) (λ (m : Group). m.codes) (others_of g r.0 r.1), sum_by-others (λ (m : Group). indicator (length m.codes == j)) g r.0 r.1);
      among = λ m h. others_has g r.0 r.1 m (next.among m h);
    }
  where
    first_code : (zs : List ℕ) → 1 ≤ length zs → (y : ℕ) × (contains zs y ≡ true)
    first_code [] h = absurd (omega arith)
    first_code (z ∷ zs) h = (z, member_head z zs)

    apart : (m : Group) → Alike m.codes k → (n : Group) → (x : List ℕ) → Alike n.codes x → Has closed x → m ≡ n → ⊥
    apart m a n x b h e =
        let y = first_code k (full k (inl refl)) in
        omega (arith, a y.0, b y.0, often_some y.0 k y.1, count-le-count_in y.0 closed x h, once y.0, ap (λ (z : Group). count y.0 z.codes) e)

module _ (p : Problem) (round : Round) (s : State) (state : IsState p round s) (g : Grouping) (lawful : Lawful p g) (agrees : Agrees s g) where
  once_in_grouping : (c : ℕ) → count_in c (sets_of g) ≤ 1
  once_in_grouping c = omega (arith, lawful.once c, digit_one (contains p.counties c))

  once_in_closed : (c : ℕ) → count_in c s.closed ≤ 1
  once_in_closed c = omega (arith, state.once c, digit_one (contains p.counties c))

  closed_found : (k : List ℕ) → Has s.closed k → (m : Group) × Has g m × Alike m.codes k
  closed_found k h =
      let r = has_all (λ k. (m : Group) × Contains g m × SameSet m.codes k) s.closed agrees.closed k h in
      let has = has_from_contains g r.0 r.1 in
      (r.0, has, alike_from_same r.0.codes k (λ c. omega (arith, count-le-count_in c (sets_of g) r.0.codes (has_set g r.0 has), once_in_grouping c)) (λ c. omega (arith, count-le-count_in c s.closed k h, once_in_closed c)) r.2)

  pub peeled : Peeled p s.closed g
  peeled = peel p s.closed g (has_all (λ m. Suits p (people_of p m.codes) m.seats) g lawful.suits) (λ k h. (has_all (LawfulGroup p) s.closed state.lawful k h).connected.some_county) once_in_closed closed_found

  pub peeled_completes : Completes p s (peeled).opens
  peeled_completes = record {
    once = λ c. omega (arith, (peeled).stand c, state.once c, lawful.once c);
    connected = λ m h. has_all (λ m. Connected p m.codes) g lawful.connected m ((peeled).among m h);
    suits = λ m h. has_all (λ m. Suits p (people_of p m.codes) m.seats) g lawful.suits m ((peeled).among m h);
    large = λ m h c e.
        let there = digit_true (s.rest c) (omega (arith, (peeled).stand c, state.once c, lawful.once c, stands_some c (sets_of (peeled).opens) m.codes (has_set (peeled).opens m h) e)) in
        let r = agrees.large c there in
        let same = one_group c g m r.0 ((peeled).among m h) (has_from_contains g r.0 r.1) e r.2 (once_in_grouping c) in
        subst (λ (z : Group). s.least c ≤ length z.codes) (sym same) r.3;
    seats = (peeled).seats;
    closed_suits = (peeled).suits;
    all_seats = (peeled).all_seats ∙ lawful.seats;
  }

pub proof_tree_excludes : ProofTreeExcludes
proof_tree_excludes p round s tree order fits state proves g lawful agrees beats =
    no_greater tree p round s order fits state.once proves (peeled p round s state g lawful agrees).opens (peeled_completes p round s state g lawful agrees)
    (beats_same round.target (counts (sets_of g)) (counts_with s (peeled p round s state g lawful agrees).opens) (λ j. sym ((peeled p round s state g lawful agrees).sizes j)) beats)

-- a county that asks for nothing
pub no_size : (format : Format) (limit : ℕ) → IsLeastSize format limit 0
no_size Plain limit = inl refl
no_size Wide limit = tt

pub empty_is_state : (p : Problem) (round : Round) → IsState p round (empty_state p)
empty_is_state p round = record {
  once = λ c. omega arith;
  lawful = λ k d h. absurd (omega arith);
  small = λ k d h. absurd (omega arith);
  sizes = λ c. no_size round.format round.limit;
  settled = λ c e. refl;
}

pub empty_agrees : (p : Problem) (g : Grouping) → Lawful p g → Agrees (empty_state p) g
empty_agrees p g lawful = record {
  closed = λ k d h. absurd (omega arith);
  large = λ c e. let r = has_from_stands c g (omega (arith, lawful.once c, true_digit (contains p.counties c) e)) in (r.0, contains_from_has g r.0 r.1, r.2, omega arith);
}

pub certificate_shows : CertificateShows
certificate_shows p round tree c = go round.target c.target (λ g lawful beats. proof_tree_excludes p round (empty_state p) tree c.order c.target (empty_is_state p round) c.proof g lawful (empty_agrees p g lawful) beats)
  where
    go : (target : Option Grouping) → TargetFits p round.limit target → ((g : Grouping) → Lawful p g → Beats target (counts (sets_of g)) → ⊥) → Conclusion p target
    go None fits h = λ g lawful. h g lawful tt
    go (Some t) fits h = record { lawful = fits.0; none_greater = h }
