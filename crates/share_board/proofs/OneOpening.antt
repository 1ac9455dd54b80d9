-- A plain round opens in one way: whichever skeleton it begins with has as many pieces.
use Rattle.std.proofs.Common.{◌≡◌, ℕ, ◌-◌, ◌<◌, ◌≤◌, true, List, ◌∷◌, filter, refl, sym, ap, ◌∙◌, subst, arith, inl, inr, Option, Some, None}
use Rattle.grouping_laws.specs.Problem.{Problem}
use Rattle.grouping_laws.specs.GroupsFrom.{BeginsWith}
use Rattle.certificate_data.specs.declared.format.Format.{Format}
use Rattle.certificate_data.specs.declared.format.Format.TheVariants.{Plain, Wide}
use Rattle.certificate_data.specs.Round.{Round}
use Rattle.certificate_laws.specs.State.{State, open_to, close, raise}
use Rattle.certificate_laws.specs.Groups.{AreGroupsAt}
use Rattle.certificate_laws.specs.Proving.{NamesLimit, GoesInOrder, CanBranch, limit_of}
use Rattle.certificate_laws.proofs.Decided.{leaves_are_decided}
use Rattle.board_laws.specs.Skeleton.{Skeleton, waits, proved, split, Parts, no_part, part, groups_in}
use Rattle.board_laws.specs.Content.{Opens, EachOpens}

-- the numbers go up
mutual
  pub opens_up : (depth : ℕ) (skeleton : Skeleton) (p : Problem) (round : Round) (s : State) (first next : ℕ) → Opens depth skeleton p round s first next → first < next
  opens_up depth (waits piece) p round s first next o = omega (arith, o.1)
  opens_up depth (proved piece tree) p round s first next o = absurd o
  opens_up depth (split piece county limit parts raised) p round s first next o =
      omega (arith, opens_up_in (depth - 1) parts p round s first o.5.0 o.5.1, opens_up (depth - 1) raised p round (raise county (limit_of round limit) s) o.5.0 next o.5.2)

  pub opens_up_in : (depth : ℕ) (parts : Parts) (p : Problem) (round : Round) (s : State) (first next : ℕ) → EachOpens depth parts p round s first next → first ≤ next
  opens_up_in depth no_part p round s first next o = omega (arith, o)
  opens_up_in depth (part codes skeleton others) p round s first next o =
      omega (arith, opens_up depth skeleton p round (close codes s) first o.0 o.1, opens_up_in depth others p round s o.0 next o.2)

-- in a plain round a branch names no limit, and its county is the first that is open
pub names_none : (format : Format) (limit : Option ℕ) → format ≡ Plain → NamesLimit format limit → limit ≡ None
names_none Plain None e n = refl
names_none Plain (Some limit) e n = absurd n
names_none Wide limit e n = absurd (cc)

goes_first : (format : Format) (round : Round) (s : State) (county limit : ℕ) → format ≡ Plain → GoesInOrder format round s county limit → BeginsWith county (filter (open_to s limit) round.order)
goes_first Plain round s county limit e g = g.1
goes_first Wide round s county limit e g = absurd (cc)

one_first : (c d : ℕ) (xs : List ℕ) → BeginsWith c xs → BeginsWith d xs → c ≡ d
one_first c d xs a b = let same : c ∷ a.0 ≡ d ∷ b.0 = sym a.1 ∙ b.1 in cc

module _ (p : Problem) (round : Round) (plain : round.format ≡ Plain) where
  -- what a branch without a limit is
  pub at_limit : (s : State) (county : ℕ) (limit : Option ℕ) → NamesLimit round.format limit → limit_of round limit ≡ round.limit
  at_limit s county limit names = ap (limit_of round) (names_none round.format limit plain names)

  pub one_county : (s : State) (c d : ℕ) (l k : Option ℕ) → NamesLimit round.format l → NamesLimit round.format k → CanBranch round s c (limit_of round l) → CanBranch round s d (limit_of round k) → c ≡ d
  one_county s c d l k n m a b =
      one_first c d (filter (open_to s round.limit) round.order)
      (goes_first round.format round s c round.limit plain (subst (CanBranch round s c) (at_limit s c l n) a).in_turn)
      (goes_first round.format round s d round.limit plain (subst (CanBranch round s d) (at_limit s d k m) b).in_turn)

  pub none_apart : (s : State) (c : ℕ) (l : Option ℕ) → NamesLimit round.format l → CanBranch round s c (limit_of round l) → open_to s round.limit c ≡ true
  none_apart s c l n a = (subst (CanBranch round s c) (at_limit s c l n) a).is_open

  mutual
    pub opens_one : (depth : ℕ) (a b : Skeleton) (s : State) (first n m : ℕ) → Opens depth a p round s first n → Opens depth b p round s first m → n ≡ m
    opens_one depth (waits x) (waits y) s first n m o q = o.1 ∙ sym q.1
    opens_one depth (waits x) (proved y tree) s first n m o q = absurd q
    opens_one depth (waits x) (split y d k others later) s first n m (o, e, inl zero) q = absurd (omega (arith, zero, q.1))
    opens_one depth (waits x) (split y d k others later) s first n m (o, e, inr none) q = absurd (none d (none_apart s d k q.2 q.3))
    opens_one depth (proved x tree) b s first n m o q = absurd o
    opens_one depth (split x c l parts raised) (waits y) s first n m o (q, e, inl zero) = absurd (omega (arith, zero, o.1))
    opens_one depth (split x c l parts raised) (waits y) s first n m o (q, e, inr none) = absurd (none c (none_apart s c l o.2 o.3))
    opens_one depth (split x c l parts raised) (proved y tree) s first n m o q = absurd q
    opens_one depth (split x c l parts raised) (split y d k others later) s first n m o q =
        let county : c ≡ d = one_county s c d l k o.2 q.2 o.3 q.3 in
        let limit : limit_of round l ≡ limit_of round k = at_limit s c l o.2 ∙ sym (at_limit s d k q.2) in
        let state : raise c (limit_of round l) s ≡ raise d (limit_of round k) s = ap (λ z. raise z (limit_of round l) s) county ∙ ap (λ z. raise d z s) limit in
        let are = subst (λ z. AreGroupsAt p round s d z (groups_in parts)) limit (subst (λ z. AreGroupsAt p round s z (limit_of round l) (groups_in parts)) county o.4) in
        let groups = (leaves_are_decided).groups_at p round s d (limit_of round k) (groups_in parts) (groups_in others) are q.4 in
        let between : o.5.0 ≡ q.5.0 = opens_one_in (depth - 1) parts others s first o.5.0 q.5.0 groups o.5.1 q.5.1 in
        opens_one (depth - 1) raised later (raise d (limit_of round k) s) q.5.0 n m
        (subst (λ z. Opens (depth - 1) raised p round z q.5.0 n) state (subst (λ z. Opens (depth - 1) raised p round (raise c (limit_of round l) s) z n) between o.5.2)) q.5.2

    pub opens_one_in : (depth : ℕ) (a b : Parts) (s : State) (first n m : ℕ) → groups_in a ≡ groups_in b → EachOpens depth a p round s first n → EachOpens depth b p round s first m → n ≡ m
    opens_one_in depth no_part no_part s first n m same o q = o ∙ sym q
    opens_one_in depth no_part (part d k others) s first n m same o q = absurd (cc)
    opens_one_in depth (part c a more) no_part s first n m same o q = absurd (cc)
    opens_one_in depth (part c a more) (part d b others) s first n m same o q =
        let codes : c ≡ d = cc in
        let tail : groups_in more ≡ groups_in others = cc in
        let between : o.0 ≡ q.0 = opens_one depth a b (close d s) first o.0 q.0 (subst (λ z. Opens depth a p round (close z s) first o.0) codes o.1) q.1 in
        opens_one_in depth more others s q.0 n m tail (subst (λ z. EachOpens depth more p round s z n) between o.2) q.2
