-- A plain round opens in one way: there is one skeleton.
use Rattle.std.proofs.Common.{◌≡◌, ℕ, ◌-◌, sym, ap, ◌∙◌, subst, arith, inl, inr}
use Rattle.grouping_laws.specs.Problem.{Problem}
use Rattle.certificate_data.specs.declared.format.Format.TheVariants.{Plain}
use Rattle.certificate_data.specs.Round.{Round}
use Rattle.certificate_laws.specs.State.{State, close, raise}
use Rattle.certificate_laws.specs.Groups.{AreGroupsAt}
use Rattle.certificate_laws.specs.Proving.{limit_of}
use Rattle.certificate_laws.proofs.Decided.{leaves_are_decided}
use Rattle.board_laws.specs.Skeleton.{Skeleton, waits, proved, split, Parts, no_part, part, groups_in}
use Rattle.board_laws.specs.Content.{Opens, EachOpens}
use Rattle.share_board.proofs.OneOpening.{names_none, one_county, none_apart, opens_one, opens_one_in}

module _ (p : Problem) (round : Round) (plain : round.format ≡ Plain) where
  mutual
    pub same_skeleton : (depth : ℕ) (a b : Skeleton) (s : State) (first n m : ℕ) → Opens depth a p round s first n → Opens depth b p round s first m
        → a ≡ b
    same_skeleton depth (waits x) (waits y) s first n m o q = ap waits (o.0 ∙ sym q.0)
    same_skeleton depth (waits x) (proved y tree) s first n m o q = absurd q
    same_skeleton depth (waits x) (split y d k others later) s first n m (o, e, inl zero) q = absurd (omega (arith, zero, q.1))
    same_skeleton depth (waits x) (split y d k others later) s first n m (o, e, inr none) q = absurd (none d (none_apart p round plain s d k q.2 q.3))
    same_skeleton depth (proved x tree) b s first n m o q = absurd o
    same_skeleton depth (split x c l parts raised) (waits y) s first n m o (q, e, inl zero) = absurd (omega (arith, zero, o.1))
    same_skeleton depth (split x c l parts raised) (waits y) s first n m o (q, e, inr none) = absurd (none c (none_apart p round plain s c l o.2 o.3))
    same_skeleton depth (split x c l parts raised) (proved y tree) s first n m o q = absurd q
    same_skeleton depth (split x c l parts raised) (split y d k others later) s first n m o q =
        let county : c ≡ d = one_county p round plain s c d l k o.2 q.2 o.3 q.3 in
        let piece : x ≡ y = o.0 ∙ sym q.0 in
        let named : l ≡ k = names_none round.format l plain o.2 ∙ sym (names_none round.format k plain q.2) in
        let own = subst (λ z. AreGroupsAt p round s d (limit_of round z) (groups_in parts)) named
        (subst (λ z. AreGroupsAt p round s z (limit_of round l) (groups_in parts)) county o.4) in
        let groups = (leaves_are_decided).groups_at p round s d (limit_of round k) (groups_in parts) (groups_in others) own q.4 in
        let between : o.5.0 ≡ q.5.0 = opens_one_in p round plain (depth - 1) parts others s first o.5.0 q.5.0 groups o.5.1 q.5.1 in
        let state : raise c (limit_of round l) s ≡ raise d (limit_of round k) s =
        ap (λ z. raise z (limit_of round l) s) county ∙ ap (λ z. raise d (limit_of round z) s) named in
        let behind = subst (λ z. Opens (depth - 1) raised p round z q.5.0 n) state
        (subst (λ z. Opens (depth - 1) raised p round (raise c (limit_of round l) s) z n) between o.5.2) in
        let first_parts : parts ≡ others = same_parts (depth - 1) parts others s first o.5.0 q.5.0 groups o.5.1 q.5.1 in
        let last_part : raised ≡ later = same_skeleton (depth - 1) raised later (raise d (limit_of round k) s) q.5.0 n m behind q.5.2 in
        cc (county, piece, named, first_parts, last_part)

    same_parts : (depth : ℕ) (a b : Parts) (s : State) (first n m : ℕ) → groups_in a ≡ groups_in b → EachOpens depth a p round s first n
        → EachOpens depth b p round s first m → a ≡ b
    same_parts depth no_part no_part s first n m same o q = cc
    same_parts depth no_part (part d k others) s first n m same o q = absurd (cc)
    same_parts depth (part c a more) no_part s first n m same o q = absurd (cc)
    same_parts depth (part c a more) (part d b others) s first n m same o q =
        let codes : c ≡ d = cc in
        let tail : groups_in more ≡ groups_in others = cc in
        let own = subst (λ z. Opens depth a p round (close z s) first o.0) codes o.1 in
        let between : o.0 ≡ q.0 = opens_one p round plain depth a b (close d s) first o.0 q.0 own q.1 in
        let here : a ≡ b = same_skeleton depth a b (close d s) first o.0 q.0 own q.1 in
        let behind : more ≡ others = same_parts depth more others s q.0 n m tail (subst (λ z. EachOpens depth more p round s z n) between o.2) q.2 in
        cc (codes, here, behind)
