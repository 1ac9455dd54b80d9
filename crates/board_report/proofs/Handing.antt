-- The piece of a number, where it is handed out.
use Rattle.std.proofs.Common.{◌≡◌, ◌≢◌, ℕ, List, sym, ◌∙◌, subst, arith, inl, inr, Contains}
use Rattle.grouping_laws.specs.Problem.{Problem}
use Rattle.grouping_laws.proofs.Elements.{Has, has_from_contains}
use Rattle.certificate_laws.specs.State.{State, empty_state}
use Rattle.board_laws.specs.Skeleton.{waiting}
use Rattle.board_laws.specs.Standing.{StandsAt}
use Rattle.board_laws.specs.Content.{Content, hand, Reply, Piece, NothingLeft, Memory}
use Rattle.share_board.specs.Replies.{IsReply, IsHanded}

-- what is said where a piece is handed out
pub record IsPieceAt (p : Problem) (b : Content) (from piece : ℕ) (s : State) : Type 0 where
  pub handed : IsHanded (waiting b.skeleton) from piece
  pub stands : StandsAt b.skeleton b.round (empty_state p) piece s

pub piece_handed : (p : Problem) (depth budget : ℕ) (b : Content) (from number piece : ℕ) (s : State) (answer : Reply) → answer ≡ Piece number piece s → IsReply p depth budget b (hand from) answer → IsPieceAt p b from piece s
piece_handed p depth budget b from number piece s answer e (inl m) = absurd (cc)
piece_handed p depth budget b from number piece s answer e (inr (inl h)) = let clash : Piece number piece s ≡ NothingLeft = sym e ∙ h.1 in absurd (cc)
piece_handed p depth budget b from number piece s answer e (inr (inr h)) =
    let same : Piece number piece s ≡ Piece b.number h.1.0 h.1.1 = sym e ∙ h.1.4 in
    let pieces : h.1.0 ≡ piece = cc in
    let states : h.1.1 ≡ s = cc in
    record {
      handed = subst (IsHanded (waiting b.skeleton) from) pieces h.1.2;
      stands = subst (λ z. StandsAt b.skeleton b.round (empty_state p) z s) pieces (subst (StandsAt b.skeleton b.round (empty_state p) h.1.0) states h.1.3);
    }

pub nothing_left : (p : Problem) (depth budget : ℕ) (b : Content) (from : ℕ) (answer : Reply) → answer ≡ NothingLeft → IsReply p depth budget b (hand from) answer → ¬ Contains (waiting b.skeleton) from
nothing_left p depth budget b from answer e (inl m) has = let clash : NothingLeft ≡ Memory = sym e ∙ m in absurd (cc)
nothing_left p depth budget b from answer e (inr (inl h)) has = subst (λ z. Has z from) h.0 (has_from_contains (waiting b.skeleton) from has)
nothing_left p depth budget b from answer e (inr (inr h)) has = let clash : NothingLeft ≡ Piece b.number h.1.0 h.1.1 = sym e ∙ h.1.4 in absurd (cc)

-- where another one is handed out, that of the number doesn't wait
pub another : (waits : List ℕ) (from n : ℕ) → n ≢ from → IsHanded waits from n → ¬ Contains waits from
another waits from n other (there, inl h) has = other (omega (arith, h.0, h.1 from has (omega arith)))
another waits from n other (there, inr h) has = omega (arith, h.0 from has)
