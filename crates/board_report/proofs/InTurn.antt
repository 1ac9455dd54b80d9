-- One event more.
use Rattle.std.proofs.Common.{◌≡◌, ◌≢◌, ℕ, Bool, List, [], ◌∷◌, ◌++◌, refl, ap, ◌∙◌, subst, Result, Ok, Err, OnOk}
use Rattle.std.proofs.lemmas.List.{flat_map_more}
use Rattle.grouping_laws.specs.Problem.{Problem}
use Rattle.county_problem.specs.ProblemValue.{problem_of}
use Rattle.board_laws.specs.Content.{Content, Event, Reply, Leads}
use Rattle.board_laws.specs.Content as reply
use Rattle.board_laws.proofs.Boards.{boards_keep}
use Rattle.share_board.specs.declared.board.Board.{Board}
use Rattle.share_board.specs.declared.reply.Reply.{Reply as ReplyHeld}
use Rattle.share_board.specs.declared.reply.Reply.TheVariants as held
use Rattle.share_board.specs.BoardValue.{IsOf, Follows, Keeps, reply_of}
use Rattle.share_board.specs.Replies.{IsReply}
use Rattle.board_report.specs.ReplyLines.{reply_line}
use Rattle.board_report.specs.Taking.{TakesEvents, NoneRefused, HasTaken, HasTold, HasHeard}

takes_more : (p : Problem) (depth budget : ℕ) (b c d : Content) (events : List Event) (replies : List Reply) (event : Event) (answer : Reply) → TakesEvents p depth budget b events replies c → IsReply p depth budget c event answer → Leads p depth c event answer d
    → TakesEvents p depth budget b (events ++ event ∷ []) (replies ++ answer ∷ []) d
takes_more p depth budget b c d [] [] event answer t says l = (subst (λ z. IsReply p depth budget z event answer) t says, (d, subst (λ z. Leads p depth z event answer d) t l, refl))
takes_more p depth budget b c d [] (r ∷ replies) event answer t says l = absurd t
takes_more p depth budget b c d (e ∷ events) [] event answer t says l = absurd t
takes_more p depth budget b c d (e ∷ events) (r ∷ replies) event answer t says l = (t.0, (t.1.0, t.1.1, takes_more p depth budget t.1.0 c d events replies event answer t.1.2 says l))

-- events leave the format
pub same_format : (p : Problem) (depth budget : ℕ) (b c : Content) (events : List Event) (replies : List Reply) → TakesEvents p depth budget b events replies c → c.round.format ≡ b.round.format
same_format p depth budget b c [] [] t = ap (λ (z : Content). z.round.format) t
same_format p depth budget b c [] (r ∷ replies) t = absurd t
same_format p depth budget b c (e ∷ events) [] t = absurd t
same_format p depth budget b c (e ∷ events) (r ∷ replies) t =
    same_format p depth budget t.1.0 c events replies t.1.2 ∙ ((boards_keep).order p depth b t.1.0 (record { event = e; reply = r } ∷ []) (t.1.0, t.1.1, refl)).1

-- only where memory was refused it is said so
pub not_memory : {C : Type 0} (order : List ℕ) (test : C → ℕ → Bool) (r : ReplyHeld C) → r ≢ held.Memory → reply_of order test r ≢ reply.Memory
not_memory order test held.Memory other e = other refl
not_memory order test (held.Piece number piece state) other e = absurd (cc)
not_memory order test held.NothingLeft other e = absurd (cc)
not_memory order test held.Accepted other e = absurd (cc)
not_memory order test (held.Split first many) other e = absurd (cc)
not_memory order test (held.NewRound number) other e = absurd (cc)
not_memory order test held.OldRound other e = absurd (cc)
not_memory order test held.NoSuchPiece other e = absurd (cc)
not_memory order test held.AlreadyDone other e = absurd (cc)
not_memory order test held.AlreadySplit other e = absurd (cc)
not_memory order test held.CantSplit other e = absurd (cc)
not_memory order test held.NotAPart other e = absurd (cc)
not_memory order test held.NotAProof other e = absurd (cc)
not_memory order test held.NotBetter other e = absurd (cc)
not_memory order test held.CantWiden other e = absurd (cc)
not_memory order test held.TooManyPieces other e = absurd (cc)
not_memory order test held.Budget other e = absurd (cc)

none_more : (replies : List Reply) (answer : Reply) → NoneRefused replies → answer ≢ reply.Memory → NoneRefused (replies ++ answer ∷ [])
none_more [] answer h other = (other, tt)
none_more (r ∷ replies) answer h other = (h.0, none_more replies answer h.1 other)

-- what follows where a call ends well
pub on_ok : {X E A B : Type 0} (r : Result X E) → OnOk r A → (A → B) → OnOk r B
on_ok (Ok x) a f = f a
on_ok (Err e) a f = tt

module _ {C : Type 0} (test : C → ℕ → Bool) (before old new : Board C) (b : Content) (events : List Event) (event : Event) where
  taken_more : Keeps before old → (taken : HasTaken test before b events old) (answer : Reply) → IsReply (problem_of old.problem) old.depth old.budget taken.last event answer → Follows test old.depth old.problem taken.last event answer new
      → HasTaken test before b (events ++ event ∷ []) new
  taken_more keeps taken answer says next = record {
    replies = taken.replies ++ answer ∷ [];
    last = next.0;
    takes = takes_more (problem_of before.problem) before.depth before.budget b taken.last next.0 events taken.replies event answer taken.takes
        (subst (λ z. IsReply (problem_of z) before.depth before.budget taken.last event answer) keeps.problem
        (subst (λ z. IsReply (problem_of old.problem) z before.budget taken.last event answer) keeps.depth
        (subst (λ z. IsReply (problem_of old.problem) old.depth z taken.last event answer) keeps.budget says)))
        (subst (λ z. Leads (problem_of z) before.depth taken.last event answer next.0) keeps.problem (subst (λ z. Leads (problem_of old.problem) z taken.last event answer next.0) keeps.depth next.1));
    is = next.2;
  }

  -- with its line
  pub told_more : (start text more : List ℕ) → Keeps before old
      → ((c : Content) → IsOf test old c → (answer : Reply) × IsReply (problem_of old.problem) old.depth old.budget c event answer × Follows test old.depth old.problem c event answer new × (more ≡ text ++ reply_line answer))
      → HasTold test before b events old start text → HasTold test before b (events ++ event ∷ []) new start more
  unfolding taken_more
  told_more start text more keeps step told =
      let one = step (told.0).last (told.0).is in
      (taken_more keeps told.0 one.0 one.1 one.2, one.3 ∙ ap (λ z. z ++ reply_line one.0) told.1 ∙ flat_map_more reply_line start (told.0).replies one.0)

  -- or where memory wasn't refused
  pub heard_more : Keeps before old
      → ((c : Content) → IsOf test old c → (answer : Reply) × (answer ≢ reply.Memory) × IsReply (problem_of old.problem) old.depth old.budget c event answer × Follows test old.depth old.problem c event answer new)
      → HasHeard test before b events old → HasHeard test before b (events ++ event ∷ []) new
  unfolding taken_more
  heard_more keeps step heard = let one = step (heard.0).last (heard.0).is in (taken_more keeps heard.0 one.0 one.2 one.3, none_more (heard.0).replies one.0 heard.1 one.1)
