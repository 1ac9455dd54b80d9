-- What a board holds after any events.
use Rattle.std.proofs.Common.{◌≡◌, ℕ, suc, ◌+◌, ◌≤◌, List, [], ◌∷◌, length, ◌==◌, refl, sym, ap, ◌∙◌, subst, arith, ◌⊎◌, inl, inr, Contains, Option, Some, None}
use Rattle.county_codes.specs.declared.group.Group.{Group}
use Rattle.std.proofs.lemmas.Bool.Decides.{nat_tests}
use Rattle.grouping_laws.specs.Sets.{indicator, count}
use Rattle.grouping_laws.specs.Problem.{Problem}
use Rattle.grouping_laws.specs.Grouping.{Grouping, counts, sets_of, IsGreater, IsBest}
use Rattle.grouping_laws.specs.Tolerance.{HasTolerance, named_tolerance}
use Rattle.grouping_laws.specs.GroupsFrom.{IsOrder}
use Rattle.grouping_laws.proofs.ToleranceLaws.{names_its_own}
use Rattle.grouping_laws.proofs.Order.{greater_transitive}
use Rattle.grouping_laws.proofs.Elements.{has_all, all_from_has}
use Rattle.certificate_data.specs.Round.{Round}
use Rattle.certificate_laws.specs.State.{State, empty_state}
use Rattle.certificate_laws.specs.Groups.{AreGroupsAt}
use Rattle.certificate_data.specs.Tree.{Tree}
use Rattle.certificate_laws.specs.Proving.{Proves, NamesLimit}
use Rattle.certificate_laws.specs.Certificate.{TargetFits, IsCertificate, Conclusion}
use Rattle.certificate_laws.proofs.Agreement.{certificate_shows}
use Rattle.board_laws.specs.Skeleton.{Skeleton, proved, groups_in, pieces, pieces_in, waiting, HasTree, WasSplit, joined, IsSkeleton, EachIsSkeleton, put, parts_from, split_from}
use Rattle.board_laws.specs.Standing.{StandsAt, AreNumbered, is_numbered}
use Rattle.board_laws.specs.PartialTrees.{PartialTree, open_leaf, whole, begun, IsPart, ProvesPart, skeleton_from, as_piece, open_branch}
use Rattle.board_laws.specs.Content.{Content, Event, hand, result, split_piece, part_piece, better, wider, Reply, Piece, NothingLeft, Accepted, Split, NewRound, OldRound, NoSuchPiece, AlreadyDone, AlreadySplit, CantSplit, NotAPart, NotAProof, NotBetter, CantWiden, TooManyPieces, Budget, Memory, Waits, Begins, Fills, Splits, Parted, Renews, Improves, Leads, EventAndReply, LeadsOver, IsContent}
use Rattle.board_laws.specs.Laws.{TargetGrew, BoardsKeep}
use Rattle.board_laws.proofs.Joining.{joined_proves}
use Rattle.board_laws.proofs.Numbers.{often_append, often_contains, few_wait, put_count}
use Rattle.board_laws.proofs.Putting.{put_is, put_trees, put_splits, put_stands}
use Rattle.board_laws.proofs.Standing.{stands_once}
use Rattle.board_laws.proofs.Pieces.{numbered_once}
use Rattle.board_laws.proofs.Opening.{opens_is, begins_numbered}
use Rattle.board_laws.proofs.PartialTrees.{part_is, piece_is, part_count, piece_count, open_groups, open_proves, open_number, open_skeleton}

pub begins_content : (p : Problem) (depth : ℕ) (b : Content) (target : Grouping) → b.round.tolerance ≡ named_tolerance p → IsOrder p b.round.order → b.round.target ≡ Some target → TargetFits p b.round.limit b.round.target → Begins p depth b → IsContent p b
begins_content p depth b target tolerance order is fits begins = record {
  tolerance = tolerance;
  order = order;
  target = target;
  target_is = is;
  fits = fits;
  skeleton = opens_is depth b.skeleton p b.round (empty_state p) 1 (b.last + 1) begins.skeleton;
  numbered = begins_numbered p depth b begins;
}

-- the state of a piece that waits is the one at which it waits
waits_there : (p : Problem) (b : Content) (n : ℕ) (s t : State) → AreNumbered b.skeleton b.last → Waits p b n s → StandsAt b.skeleton b.round (empty_state p) n t → s ≡ t
waits_there p b n s t are w h = stands_once b.skeleton b.round (empty_state p) n s t (numbered_once b.skeleton b.last are n) w.1 h

waits_once : (p : Problem) (b : Content) (n : ℕ) (s : State) → AreNumbered b.skeleton b.last → Waits p b n s → count n (waiting b.skeleton) ≡ 1
waits_once p b n s are w = omega (arith, often_contains n (waiting b.skeleton) w.0, few_wait n b.skeleton, numbered_once b.skeleton b.last are n)

-- the new content after one piece was given a skeleton that is one at its state
put_content : (p : Problem) (b : Content) (n : ℕ) (new : Skeleton) (last : ℕ) (s : State) → IsContent p b → Waits p b n s → IsSkeleton new p b.round s
    → ((x : ℕ) → count x (pieces new) + indicator (is_numbered b.last x) ≡ indicator (n == x) + indicator (is_numbered last x))
    → IsContent p (record b { skeleton = put n new b.skeleton; last = last })
put_content p b n new last s is w sound counted = record {
  tolerance = is.tolerance;
  order = is.order;
  target = is.target;
  target_is = is.target_is;
  fits = is.fits;
  skeleton = put_is n new b.skeleton p b.round (empty_state p) is.skeleton (λ t h. subst (IsSkeleton new p b.round) (waits_there p b n s t is.numbered w h) sound);
  numbered = λ x. omega (arith, put_count x n new b.skeleton (waits_once p b n s is.numbered w), is.numbered x, counted x);
}

pub fills_content : (p : Problem) (b : Content) (n : ℕ) (tree : Tree) (c : Content) → IsContent p b → Fills p b n tree c → IsContent p c
fills_content p b n tree c is f = subst (IsContent p) (sym f.is) (put_content p b n (proved (Some n) tree) b.last f.state is f.waits f.proves (λ x. omega arith))

-- the pieces of a split are skeletons that wait
parts_wait : (first : ℕ) (groups : List (List ℕ)) (p : Problem) (round : Round) (s : State) → EachIsSkeleton (parts_from first groups) p round s
parts_wait first [] p round s = tt
parts_wait first (g ∷ groups) p round s = (tt, parts_wait (first + 1) groups p round s)

parts_groups : (first : ℕ) (groups : List (List ℕ)) → groups_in (parts_from first groups) ≡ groups
parts_groups first [] = refl
parts_groups first (g ∷ groups) = ap (λ z. g ∷ z) (parts_groups (first + 1) groups)

-- and have the next numbers
next_number : (x last : ℕ) → indicator (is_numbered last x) + indicator ((last + 1) == x) ≡ indicator (is_numbered (last + 1) x)
next_number x last = grind (arith, nat_tests)

parts_count : (x last : ℕ) (groups : List (List ℕ)) → indicator (is_numbered last x) + count x (pieces_in (parts_from (last + 1) groups)) ≡ indicator (is_numbered (last + length groups) x)
parts_count x last [] = omega (arith, ap (λ z. indicator (is_numbered z x)) (plus_none last))
  where
    plus_none : (k : ℕ) → k + 0 ≡ k
    plus_none k = omega arith
parts_count x last (g ∷ groups) = omega (arith, next_number x last, parts_count x (last + 1) groups, ap (λ z. indicator (is_numbered z x)) (moved last (length groups)))
  where
    moved : (k m : ℕ) → (k + 1) + m ≡ k + suc m
    moved k m = omega arith

pub splits_content : (p : Problem) (b : Content) (n county limit first many : ℕ) (c : Content) → IsContent p b → Splits p b n county limit first many c → IsContent p c
splits_content p b n county limit first many c is f =
    subst (IsContent p) (sym f.is) (put_content p b n (split_from n county limit first f.groups) (b.last + many) f.state is f.waits sound counted)
  where
    sound : IsSkeleton (split_from n county limit first f.groups) p b.round f.state
    sound = (
      subst (λ z. NamesLimit z (Some limit)) (sym f.wide) tt,
      f.can,
      subst (AreGroupsAt p b.round f.state county limit) (sym (parts_groups first f.groups)) f.are,
      parts_wait first f.groups p b.round f.state,
      tt,
    )

    last_piece : first + length f.groups ≡ (b.last + length f.groups) + 1
    last_piece = omega (arith, f.first_is)

    last_number : b.last + many ≡ (b.last + length f.groups) + 1
    last_number = omega (arith, f.many_is)

    counted : (x : ℕ) → count x (pieces (split_from n county limit first f.groups)) + indicator (is_numbered b.last x) ≡ indicator (n == x) + indicator (is_numbered (b.last + many) x)
    counted x =
        omega (
          arith,
          often_append x (pieces_in (parts_from first f.groups)) ((first + length f.groups) ∷ []),
          ap (λ z. count x (pieces_in (parts_from z f.groups))) f.first_is,
          parts_count x b.last f.groups,
          next_number x (b.last + length f.groups),
          ap (λ z. indicator (z == x)) last_piece,
          ap (λ z. indicator (is_numbered z x)) last_number,
        )

-- the content after a part
pub parts_content : (p : Problem) (b : Content) (n : ℕ) (tree : PartialTree) (first many : ℕ) (c : Content) → IsContent p b → Parted p b n tree first many c → IsContent p c
parts_content p b n tree first many c is f =
    subst (IsContent p) (sym f.is) (put_content p b n (as_piece n (skeleton_from first tree)) (b.last + many) f.state is f.waits (piece_is n (skeleton_from first tree) p b.round f.state (part_is first tree p b.round f.state f.proves)) counted)
  where
    counted : (x : ℕ) → count x (pieces (as_piece n (skeleton_from first tree))) + indicator (is_numbered b.last x) ≡ indicator (n == x) + indicator (is_numbered (b.last + many) x)
    counted x =
        omega (
          arith,
          piece_count x n first tree f.is_part,
          ap (λ z. count x (pieces (skeleton_from z tree))) f.next,
          part_count x b.last tree,
          ap (λ z. indicator (is_numbered (b.last + z) x)) f.many_is,
        )

-- what a split does, the part does that is one branch with open leaves alone
split_part : (p : Problem) (b c : Content) (n county limit first many : ℕ) → (f : Splits p b n county limit first many c) → Parted p b n (open_branch county limit f.groups) first many c
split_part p b c n county limit first many f = record {
  state = f.state;
  waits = f.waits;
  is_part = omega arith;
  proves = (
    subst (λ z. NamesLimit z (Some limit)) (sym f.wide) tt,
    f.can,
    subst (AreGroupsAt p b.round f.state county limit) (sym (open_groups f.groups)) f.are,
    open_proves f.groups p b.round f.state,
    tt,
  );
  next = f.first_is;
  many_is = omega (arith, f.many_is, open_number f.groups);
  is = f.is ∙ ap (λ (z : Skeleton). record b { skeleton = put n z b.skeleton; last = b.last + many }) (open_skeleton n county limit first f.groups);
}

-- the piece of a part stands where the part begins
part_stands : (n first : ℕ) (tree : PartialTree) (round : Round) (s : State) → IsPart tree → StandsAt (as_piece n (skeleton_from first tree)) round s n s
part_stands n first open_leaf round s h = absurd h
part_stands n first (whole tree) round s h = absurd h
part_stands n first (begun county limit takes raised) round s h = inl (refl, refl)

-- a target that fits a limit fits one more
pub wider_fits : (p : Problem) (limit : ℕ) (target : Option Grouping) → TargetFits p limit target → TargetFits p (limit + 1) target
wider_fits p limit None fits = tt
wider_fits p limit (Some t) fits = (fits.0, all_from_has (λ (m : Group). length m.codes ≤ limit + 1) t (λ m h. omega (arith, has_all (λ (m : Group). length m.codes ≤ limit) t fits.1 m h)))

-- what an event may do
pub data Change (p : Problem) (depth : ℕ) (b c : Content) : Type 0 where
  nothing : c ≡ b → Change p depth b c
  filled : (n : ℕ) (tree : Tree) → Fills p b n tree c → Change p depth b c
  divided : (n county limit first many : ℕ) → Splits p b n county limit first many c → Change p depth b c
  parted : (n : ℕ) (tree : PartialTree) (first many : ℕ) → Parted p b n tree first many c → Change p depth b c
  improved : (g : Grouping) (next : ℕ) → Improves p b.round g → Renews p depth b (record (b.round) { target = Some g }) next c → Change p depth b c
  widened : (next : ℕ) → Renews p depth b (record (b.round) { limit = b.round.limit + 1 }) next c → Change p depth b c

pub change : (p : Problem) (depth : ℕ) (b c : Content) (event : Event) (reply : Reply) → Leads p depth b event reply c → Change p depth b c
change p depth b c (result number n tree) Accepted l = filled n tree l.1
change p depth b c (hand from) Accepted l = absurd l
change p depth b c (split_piece number n county limit) Accepted l = absurd l
change p depth b c (part_piece number n tree) Accepted l = absurd l
change p depth b c (better number g) Accepted l = absurd l
change p depth b c (wider number) Accepted l = absurd l
change p depth b c (split_piece number n county limit) (Split first many) l = divided n county limit first many l.1
change p depth b c (part_piece number n tree) (Split first many) l = parted n tree first many l.1
change p depth b c (hand from) (Split first many) l = absurd l
change p depth b c (result number n tree) (Split first many) l = absurd l
change p depth b c (better number g) (Split first many) l = absurd l
change p depth b c (wider number) (Split first many) l = absurd l
change p depth b c (better number g) (NewRound next) l = improved g next l.1 l.2
change p depth b c (wider number) (NewRound next) l = widened next l.2
change p depth b c (hand from) (NewRound next) l = absurd l
change p depth b c (result number n tree) (NewRound next) l = absurd l
change p depth b c (split_piece number n county limit) (NewRound next) l = absurd l
change p depth b c (part_piece number n tree) (NewRound next) l = absurd l
change p depth b c event (Piece number n state) l = nothing l
change p depth b c event NothingLeft l = nothing l
change p depth b c event OldRound l = nothing l
change p depth b c event NoSuchPiece l = nothing l
change p depth b c event AlreadyDone l = nothing l
change p depth b c event AlreadySplit l = nothing l
change p depth b c event CantSplit l = nothing l
change p depth b c event NotAPart l = nothing l
change p depth b c event NotAProof l = nothing l
change p depth b c event NotBetter l = nothing l
change p depth b c event CantWiden l = nothing l
change p depth b c event TooManyPieces l = nothing l
change p depth b c event Budget l = nothing l
change p depth b c event Memory l = nothing l

-- the content of a new round
renews_content : (p : Problem) (depth : ℕ) (b c : Content) (round : Round) (next : ℕ) (target : Grouping) → round.tolerance ≡ named_tolerance p → IsOrder p round.order → round.target ≡ Some target → TargetFits p round.limit round.target → Renews p depth b round next c → IsContent p c
renews_content p depth b c round next target tolerance order is fits r =
    begins_content p depth c target (ap (λ (z : Round). z.tolerance) r.round_is ∙ tolerance) (subst (λ (z : Round). IsOrder p z.order) (sym r.round_is) order) (ap (λ (z : Round). z.target) r.round_is ∙ is) (subst (λ (z : Round). TargetFits p z.limit z.target) (sym r.round_is) fits) r.begins

changed_content : (p : Problem) (depth : ℕ) (b c : Content) → IsContent p b → Change p depth b c → IsContent p c
changed_content p depth b c is (nothing e) = subst (IsContent p) (sym e) is
changed_content p depth b c is (filled n tree f) = fills_content p b n tree c is f
changed_content p depth b c is (divided n county limit first many f) = splits_content p b n county limit first many c is f
changed_content p depth b c is (parted n tree first many f) = parts_content p b n tree first many c is f
changed_content p depth b c is (improved g next gain r) = renews_content p depth b c (record (b.round) { target = Some g }) next g is.tolerance is.order refl (gain.lawful, gain.small) r
changed_content p depth b c is (widened next r) =
    renews_content p depth b c (record (b.round) { limit = b.round.limit + 1 }) next is.target is.tolerance is.order is.target_is (wider_fits p b.round.limit b.round.target is.fits) r

pub leads_content : (p : Problem) (depth : ℕ) (b c : Content) (event : Event) (reply : Reply) → IsContent p b → Leads p depth b event reply c → IsContent p c
leads_content p depth b c event reply is l = changed_content p depth b c is (change p depth b c event reply l)

over_content : (p : Problem) (depth : ℕ) (b c : Content) (log : List EventAndReply) → IsContent p b → LeadsOver p depth b log c → IsContent p c
over_content p depth b c [] is l = subst (IsContent p) (sym l) is
over_content p depth b c (first ∷ more) is l = over_content p depth l.0 c more (leads_content p depth b l.0 first.event first.reply is l.1) l.2

content_certifies : (p : Problem) (b : Content) (tree : Tree) → IsContent p b → joined b.skeleton ≡ Some tree → IsCertificate p b.round tree
content_certifies p b tree is e = record { tolerance = subst (HasTolerance p) (sym is.tolerance) (names_its_own p); order = is.order; target = is.fits; proof = joined_proves b.skeleton p b.round (empty_state p) tree is.skeleton e }

content_best : (p : Problem) (b : Content) (tree : Tree) (target : Grouping) → IsContent p b → joined b.skeleton ≡ Some tree → b.round.target ≡ Some target → IsBest p target
content_best p b tree target is e k = subst (Conclusion p) k (certificate_shows p b.round tree (content_certifies p b tree is e))

-- order and format
changed_order : (p : Problem) (depth : ℕ) (b c : Content) → Change p depth b c → (c.round.order ≡ b.round.order) × (c.round.format ≡ b.round.format)
changed_order p depth b c (nothing e) = (ap (λ (z : Content). z.round.order) e, ap (λ (z : Content). z.round.format) e)
changed_order p depth b c (filled n tree f) = (ap (λ (z : Content). z.round.order) f.is, ap (λ (z : Content). z.round.format) f.is)
changed_order p depth b c (divided n county limit first many f) = (ap (λ (z : Content). z.round.order) f.is, ap (λ (z : Content). z.round.format) f.is)
changed_order p depth b c (parted n tree first many f) = (ap (λ (z : Content). z.round.order) f.is, ap (λ (z : Content). z.round.format) f.is)
changed_order p depth b c (improved g next gain r) = (ap (λ (z : Round). z.order) r.round_is, ap (λ (z : Round). z.format) r.round_is)
changed_order p depth b c (widened next r) = (ap (λ (z : Round). z.order) r.round_is, ap (λ (z : Round). z.format) r.round_is)

over_order : (p : Problem) (depth : ℕ) (b c : Content) (log : List EventAndReply) → LeadsOver p depth b log c → (c.round.order ≡ b.round.order) × (c.round.format ≡ b.round.format)
over_order p depth b c [] l = (ap (λ (z : Content). z.round.order) l, ap (λ (z : Content). z.round.format) l)
over_order p depth b c (first ∷ more) l =
    let one = changed_order p depth b l.0 (change p depth b l.0 first.event first.reply l.1) in
    let all = over_order p depth l.0 c more l.2 in
    (all.0 ∙ one.0, all.1 ∙ one.1)

-- the target
abbrev Grows : Option Grouping → Option Grouping → Type 0
Grows before later = (later ≡ before) ⊎ TargetGrew before later

grew : (before later : Option Grouping) (g : Grouping) → later ≡ Some g → (t : Grouping) × (before ≡ Some t) × IsGreater (counts (sets_of g)) (counts (sets_of t)) → TargetGrew before later
grew before later g e r = subst (λ z. TargetGrew z later) (sym r.1) (subst (TargetGrew (Some r.0)) (sym e) r.2)

changed_target : (p : Problem) (depth : ℕ) (b c : Content) → Change p depth b c → Grows b.round.target c.round.target
changed_target p depth b c (nothing e) = inl (ap (λ (z : Content). z.round.target) e)
changed_target p depth b c (filled n tree f) = inl (ap (λ (z : Content). z.round.target) f.is)
changed_target p depth b c (divided n county limit first many f) = inl (ap (λ (z : Content). z.round.target) f.is)
changed_target p depth b c (parted n tree first many f) = inl (ap (λ (z : Content). z.round.target) f.is)
changed_target p depth b c (improved g next gain r) = inr (grew b.round.target c.round.target g (ap (λ (z : Round). z.target) r.round_is) gain.greater)
changed_target p depth b c (widened next r) = inl (ap (λ (z : Round). z.target) r.round_is)

grows_on : (x y z : Option Grouping) → Grows x y → Grows y z → Grows x z
grows_on x y z (inl e) (inl k) = inl (k ∙ e)
grows_on x y z (inl e) (inr g) = inr (subst (λ w. TargetGrew w z) e g)
grows_on x y z (inr g) (inl k) = inr (subst (TargetGrew x) (sym k) g)
grows_on None y z (inr g) (inr h) = absurd g
grows_on (Some x) None z (inr g) (inr h) = absurd g
grows_on (Some x) (Some y) None (inr g) (inr h) = absurd h
grows_on (Some x) (Some y) (Some z) (inr g) (inr h) = inr (greater_transitive (counts (sets_of z)) (counts (sets_of y)) (counts (sets_of x)) h g)

over_target : (p : Problem) (depth : ℕ) (b c : Content) (log : List EventAndReply) → LeadsOver p depth b log c → Grows b.round.target c.round.target
over_target p depth b c [] l = inl (ap (λ (z : Content). z.round.target) l)
over_target p depth b c (first ∷ more) l =
    grows_on b.round.target l.0.round.target c.round.target (changed_target p depth b l.0 (change p depth b l.0 first.event first.reply l.1)) (over_target p depth l.0 c more l.2)

-- within a round
one_more_not : (k : ℕ) → k + 1 ≡ k → ⊥
one_more_not k e = omega (arith, e)

renews_other : (p : Problem) (depth : ℕ) (b c : Content) (round : Round) (next : ℕ) → Renews p depth b round next c → c.number ≡ b.number → ⊥
renews_other p depth b c round next r same = omega (arith, r.number_is, r.counted, same)

changed_trees : (p : Problem) (depth : ℕ) (b c : Content) (n : ℕ) (tree : Tree) → Change p depth b c → c.number ≡ b.number → HasTree b.skeleton n tree → HasTree c.skeleton n tree
changed_trees p depth b c n tree (nothing e) same h = subst (λ (z : Content). HasTree z.skeleton n tree) (sym e) h
changed_trees p depth b c n tree (filled m new f) same h = subst (λ (z : Content). HasTree z.skeleton n tree) (sym f.is) (put_trees m (proved (Some m) new) b.skeleton n tree h)
changed_trees p depth b c n tree (divided m county limit first many f) same h = subst (λ (z : Content). HasTree z.skeleton n tree) (sym f.is) (put_trees m (split_from m county limit first f.groups) b.skeleton n tree h)
changed_trees p depth b c n tree (parted m part first many f) same h = subst (λ (z : Content). HasTree z.skeleton n tree) (sym f.is) (put_trees m (as_piece m (skeleton_from first part)) b.skeleton n tree h)
changed_trees p depth b c n tree (improved g next gain r) same h = absurd (renews_other p depth b c (record (b.round) { target = Some g }) next r same)
changed_trees p depth b c n tree (widened next r) same h = absurd (renews_other p depth b c (record (b.round) { limit = b.round.limit + 1 }) next r same)

changed_splits : (p : Problem) (depth : ℕ) (b c : Content) (n at : ℕ) (most : Option ℕ) → Change p depth b c → c.number ≡ b.number → WasSplit b.skeleton n at most → WasSplit c.skeleton n at most
changed_splits p depth b c n at most (nothing e) same h = subst (λ (z : Content). WasSplit z.skeleton n at most) (sym e) h
changed_splits p depth b c n at most (filled m new f) same h = subst (λ (z : Content). WasSplit z.skeleton n at most) (sym f.is) (put_splits m (proved (Some m) new) b.skeleton n at most h)
changed_splits p depth b c n at most (divided m county limit first many f) same h = subst (λ (z : Content). WasSplit z.skeleton n at most) (sym f.is) (put_splits m (split_from m county limit first f.groups) b.skeleton n at most h)
changed_splits p depth b c n at most (parted m part first many f) same h = subst (λ (z : Content). WasSplit z.skeleton n at most) (sym f.is) (put_splits m (as_piece m (skeleton_from first part)) b.skeleton n at most h)
changed_splits p depth b c n at most (improved g next gain r) same h = absurd (renews_other p depth b c (record (b.round) { target = Some g }) next r same)
changed_splits p depth b c n at most (widened next r) same h = absurd (renews_other p depth b c (record (b.round) { limit = b.round.limit + 1 }) next r same)

changed_stands : (p : Problem) (depth : ℕ) (b c : Content) (n : ℕ) (s : State) → Change p depth b c → c.number ≡ b.number → StandsAt b.skeleton b.round (empty_state p) n s → StandsAt c.skeleton c.round (empty_state p) n s
changed_stands p depth b c n s (nothing e) same h = subst (λ (z : Content). StandsAt z.skeleton z.round (empty_state p) n s) (sym e) h
changed_stands p depth b c n s (filled m new f) same h = subst (λ (z : Content). StandsAt z.skeleton z.round (empty_state p) n s) (sym f.is) (put_stands m (proved (Some m) new) b.skeleton b.round (empty_state p) n s (λ u. (refl, refl)) h)
changed_stands p depth b c n s (divided m county limit first many f) same h = subst (λ (z : Content). StandsAt z.skeleton z.round (empty_state p) n s) (sym f.is) (put_stands m (split_from m county limit first f.groups) b.skeleton b.round (empty_state p) n s (λ u. inl (refl, refl)) h)
changed_stands p depth b c n s (parted m part first many f) same h =
    subst (λ (z : Content). StandsAt z.skeleton z.round (empty_state p) n s) (sym f.is) (put_stands m (as_piece m (skeleton_from first part)) b.skeleton b.round (empty_state p) n s (λ u. part_stands m first part b.round u f.is_part) h)
changed_stands p depth b c n s (improved g next gain r) same h = absurd (renews_other p depth b c (record (b.round) { target = Some g }) next r same)
changed_stands p depth b c n s (widened next r) same h = absurd (renews_other p depth b c (record (b.round) { limit = b.round.limit + 1 }) next r same)

changed_number : (p : Problem) (depth : ℕ) (b c : Content) → Change p depth b c → (c.number ≡ b.number) ⊎ (c.number ≡ b.number + 1)
changed_number p depth b c (nothing e) = inl (ap (λ (z : Content). z.number) e)
changed_number p depth b c (filled n tree f) = inl (ap (λ (z : Content). z.number) f.is)
changed_number p depth b c (divided n county limit first many f) = inl (ap (λ (z : Content). z.number) f.is)
changed_number p depth b c (parted n tree first many f) = inl (ap (λ (z : Content). z.number) f.is)
changed_number p depth b c (improved g next gain r) = inr (r.counted ∙ r.number_is)
changed_number p depth b c (widened next r) = inr (r.counted ∙ r.number_is)

-- a result that isn't one of a piece that waits in this round with a tree that proves it, and a split that isn't of
-- such a piece, change nothing
same_result : (p : Problem) (depth : ℕ) (b c : Content) (number n : ℕ) (tree : Tree) (reply : Reply) → (number ≡ b.number → Fills p b n tree c → ⊥) → Leads p depth b (result number n tree) reply c → c ≡ b
same_result p depth b c number n tree Accepted f l = absurd (f l.0 l.1)
same_result p depth b c number n tree (Split first many) f l = absurd l
same_result p depth b c number n tree (NewRound next) f l = absurd l
same_result p depth b c number n tree (Piece k m state) f l = l
same_result p depth b c number n tree NothingLeft f l = l
same_result p depth b c number n tree OldRound f l = l
same_result p depth b c number n tree NoSuchPiece f l = l
same_result p depth b c number n tree AlreadyDone f l = l
same_result p depth b c number n tree AlreadySplit f l = l
same_result p depth b c number n tree CantSplit f l = l
same_result p depth b c number n tree NotAPart f l = l
same_result p depth b c number n tree NotAProof f l = l
same_result p depth b c number n tree NotBetter f l = l
same_result p depth b c number n tree CantWiden f l = l
same_result p depth b c number n tree TooManyPieces f l = l
same_result p depth b c number n tree Budget f l = l
same_result p depth b c number n tree Memory f l = l

same_split : (p : Problem) (depth : ℕ) (b c : Content) (number n county limit : ℕ) (reply : Reply) → (number ≡ b.number → Contains (waiting b.skeleton) n → ⊥) → Leads p depth b (split_piece number n county limit) reply c → c ≡ b
same_split p depth b c number n county limit Accepted f l = absurd l
same_split p depth b c number n county limit (Split first many) f l = absurd (f l.0 l.1.waits.0)
same_split p depth b c number n county limit (NewRound next) f l = absurd l
same_split p depth b c number n county limit (Piece k m state) f l = l
same_split p depth b c number n county limit NothingLeft f l = l
same_split p depth b c number n county limit OldRound f l = l
same_split p depth b c number n county limit NoSuchPiece f l = l
same_split p depth b c number n county limit AlreadyDone f l = l
same_split p depth b c number n county limit AlreadySplit f l = l
same_split p depth b c number n county limit CantSplit f l = l
same_split p depth b c number n county limit NotAPart f l = l
same_split p depth b c number n county limit NotAProof f l = l
same_split p depth b c number n county limit NotBetter f l = l
same_split p depth b c number n county limit CantWiden f l = l
same_split p depth b c number n county limit TooManyPieces f l = l
same_split p depth b c number n county limit Budget f l = l
same_split p depth b c number n county limit Memory f l = l

same_part : (p : Problem) (depth : ℕ) (b c : Content) (number n : ℕ) (tree : PartialTree) (reply : Reply) → (number ≡ b.number → (first many : ℕ) → Parted p b n tree first many c → ⊥) → Leads p depth b (part_piece number n tree) reply c → c ≡ b
same_part p depth b c number n tree Accepted f l = absurd l
same_part p depth b c number n tree (Split first many) f l = absurd (f l.0 first many l.1)
same_part p depth b c number n tree (NewRound next) f l = absurd l
same_part p depth b c number n tree (Piece k m state) f l = l
same_part p depth b c number n tree NothingLeft f l = l
same_part p depth b c number n tree OldRound f l = l
same_part p depth b c number n tree NoSuchPiece f l = l
same_part p depth b c number n tree AlreadyDone f l = l
same_part p depth b c number n tree AlreadySplit f l = l
same_part p depth b c number n tree CantSplit f l = l
same_part p depth b c number n tree NotAPart f l = l
same_part p depth b c number n tree NotAProof f l = l
same_part p depth b c number n tree NotBetter f l = l
same_part p depth b c number n tree CantWiden f l = l
same_part p depth b c number n tree TooManyPieces f l = l
same_part p depth b c number n tree Budget f l = l
same_part p depth b c number n tree Memory f l = l

pub boards_keep : BoardsKeep
boards_keep = record {
  begins = begins_content;
  leads = leads_content;
  over = over_content;
  certifies = content_certifies;
  best = content_best;
  order = over_order;
  target = over_target;
  trees = λ p depth b c event reply n tree l same h. changed_trees p depth b c n tree (change p depth b c event reply l) same h;
  splits = λ p depth b c event reply n at most l same h. changed_splits p depth b c n at most (change p depth b c event reply l) same h;
  stands = λ p depth b c event reply n s l same h. changed_stands p depth b c n s (change p depth b c event reply l) same h;
  number = λ p depth b c event reply l. changed_number p depth b c (change p depth b c event reply l);
  parted = λ p b c n tree first many is f. parts_content p b n tree first many c is f;
  split_is_part = λ p b c n county limit first many f. (f.groups, split_part p b c n county limit first many f);
  old_result = λ p depth b c number n tree reply other l. same_result p depth b c number n tree reply (λ e f. other e) l;
  old_split = λ p depth b c number n county limit reply other l. same_split p depth b c number n county limit reply (λ e f. other e) l;
  late_result = λ p depth b c number n tree reply gone l. same_result p depth b c number n tree reply (λ e f. gone f.waits.0) l;
  late_split = λ p depth b c number n county limit reply gone l. same_split p depth b c number n county limit reply (λ e f. gone f) l;
  old_part = λ p depth b c number n tree reply other l. same_part p depth b c number n tree reply (λ e first many f. other e) l;
  late_part = λ p depth b c number n tree reply gone l. same_part p depth b c number n tree reply (λ e first many f. gone f.waits.0) l;
  false_part = λ p depth b c number n tree reply s is h none l.
      same_part p depth b c number n tree reply (λ e first many f. none (subst (ProvesPart tree p b.round) (waits_there p b n f.state s is.numbered f.waits h) f.proves)) l;
  false_result = λ p depth b c number n tree reply s is h none l. same_result p depth b c number n tree reply (λ e f. none (subst (Proves tree p b.round) (waits_there p b n f.state s is.numbered f.waits h) f.proves)) l;
}
