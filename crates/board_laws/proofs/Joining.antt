-- What is joined: the trees of the pieces, put where they stand.
use Rattle.std.proofs.Common.{◌≡◌, ℕ, List, [], ◌∷◌, ◌++◌, refl, sym, ap, ◌∙◌, subst, ⊎_elim, Option, Some, None}
use Rattle.grouping_laws.specs.Problem.{Problem}
use Rattle.grouping_laws.proofs.Elements.{Has, has_append, has_from_contains}
use Rattle.certificate_data.specs.Round.{Round}
use Rattle.certificate_laws.specs.State.{State, close, raise}
use Rattle.certificate_laws.specs.Groups.{AreGroupsAt}
use Rattle.certificate_data.specs.Tree.{Tree, branch, Takes, no_take, take, groups_of}
use Rattle.certificate_laws.specs.Proving.{Proves, EachProves, limit_of}
use Rattle.board_laws.specs.Skeleton.{Skeleton, waits, proved, split, Parts, no_part, part, groups_in, waiting, waiting_in, both, joined, joined_parts, IsSkeleton, EachIsSkeleton}
use Rattle.board_laws.specs.Laws.{SkeletonsJoin}

-- what is put together has both
pub both_some : {A B C : Type 0} (f : A → B → C) (a : Option A) (b : Option B) (c : C) → both f a b ≡ Some c → (x : A) × (y : B) × (a ≡ Some x) × (b ≡ Some y) × (f x y ≡ c)
both_some f None b c e = absurd (cc)
both_some f (Some x) None c e = absurd (cc)
both_some f (Some x) (Some y) c e = (x, y, refl, refl, cc)

pub both_left : {A B C : Type 0} (f : A → B → C) (a : Option A) (b : Option B) → a ≡ None → both f a b ≡ None
both_left f None b e = refl
both_left f (Some x) None e = refl
both_left f (Some x) (Some y) e = absurd (cc)

pub both_right : {A B C : Type 0} (f : A → B → C) (a : Option A) (b : Option B) → b ≡ None → both f a b ≡ None
both_right f None b e = refl
both_right f (Some x) None e = refl
both_right f (Some x) (Some y) e = absurd (cc)

-- the takes that are joined have the groups of the parts
groups_same : (parts : Parts) (takes : Takes) → joined_parts parts ≡ Some takes → groups_of takes ≡ groups_in parts
groups_same no_part takes e = let k : no_take ≡ takes = cc in ap groups_of (sym k)
groups_same (part codes skeleton others) takes e =
    let r = both_some (take codes) (joined skeleton) (joined_parts others) takes e in
    ap groups_of (sym r.4) ∙ ap (λ z. codes ∷ z) (groups_same others r.1 r.3)

mutual
  pub joined_proves : (skeleton : Skeleton) (p : Problem) (round : Round) (s : State) (tree : Tree) → IsSkeleton skeleton p round s → joined skeleton ≡ Some tree → Proves tree p round s
  joined_proves (waits piece) p round s tree is e = absurd (cc)
  joined_proves (proved piece held) p round s tree is e = let k : held ≡ tree = cc in subst (λ z. Proves z p round s) k is
  joined_proves (split piece county limit parts raised) p round s tree is e =
      let r = both_some (branch county limit) (joined_parts parts) (joined raised) tree e in
      subst
      (λ z. Proves z p round s)
      r.4
      (is.0, is.1, subst (AreGroupsAt p round s county (limit_of round limit)) (sym (groups_same parts r.0 r.2)) is.2, each_proves parts p round s r.0 is.3 r.2, joined_proves raised p round (raise county (limit_of round limit) s) r.1 is.4 r.3)

  each_proves : (parts : Parts) (p : Problem) (round : Round) (s : State) (takes : Takes) → EachIsSkeleton parts p round s → joined_parts parts ≡ Some takes → EachProves takes p round s
  each_proves no_part p round s takes is e = let k : no_take ≡ takes = cc in subst (λ z. EachProves z p round s) k tt
  each_proves (part codes skeleton others) p round s takes is e =
      let r = both_some (take codes) (joined skeleton) (joined_parts others) takes e in
      subst (λ z. EachProves z p round s) r.4 (joined_proves skeleton p round (close codes s) r.0 is.0 r.2, each_proves others p round s r.1 is.1 r.3)

-- where two lists together have nothing, each has nothing
none_left : (xs ys : List ℕ) → xs ++ ys ≡ [] → xs ≡ []
none_left [] ys e = refl
none_left (x ∷ xs) ys e = absurd (cc)

none_right : (xs ys : List ℕ) → xs ++ ys ≡ [] → ys ≡ []
none_right [] ys e = e
none_right (x ∷ xs) ys e = absurd (cc)

both_there : {A B C : Type 0} (f : A → B → C) (a : Option A) (b : Option B) (x : A) (y : B) → a ≡ Some x → b ≡ Some y → both f a b ≡ Some (f x y)
both_there f a b x y d e = ap (λ z. both f z b) d ∙ ap (both f (Some x)) e

mutual
  whole_joins : (skeleton : Skeleton) → waiting skeleton ≡ [] → (tree : Tree) × (joined skeleton ≡ Some tree)
  whole_joins (waits piece) e = absurd (cc)
  whole_joins (proved piece tree) e = (tree, refl)
  whole_joins (split piece county limit parts raised) e =
      let ts = whole_parts parts (none_left (waiting_in parts) (waiting raised) e) in
      let t = whole_joins raised (none_right (waiting_in parts) (waiting raised) e) in
      (branch county limit ts.0 t.0, both_there (branch county limit) (joined_parts parts) (joined raised) ts.0 t.0 ts.1 t.1)

  whole_parts : (parts : Parts) → waiting_in parts ≡ [] → (takes : Takes) × (joined_parts parts ≡ Some takes)
  whole_parts no_part e = (no_take, refl)
  whole_parts (part codes skeleton others) e =
      let t = whole_joins skeleton (none_left (waiting skeleton) (waiting_in others) e) in
      let ts = whole_parts others (none_right (waiting skeleton) (waiting_in others) e) in
      (take codes t.0 ts.0, both_there (take codes) (joined skeleton) (joined_parts others) t.0 ts.0 t.1 ts.1)

mutual
  waiting_joins_not : (skeleton : Skeleton) (n : ℕ) → Has (waiting skeleton) n → joined skeleton ≡ None
  waiting_joins_not (waits piece) n h = refl
  waiting_joins_not (proved piece tree) n h = absurd h
  waiting_joins_not (split piece county limit parts raised) n h =
      ⊎_elim
      (λ k. both_left (branch county limit) (joined_parts parts) (joined raised) (waiting_parts_not parts n k))
      (λ k. both_right (branch county limit) (joined_parts parts) (joined raised) (waiting_joins_not raised n k))
      (has_append (waiting_in parts) (waiting raised) n h)

  waiting_parts_not : (parts : Parts) (n : ℕ) → Has (waiting_in parts) n → joined_parts parts ≡ None
  waiting_parts_not no_part n h = absurd h
  waiting_parts_not (part codes skeleton others) n h =
      ⊎_elim
      (λ k. both_left (take codes) (joined skeleton) (joined_parts others) (waiting_joins_not skeleton n k))
      (λ k. both_right (take codes) (joined skeleton) (joined_parts others) (waiting_parts_not others n k))
      (has_append (waiting skeleton) (waiting_in others) n h)

pub skeletons_join : SkeletonsJoin
skeletons_join = record { proves = joined_proves; whole = whole_joins; waits = λ skeleton n h. waiting_joins_not skeleton n (has_from_contains (waiting skeleton) n h) }
