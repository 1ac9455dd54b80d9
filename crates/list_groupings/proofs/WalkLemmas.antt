-- What goes through a part of a tree, and through the parts behind it.
use Rattle.std.proofs.Common.{◌≡◌, ℕ, ◌+◌, ◌≤◌, Bool, true, false, not, cond, List, [], ◌∷◌, ◌++◌, append-nil, append_assoc, map, filter, length, refl, sym, ap, ◌∙◌, subst, arith, inl, ⊎_elim, Some, None, Option, MatchOption, Result, Ok, Err}
use Rattle.std.proofs.Math.Path.{fun_ext}
use Rattle.std.proofs.lemmas.Bool.{false≢true}
use Rattle.std.proofs.lemmas.List.{length-map, map-append}
use Rattle.std.proofs.lemmas.List.Filters.{length-filter_both}
use Rattle.std.proofs.lemmas.List.Elements.{All-append}
use Rattle.county_codes.specs.declared.group.Grouping.{Grouping as GroupingHeld}
use Rattle.grouping_laws.specs.Sets.{indicator, count, count_in, contains}
use Rattle.grouping_laws.specs.Problem.{Problem}
use Rattle.grouping_laws.specs.Grouping.{Grouping, Lawful, sets_of}
use Rattle.grouping_laws.proofs.Digits.{false_digit}
use Rattle.grouping_laws.proofs.Elements.{Has, all_from_has}
use Rattle.grouping_laws.proofs.Parts.{has-filter}
use Rattle.grouping_laws.proofs.Seated.{AllZip-append}
use Rattle.place_sets.proofs.Sums.{often_some}
use Rattle.place_sets.proofs.PlaceSets.{often_tested}
use Rattle.certificate_data.specs.Round.{Round}
use Rattle.certificate_laws.specs.State.{State, IsState}
use Rattle.certificate_data.specs.Tree.{Allowance, leaf, bound}
use Rattle.certificate_laws.specs.BoundLines.{Bounds, IsBound}
use Rattle.list_laws.specs.AllBest.{SameSets}
use Rattle.list_laws.specs.Ends.{wanted, falls_short, ends}
use Rattle.list_laws.specs.Completeness.{IsFilled, IsComplete}
use Rattle.list_laws.specs.Listing.{HaveSets}
use Rattle.list_groupings.specs.declared.gap.Gap.{Gap}
use Rattle.list_groupings.specs.declared.position.Waiting.{Waiting}
use Rattle.list_groupings.specs.declared.position.Position.{Position}
use Rattle.list_groupings.specs.declared.walk.Found.{Found}
use Rattle.list_groupings.specs.declared.walk.WalkStop.{WalkStop}
use Rattle.list_groupings.specs.declared.walk.WalkStop.TheVariants as stop
use Rattle.list_groupings.specs.Positions.{waiting, IsPosition}
use Rattle.list_groupings.specs.ListOrder.{IsInOrder}
use Rattle.list_groupings.specs.Gaps.{IsFirstGap}
use Rattle.list_groupings.specs.Walking.{sets_held, HasAdded, HasWalked}

pub added_none : (p : Problem) (old : List GroupingHeld) → HasAdded p [] old old
added_none p old = record { more = []; behind = sym (append-nil old); sets = tt; in_order = all_from_has (λ g. IsInOrder (sets_held g)) [] (λ x h. absurd h) }

pub added_one : (p : Problem) (k : List (List ℕ)) (g : GroupingHeld) (old new : List GroupingHeld) → new ≡ old ++ g ∷ [] → Lawful p (sets_held g) → SameSets (sets_of (sets_held g)) k → IsInOrder (sets_held g) → HasAdded p (k ∷ []) old new
added_one p k g old new push lawful same in_order = record {
  more = g ∷ [];
  behind = push;
  sets = ((lawful, same), tt);
  in_order = all_from_has (λ g. IsInOrder (sets_held g)) (g ∷ []) (λ x h. ⊎_elim (λ e. subst (λ z. IsInOrder (sets_held z)) e in_order) (λ i. absurd i) h);
}

pub added_then : (p : Problem) (xs ys : List (List (List ℕ))) (a b c : List GroupingHeld) → HasAdded p xs a b → HasAdded p ys b c → HasAdded p (xs ++ ys) a c
added_then p xs ys a b c f g = record {
  more = f.more ++ g.more;
  behind = g.behind ∙ (ap (λ (z : List GroupingHeld). z ++ g.more) f.behind ∙ append_assoc a f.more g.more);
  sets = subst (λ z. HaveSets p z (xs ++ ys)) (sym (map-append sets_held f.more g.more))
      (AllZip-append (λ (g : Grouping) (k : List (List ℕ)). Lawful p g × SameSets (sets_of g) k) (map sets_held f.more) xs (map sets_held g.more) ys f.sets g.sets);
  in_order = All-append (λ (g : GroupingHeld). IsInOrder (sets_held g)) f.more g.more f.in_order g.in_order;
}

-- how far a walk has come: what is left of a part, against the whole part
pub record Going (p : Problem) (Whole Left : Type 0) (WholeGaps LeftGaps : Gap → ℕ → Type 0) (whole left : List (List (List ℕ))) (whole_lines left_lines : ℕ) (old now : Found) : Type 0 where
  pub complete : Left → Whole
  pub gaps : (gap : Gap) (at : ℕ) → LeftGaps gap at → WholeGaps gap at
  pub lines : now.line + left_lines ≡ old.line + whole_lines
  pub fewer : left_lines ≤ whole_lines
  pub lists : List (List (List ℕ))
  pub ends_are : whole ≡ lists ++ left
  pub added : HasAdded p lists old.list.items now.list.items

pub going_start : (p : Problem) (C : Type 0) (G : Gap → ℕ → Type 0) (lists : List (List (List ℕ))) (lines : ℕ) (old : Found) → Going p C C G G lists lists lines lines old old
going_start p C G lists lines old = record { complete = λ c. c; gaps = λ gap at g. g; lines = refl; fewer = omega arith; lists = []; ends_are = refl; added = added_none p old.list.items }

pub going_walked : (p : Problem) (W L : Type 0) (WG LG : Gap → ℕ → Type 0) (whole left : List (List (List ℕ))) (m n : ℕ) (old now new : Found) (result : Result (Unit {0}) WalkStop)
    → Going p W L WG LG whole left m n old now → HasWalked p L LG left n now result new → HasWalked p W WG whole m old result new
going_walked p W L WG LG whole left m n old now new (Ok done) g h =
    (g.complete h.0, omega (arith, g.lines, h.1), subst (λ z. HasAdded p z old.list.items new.list.items) (sym g.ends_are) (added_then p g.lists left old.list.items now.list.items new.list.items g.added h.2))
going_walked p W L WG LG whole left m n old now new (Err (stop.Open gap at)) g h = g.gaps gap at h
going_walked p W L WG LG whole left m n old now new (Err stop.Memory) g h = tt

-- A part of what is left was gone through, a line behind.
pub going_on : (p : Problem) (W L P R : Type 0) (WG LG RG : Gap → ℕ → Type 0) (whole left part rest : List (List (List ℕ))) (m n i j : ℕ) (old now new : Found)
    → Going p W L WG LG whole left m n old now → (P → R → L) → ((gap : Gap) (at : ℕ) → RG gap at → LG gap at) → left ≡ part ++ rest → n ≡ 1 + (i + j)
    → P → new.line ≡ now.line + 1 + i → HasAdded p part now.list.items new.list.items → Going p W R WG RG whole rest m j old new
going_on p W L P R WG LG RG whole left part rest m n i j old now new g both gaps parted lines done line added = record {
  complete = λ r. g.complete (both done r);
  gaps = λ gap at h. g.gaps gap at (gaps gap at h);
  lines = omega (arith, g.lines, lines, line);
  fewer = omega (arith, g.fewer, lines);
  lists = g.lists ++ part;
  ends_are = g.ends_are ∙ (ap (λ z. g.lists ++ z) parted ∙ sym (append_assoc g.lists part rest));
  added = added_then p g.lists part old.list.items now.list.items new.list.items g.added added;
}

-- positions and states
map_empty : {X Y : Type 0} (f : X → Y) (xs : List X) → length (map f xs) ≡ 0 → length xs ≡ 0
map_empty f xs e = omega (arith, e, length-map xs f)

pub few_waiting : (p : Problem) (s : State) (position : Position) → IsPosition p s position → length position.rest.items ≤ length p.counties
few_waiting p s position h =
    let e : length position.rest.items ≡ length (filter s.rest p.counties) = ap (λ (l : List Waiting). length l) h.rest ∙ length-map (filter s.rest p.counties) (waiting s.least) in
    omega (arith, e, length-filter_both s.rest (λ c. not (s.rest c)) (λ c. refl) p.counties)

pub none_left : (p : Problem) (round : Round) (s : State) (position : Position) → IsState p round s → IsPosition p s position → length position.rest.items ≡ 0 → (c : ℕ) → s.rest c ≡ false
none_left p round s position state h e c = go (s.rest c) refl
  where
    none : length (filter s.rest p.counties) ≡ 0
    none = map_empty (waiting s.least) (filter s.rest p.counties) (sym (ap (λ (l : List Waiting). length l) h.rest) ∙ e)

    nothing : (xs : List ℕ) → length xs ≡ 0 → count c xs ≡ 0
    nothing [] l = refl
    nothing (x ∷ xs) l = absurd (omega (arith, l))

    go : (b : Bool) → s.rest c ≡ b → s.rest c ≡ false
    go false f = f
    go true f = absurd (there (contains p.counties c) refl)
      where
        tested : count c (filter s.rest p.counties) ≡ count c p.counties
        tested = often_tested c s.rest p.counties ∙ ap (λ b. cond b (count c p.counties) 0) f

        there : (b : Bool) → contains p.counties c ≡ b → ⊥
        there true m = omega (arith, tested, nothing (filter s.rest p.counties) none, often_some c p.counties m)
        there false m = omega (arith, state.once c, ap indicator f, ap indicator m)

pub some_left : (p : Problem) (s : State) (position : Position) → IsPosition p s position → 1 ≤ length position.rest.items → (c : ℕ) × (s.rest c ≡ true)
some_left p s position h l =
    let r = first (filter s.rest p.counties) (omega (arith, l, ap (λ (l : List Waiting). length l) h.rest, length-map (filter s.rest p.counties) (waiting s.least))) in
    (r.0, (has-filter s.rest p.counties r.0 r.1).1)
  where
    first : (xs : List ℕ) → 1 ≤ length xs → (c : ℕ) × Has xs c
    first [] l = absurd (omega (arith, l))
    first (x ∷ xs) l = (x, inl refl)

pub covered : (p : Problem) (round : Round) (s : State) → IsState p round s → ((c : ℕ) → s.rest c ≡ false) → (c : ℕ) → count_in c s.closed ≡ indicator (contains p.counties c)
covered p round s state none c = omega (arith, state.once c, false_digit (s.rest c) (none c))

-- bound lines, with the counts of the round's target
bounds_of : (p : Problem) (round : Round) (s : State) (f : ℕ → ℕ) (lines : List Allowance) → ((i : ℕ) → f i ≡ wanted round.target i) → IsBound p round s lines → Bounds round.format p round.limit s f 1 0 lines
bounds_of p round s f lines same b =
    subst (λ (g : ℕ → ℕ). Bounds round.format p round.limit s g 1 0 lines) (ap wanted (sym b.1) ∙ sym (fun_ext same)) b.2

short_of : (p : Problem) (round : Round) (s : State) (f : ℕ → ℕ) (lines : List Allowance) → ((i : ℕ) → f i ≡ wanted round.target i) → falls_short p s f 1 0 lines ≡ falls_short p s (wanted round.target) 1 0 lines
short_of p round s f lines same = ap (λ (g : ℕ → ℕ). falls_short p s g 1 0 lines) (fun_ext same)

-- a bound leaf, and whether its lines are said to fall short by the counts of the round's target
module _ (p : Problem) (round : Round) (s : State) (f : ℕ → ℕ) (lines : List Allowance) (said : Bool) (wanted_is : (i : ℕ) → f i ≡ wanted round.target i) (proves : IsBound p round s lines)
    (value : Bounds round.format p round.limit s f 1 0 lines → said ≡ falls_short p s f 1 0 lines) where
  pub short_as : (b : Bool) → said ≡ b → falls_short p s (wanted round.target) 1 0 lines ≡ b
  short_as b is = sym (short_of p round s f lines wanted_is) ∙ (sym (value (bounds_of p round s f lines wanted_is proves)) ∙ is)

  module _ (old new : Found) (counted : new.line ≡ old.line + (1 + length lines)) where
    abbrev Walks : Result (Unit {0}) WalkStop → Type 0
    Walks result = HasWalked p (IsComplete (leaf (bound lines)) p round s) (IsFirstGap (leaf (bound lines)) p round s old.line) (ends (leaf (bound lines)) p round s) (1 + length lines) old result new

    pub walked_short : said ≡ true → new.list.items ≡ old.list.items → Walks (Ok tt)
    walked_short is same =
        let e = short_as true is in (
          λ no. absurd (false≢true (sym no ∙ e)),
          counted,
          subst (λ z. HasAdded p z old.list.items new.list.items) (sym (ap (λ b. cond b [] (s.closed ∷ [])) e)) (subst (λ (z : List GroupingHeld). HasAdded p [] old.list.items z) (sym same) (added_none p old.list.items)),
        )

    pub walked_end : said ≡ false → IsFilled p s → (g : GroupingHeld) → new.list.items ≡ old.list.items ++ g ∷ [] → Lawful p (sets_held g) → SameSets (sets_of (sets_held g)) s.closed → IsInOrder (sets_held g) → Walks (Ok tt)
    walked_end is filled g push lawful same in_order =
        let e = short_as false is in (
          λ no. filled,
          counted,
          subst (λ z. HasAdded p z old.list.items new.list.items) (sym (ap (λ b. cond b [] (s.closed ∷ [])) e)) (added_one p s.closed g old.list.items new.list.items push lawful same in_order),
        )

-- what stops in a part stops in the whole
pub going_stops : (p : Problem) (W L P : Type 0) (WG LG PG : Gap → ℕ → Type 0) (whole left part : List (List (List ℕ))) (m n i : ℕ) (old now mid new other : Found) (found : WalkStop)
    → Going p W L WG LG whole left m n old now → ((gap : Gap) (at : ℕ) → PG gap at → LG gap at) → HasWalked p P PG part i mid (Err found) new → HasWalked p W WG whole m old (Err found) other
going_stops p W L P WG LG PG whole left part m n i old now mid new other (stop.Open gap at) g into h = g.gaps gap at (into gap at h)
going_stops p W L P WG LG PG whole left part m n i old now mid new other stop.Memory g into h = tt

pub none_given : {X P : Type 0} (Q : X → Type 0) (o : Option X) → ((x : X) → o ≡ Some x → ⊥) → MatchOption o P Q → P
none_given Q None none h = h
none_given Q (Some x) none h = absurd (none x refl)

-- a walk that stopped at a gap
pub opened : (p : Problem) (C : Type 0) (G : Gap → ℕ → Type 0) (lists : List (List (List ℕ))) (lines : ℕ) (old new : Found) (found : WalkStop) (gap : Gap) (at : ℕ) → found ≡ stop.Open gap at → HasWalked p C G lists lines old (Err found) new → G gap at
opened p C G lists lines old new found gap at e h = subst (λ z. HasWalked p C G lists lines old (Err z) new) e h
