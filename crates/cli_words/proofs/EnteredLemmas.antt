-- A parse without a fault of a command that requires a subcommand enters one, without a fault.
use Rattle.std.proofs.Common.{◌≡◌, ◌∙◌, ◌&&◌, not, Bool, true, false, refl, sym, ap, List, [], Option, Some, None, is_some, true≢false}
use Rattle.std.specs.List.{find}
use Rattle.std.specs.Prelude.{option_map}
use Rattle.std.specs.Option.{option_map_or}
use Rattle.clap.specs.Walk.{Text, answers_to, nothing_held, walk, walk_from}
use Rattle.clap.specs.Simple.{App, Shape, argument_words, built, entered, label_of, names_of, rows_at, subcommand_of}
use Rattle.clap.specs.Kinds.{check_kinds}
use Rattle.clap.specs.Faults.{entered_fault, fault_of, level_fault, settle_fault, walk_fault}
use Rattle.cli_words.proofs.WalkLemmas.{neither}

-- the words enter a subcommand, at which they have no fault
pub record EntersWell (a : App) (words : List Text) : Type 0 where
  pub test : Shape → Bool
  pub shape : Shape
  pub own : find test (built a).subs ≡ Some shape
  pub rest : List Text
  pub is : subcommand_of a words ≡ Some (rows_at shape rest)
  pub sound : level_fault shape [] nothing_held rest false [] ≡ []

no_missing : (help subcommand argument : Bool) → check_kinds help subcommand argument ≡ [] → subcommand ≡ false
no_missing true s a e = cc
no_missing false true a e = cc
no_missing false false a e = refl

has_one : (has : Bool) → (not has && true) ≡ false → has ≡ true
has_one true e = refl
has_one false e = absurd (true≢false e)

module _ (a : App) (words : List Text) (needs : (built a).top.subcommand_required ≡ true) (none : fault_of a words ≡ []) where
  stop : Option (Text × List Text)
  stop = (walk (built a).top.rules (names_of (built a)) nothing_held (argument_words a words)).stopped

  of_stop : (o : Option (Text × List Text)) → stop ≡ o → is_some (entered (built a) o) ≡ true → entered_fault (built a) o ≡ [] → EntersWell a words
  unfolding stop
  of_stop None is has below = absurd (true≢false (sym has))
  of_stop (Some p) is has below = go (find (λ s. answers_to p.0 (label_of s)) (built a).subs) refl has below
    where
      go : (o : Option Shape) → find (λ s. answers_to p.0 (label_of s)) (built a).subs ≡ o → is_some (option_map (λ s. rows_at s p.1) o) ≡ true
          → option_map_or (λ s. level_fault s [] nothing_held p.1 false []) o [] ≡ [] → EntersWell a words
      go None at h e = absurd (true≢false (sym h))
      go (Some s) at h e = record {
        test = λ s. answers_to p.0 (label_of s);
        shape = s;
        own = at;
        rest = p.1;
        is = ap (entered (built a)) is ∙ ap (option_map (λ s. rows_at s p.1)) at;
        sound = e;
      }

  pub enters_well : EntersWell a words
  unfolding stop
  enters_well =
      let top = (built a).top in
      let names = names_of (built a) in
      let given = argument_words a words in
      let end = (walk top.rules names nothing_held given).held in
      let has = is_some (entered (built a) stop) in
      let walked_well = neither (walk_fault top names (walk_from nothing_held) given) _ none in
      let entered_well = neither (entered_fault (built a) stop) _ walked_well.1 in
      let settled_well = neither (settle_fault top.rules top.args_override_self end) _ entered_well.1 in
      let filled_well = neither _ _ settled_well.1 in
      let one : has ≡ true = has_one has (ap (λ b. not has && b) (sym needs) ∙ no_missing _ _ _ filled_well.1) in
      of_stop stop refl one entered_well.0
