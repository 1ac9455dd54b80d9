-- The rules of a command that is built up, and what clap makes of them.
use Rattle.std.proofs.Common.{◌≡◌, ◌∙◌, ◌||◌, Bool, false, refl, sym, ap, ap₂, List, [], ◌∷◌, ◌++◌, Result, IfOk}
use Rattle.std.proofs.Math.Bool.{or-false}
use Rattle.std.specs.Prelude.{fold}
use Rattle.std.proofs.lemmas.List.{append-nil, append_assoc}
use Rattle.std.proofs.lemmas.Result.{IfOk-weaker}
use Rattle.clap.specs.Words.{AddsArg, AddsSubcommand, App, Rule, Shape, Text, app_of, new_app, rule_of, with_rule, with_subcommand}
use Rattle.clap.specs.declared.builder.arg.Arg.{Arg}
use Rattle.clap.specs.declared.builder.command.Command.{Command}
use Rattle.clap.specs.declared.builder.command.Command.TheViews.{out-Command}
use Rattle.cli_words.specs.Command.{HasMore, HasShape, subcommand}

fold_one_more : (a : App) (rules : List Rule) (r : Rule) → with_rule (fold with_rule a rules) r ≡ fold with_rule a (rules ++ r ∷ [])
fold_one_more a [] r = refl
fold_one_more a (x ∷ xs) r = fold_one_more (with_rule a x) xs r

pub has_none_more : (c : Command) → HasMore c [] c
has_none_more c = record { app = refl; local = refl }

-- one more option
pub has_one_more : (old mid new : Command) (a : Arg) (rules : List Rule) (r : Rule) → HasMore old rules mid → AddsArg mid a new → rule_of a ≡ r → a.global ≡ false
    → HasMore old (rules ++ r ∷ []) new
has_one_more old mid new a rules r before added is local = record {
  app = added.shape local
      ∙ (ap (λ (x : Rule). with_rule (app_of mid) x) is ∙ (ap (λ (x : App). with_rule x r) before.app ∙ fold_one_more (app_of old) rules r));
  local = added.globals ∙ (ap (λ (b : Bool). (out-Command mid).has_globals || b) local ∙ (or-false (out-Command mid).has_globals ∙ before.local));
}

pub one_more_if_ok : {E : Type 0} (old mid : Command) (r : Result Command E) (a : Arg) (rules : List Rule) (x : Rule) → HasMore old rules mid → IfOk r (AddsArg mid a) → rule_of a ≡ x
    → a.global ≡ false → IfOk r (HasMore old (rules ++ x ∷ []))
one_more_if_ok old mid r a rules x before added is local = IfOk-weaker r _ _ (λ new adds. has_one_more old mid new a rules x before adds is local) added

fold_top : (a : App) (options : List Rule) → ◌≡◌ {A = Shape} (fold with_rule a options).top (record a.top { rules = a.top.rules ++ options })
fold_top a [] = λ i. record a.top { rules = sym (append-nil a.top.rules) i }
fold_top a (x ∷ xs) = fold_top (with_rule a x) xs ∙ (λ i. record a.top { rules = append_assoc a.top.rules (x ∷ []) xs i })

-- a new command with these options is a subcommand of this shape
has_shape : (old new : Command) (name : Text) (options : List Rule) → app_of old ≡ new_app name → (out-Command old).has_globals ≡ false → HasMore old options new
    → HasShape new (subcommand name options)
has_shape old new name options is local more = record {
  shape = ap (λ (a : App). a.top) (more.app ∙ ap (λ (a : App). fold with_rule a options) is) ∙ fold_top (new_app name) options;
  local = more.local ∙ local;
}

fold_two : (a : App) (xs ys : List Rule) → fold with_rule (fold with_rule a xs) ys ≡ fold with_rule a (xs ++ ys)
fold_two a [] ys = refl
fold_two a (x ∷ xs) ys = fold_two (with_rule a x) xs ys

-- these options, and those behind them
has_both : (old mid new : Command) (xs ys : List Rule) → HasMore old xs mid → HasMore mid ys new → HasMore old (xs ++ ys) new
has_both old mid new xs ys front behind = record {
  app = behind.app ∙ (ap (λ (a : App). fold with_rule a ys) front.app ∙ fold_two (app_of old) xs ys);
  local = behind.local ∙ front.local;
}

-- a new command with these options, and those behind them, is a subcommand of this shape
pub shape_behind : {E : Type 0} (old mid : Command) (r : Result Command E) (name : Text) (xs ys : List Rule) → app_of old ≡ new_app name → (out-Command old).has_globals ≡ false
    → HasMore old xs mid → IfOk r (HasMore mid ys) → IfOk r (λ c. HasShape c (subcommand name (xs ++ ys)))
shape_behind old mid r name xs ys is local front more =
    IfOk-weaker r _ _ (λ new m. has_shape old new name (xs ++ ys) is local (has_both old mid new xs ys front m)) more

-- one more subcommand
pub has_one_subcommand_more : (old sub new : Command) (a : App) (s : Shape) → app_of old ≡ a → HasShape sub s → AddsSubcommand old sub new → app_of new ≡ with_subcommand a s
has_one_subcommand_more old sub new a s is like added = added.shape like.local ∙ ap₂ with_subcommand is like.shape
