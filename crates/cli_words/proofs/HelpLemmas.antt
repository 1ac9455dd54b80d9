-- Where no subcommand `help` stands, a call for help or for the version is a fault alone.
use Rattle.std.proofs.Common.{◌≡◌, ◌⊎◌, ◌&&◌, ◌||◌, ◌==◌, not, ℕ, Bool, cond, true, false, zero, suc, refl, sym, ap, inl, inr, List, [], ◌∷◌, length, drop, min, ◌+◌, Option, Some, None, codes, is_some, nat_lt}
use Rattle.std.specs.Prelude.{encode_utf8, slice_get}
use Rattle.std.specs.List.{find, list_all, list_any}
use Rattle.std.specs.Option.{option_map_or}
use Rattle.std.specs.Str.{bytes_eq, chars}
use Rattle.clap.specs.Lexer.{long_of, short_of}
use Rattle.clap.specs.Facts.{explicit_source, parser_of_value, unwrap_or_range}
use Rattle.clap.specs.Values.{refused_kind}
use Rattle.clap.specs.ValueTests.{accepts}
use Rattle.clap.specs.Matches.{count_text}
use Rattle.clap.specs.Takes.{is_given}
use Rattle.clap.specs.Walk.{Held, Names, Row, Rule, Step, Text, Walk, action_of, answers_to, arg_by_id, arg_by_index, arg_by_long, arg_by_short, attached_value, count_of, finished, has_row, is_empty, is_pending, most_values, next, nothing_held, reacted, settled, subcommand, subcommand_met, takes_several, takes_values, trailing, value, values_or_missing, walk, walk_from, walked, with_default, word_met}
use Rattle.clap.specs.Simple.{App, Shape, argument_words, built, label_of, names_of}
use Rattle.clap.specs.Kinds.{IsAmong, Kinds, check_kinds, or_else, range_kinds, request_kinds, value_kinds, values_kinds}
use Rattle.clap.specs.Faults.{action_fault, bundle_step_fault, check_fault, count_fault, default_fault, defaults_fault, entered_fault, fault_of, flag_word_fault, flags_fault, level_fault, long_fault, option_fault, other_fault, react_fault, set_fault, settle_fault, short_fault, step_fault, stray_fault, turn_fault, use_fault, walk_fault}
use Rattle.clap.specs.declared.builder.action.ArgAction.{ArgAction}
use Rattle.clap.specs.declared.builder.action.ArgAction.TheVariants as action
use Rattle.clap.specs.declared.builder.value_parser.ValueParser.{ValueParser}
use Rattle.clap.specs.declared.error.kind.ErrorKind.{ErrorKind}
use Rattle.clap.specs.declared.error.kind.ErrorKind.TheVariants as kind
use Rattle.clap.proofs.WalkLemmas.{both}
use Rattle.cli_words.proofs.KeyLemmas.{found_too}

-- a call for help or for the version
abbrev pub IsRequest : ErrorKind → Type 0
IsRequest k = (k ≡ kind.DisplayHelp) ⊎ (k ≡ kind.DisplayVersion)

-- such a call is no fault beside another
pub record IsClear (kinds : Kinds) : Type 0 where
  pub alone : (k : ErrorKind) → IsRequest k → IsAmong k kinds → kinds ≡ k ∷ []

clear_none : IsClear []
clear_none = record { alone = λ k asks h. absurd h }

clear_one : (k : ErrorKind) → IsClear (k ∷ [])
clear_one k = record { alone = λ x asks h. go x h }
  where
    go : (x : ErrorKind) → (x ≡ k) ⊎ ⊥ → k ∷ [] ≡ x ∷ []
    go x (inl e) = ap (λ (y : ErrorKind). y ∷ []) (sym e)
    go x (inr h) = absurd h

clear_then : (a b : Kinds) → IsClear a → IsClear b → IsClear (or_else a b)
clear_then [] b f g = g
clear_then (k ∷ ks) b f g = f

clear_if : (t : Bool) (a b : Kinds) → IsClear a → IsClear b → IsClear (cond t a b)
clear_if true a b f g = f
clear_if false a b f g = g

clear_option : {X : Type 0} (fault : X → Kinds) (o : Option X) (none : Kinds) → ((x : X) → IsClear (fault x)) → IsClear none → IsClear (option_map_or fault o none)
clear_option fault None none f g = g
clear_option fault (Some x) none f g = f x

-- ---- one use of an argument

clear_value : (i : Bool) (p : ValueParser) (t : Text) → IsClear (value_kinds i p t)
clear_value i p t = clear_if (accepts i p t) [] _ clear_none (clear_one (refused_kind p))

clear_values : (i : Bool) (p : ValueParser) (ts : List Text) → IsClear (values_kinds i p ts)
clear_values i p [] = clear_none
clear_values i p (t ∷ ts) = clear_then _ _ (clear_value i p t) (clear_values i p ts)

clear_range : (least most n : ℕ) → IsClear (range_kinds least most n)
clear_range least most n =
    clear_if (nat_lt 0 least && n == 0) _ _ (clear_one kind.InvalidValue)
    (clear_if (least == most) _ _ (clear_if (least == n) _ _ clear_none (clear_one kind.WrongNumberOfValues))
    (clear_if (nat_lt n least) _ _ (clear_one kind.TooFewValues) (clear_if (nat_lt most n) _ _ (clear_one kind.TooManyValues) clear_none)))

clear_request : (x : ArgAction) → IsClear (request_kinds x)
clear_request action.Set = clear_none
clear_request action.Append = clear_none
clear_request action.SetTrue = clear_none
clear_request action.SetFalse = clear_none
clear_request action.Count = clear_none
clear_request action.Help = clear_one kind.DisplayHelp
clear_request action.HelpShort = clear_one kind.DisplayHelp
clear_request action.HelpLong = clear_one kind.DisplayHelp
clear_request action.Version = clear_one kind.DisplayVersion

clear_set : (again : Bool) (a : Rule) (values : List Text) (rows : List Row) → IsClear (set_fault again a values rows)
clear_set again a values rows = clear_then _ _ (clear_if (has_row a.id rows && not again) _ _ (clear_one kind.ArgumentConflict) clear_none) (clear_values _ _ values)

clear_count : (a : Rule) (values : List Text) (rows : List Row) → IsClear (count_fault a values rows)
clear_count a [] rows = clear_value a.ignore_case (parser_of_value a.parser) (count_text (min (count_of a.id rows + 1) 255))
clear_count a (v ∷ vs) rows = clear_values _ _ (v ∷ vs)

clear_action : (x : ArgAction) (again : Bool) (a : Rule) (values : List Text) (rows : List Row) → IsClear (action_fault x again a values rows)
clear_action action.Set again a values rows = clear_set again a values rows
clear_action action.SetTrue again a values rows = clear_set again a values rows
clear_action action.SetFalse again a values rows = clear_set again a values rows
clear_action action.Append again a values rows = clear_values _ _ values
clear_action action.Count again a values rows = clear_count a values rows
clear_action action.Help again a values rows = clear_one kind.DisplayHelp
clear_action action.HelpShort again a values rows = clear_one kind.DisplayHelp
clear_action action.HelpLong again a values rows = clear_one kind.DisplayHelp
clear_action action.Version again a values rows = clear_one kind.DisplayVersion

clear_use : (again : Bool) (a : Rule) (values : List Text) (rows : List Row) → IsClear (use_fault again a values rows)
clear_use again a values rows = clear_then _ _ (clear_range (unwrap_or_range a.range).start_inclusive (most_values a) (length values)) (clear_action (action_of a) again a (values_or_missing a values) rows)

-- ---- the walk

module _ (c : List Rule) (again : Bool) where
  clear_settle : (h : Held) → IsClear (settle_fault c again h)
  clear_settle h = clear_option _ h.pending [] (λ p. clear_option _ (arg_by_id c p.0) [] (λ a. clear_use again a p.1 h.rows) clear_none) clear_none

  clear_react : (a : Rule) (values : List Text) (h : Held) → IsClear (react_fault c again a values h)
  clear_react a values h = clear_then _ _ (clear_settle h) (clear_use again a values (settled c h).rows)

  clear_given : (a : Rule) (v : Option Text) (h : Held) → IsClear (option_fault c again a v h)
  clear_given a None h = clear_settle h
  clear_given a (Some v) h = clear_react a (v ∷ []) h

  clear_long : (o : Option Rule) (v : Option Text) (h : Held) → IsClear (long_fault c again o v h)
  clear_long None v h = clear_one kind.UnknownArgument
  clear_long (Some a) v h =
      clear_if (takes_values a) _ _ (clear_given a v h) (clear_if (is_some v) _ _ (clear_one kind.TooManyValues) (clear_react a [] h))

  clear_short : (o : Option Rule) (rest : Text) (h : Held) (fault : Held → Kinds) → ((g : Held) → IsClear (fault g)) → IsClear (short_fault c again o rest h fault)
  clear_short None rest h fault further = clear_one kind.UnknownArgument
  clear_short (Some a) rest h fault further =
      clear_if (takes_values a) _ _ (clear_given a (attached_value rest) h) (clear_then _ _ (clear_react a [] h) (further (reacted c a [] h)))

  clear_step : (k : ℕ) (flags : Text) (h : Held) → ((rest : Text) (n : ℕ) (g : Held) → IsClear (flags_fault c again k rest n g))
      → (o : Option ℕ) (skip : ℕ) → IsClear (bundle_step_fault c again o flags skip h (flags_fault c again k))
  clear_step k flags h further None skip = clear_none
  clear_step k flags h further (Some x) zero = clear_short (arg_by_short c x) _ h _ (further (drop (length (encode_utf8 x)) flags) 0)
  clear_step k flags h further (Some x) (suc skip) = further (drop (length (encode_utf8 x)) flags) skip h

  clear_flags : (k : ℕ) (flags : Text) (skip : ℕ) (h : Held) → IsClear (flags_fault c again k flags skip h)
  unfolding flags_fault
  clear_flags zero flags skip h = clear_none
  clear_flags (suc k) flags skip h = clear_step k flags h (λ rest n g. clear_flags k rest n g) (slice_get (chars flags) 0) skip

  clear_word : (o : Option (Text × Option Text)) (word : Text) (h : Held) → IsClear (flag_word_fault c again o word h)
  clear_word None word h = clear_option _ (short_of word) [] (λ flags. clear_flags (length flags) flags h.skip (record h { skip = 0 })) clear_none
  clear_word (Some p) word h = clear_long (arg_by_long c p.0) p.1 h

module _ (s : Shape) (no_help : s.disable_help_subcommand ≡ true) (names : Names) where
  clear_other : (o : Option Text) (word : Text) (h : Held) → IsClear (other_fault s o word h)
  clear_other None word h = clear_if (bytes_eq word (45 ∷ 45 ∷ [])) _ _ clear_none (clear_word s.rules s.args_override_self (long_of word) word h)
  clear_other (Some name) word h = rw no_help (go (bytes_eq name (codes "help")))
    where
      go : (b : Bool) → IsClear (cond (b && false) (kind.DisplayHelp ∷ kind.InvalidSubcommand ∷ []) [])
      go true = clear_none
      go false = clear_none

  clear_stray : IsClear (stray_fault s)
  clear_stray = clear_if s.is_leaf _ _ (clear_one kind.UnknownArgument) (record { alone = λ k asks h. absurd (no_request k asks h) })
    where
      no_request : (k : ErrorKind) → IsRequest k → (k ≡ kind.UnknownArgument) ⊎ ((k ≡ kind.InvalidSubcommand) ⊎ ⊥) → ⊥
      no_request k (inl is) (inl e) = cc
      no_request k (inl is) (inr (inl e)) = cc
      no_request k (inr is) (inl e) = cc
      no_request k (inr is) (inr (inl e)) = cc
      no_request k asks (inr (inr e)) = e

  clear_after : (position : ℕ) (h : Held) (step : Step) → IsClear (step_fault s position h step)
  clear_after position h (next waiting) = clear_none
  clear_after position h (trailing p) = clear_none
  clear_after position h (subcommand name) = clear_none
  clear_after position h value = clear_option _ (arg_by_index s.rules position) _
      (λ a. clear_if (is_pending a h.pending && takes_several a) _ _ clear_none (clear_settle s.rules s.args_override_self h)) clear_stray

  clear_turn : (w : Walk) (word : Text) → IsClear (turn_fault s names w word)
  clear_turn w word =
      let met = word_met s.rules names w.is_trailing w.waiting w.position word w.held in
      clear_if (is_some w.stopped) _ _ clear_none
      (clear_then _ _ (clear_if w.is_trailing _ _ clear_none (clear_other (subcommand_met names w.waiting word) word w.held)) (clear_after w.position met.0 met.1))

  clear_walk : (w : Walk) (words : List Text) → IsClear (walk_fault s names w words)
  unfolding walk_fault
  clear_walk w [] = clear_none
  clear_walk w (word ∷ rest) = clear_then _ _ (clear_turn w word) (clear_walk (walked s.rules names w word) rest)

  -- ---- after the walk

  clear_default : (rows : List Row) (a : Rule) → IsClear (default_fault rows a)
  clear_default rows a = clear_if (has_row a.id rows || is_empty a.defaults) _ _ clear_none (clear_then _ _ (clear_request (action_of a)) (clear_values _ _ a.defaults))

  clear_defaults : (rows : List Row) (rules : List Rule) → IsClear (defaults_fault rows rules)
  unfolding defaults_fault
  clear_defaults rows [] = clear_none
  clear_defaults rows (a ∷ rest) = clear_then _ _ (clear_default rows a) (clear_defaults (with_default rows a) rest)

  clear_check : (help sub argument : Bool) → IsClear (check_kinds help sub argument)
  clear_check help sub argument = clear_if help _ _ (clear_one kind.DisplayHelpOnMissingArgumentOrSubcommand)
      (clear_if sub _ _ (clear_one kind.MissingSubcommand) (clear_if argument _ _ (clear_one kind.MissingRequiredArgument) clear_none))

  clear_checked : (rows : List Row) (has : Bool) → IsClear (check_fault s rows has)
  clear_checked rows has = clear_check (not has && (s.arg_required_else_help && not (list_any (λ (r : Row). explicit_source r.source) rows))) (not has && s.subcommand_required)
      (not (s.subcommand_negates_reqs && has) && list_any (λ (a : Rule). a.required && not (is_given a.id rows)) s.rules)

  clear_level : (h : Held) (words : List Text) (has : Bool) (below : Kinds) → IsClear below → IsClear (level_fault s names h words has below)
  clear_level h words has below f =
      let end = (walk s.rules names h words).held in
      let rows = finished s.rules end in
      clear_then _ _ (clear_walk (walk_from h) words) (clear_then _ _ f (clear_then _ _ (clear_settle s.rules s.args_override_self end)
      (clear_then _ _ (clear_defaults (settled s.rules end).rows s.rules) (clear_checked rows has))))

-- no `help` stands among the subcommands
abbrev pub has_no_help : App → Bool
has_no_help a = a.top.disable_help_subcommand && list_all (λ s. s.disable_help_subcommand) a.subs

-- the faults of words at such a command
pub clear_faults : (a : App) (words : List Text) → has_no_help (built a) ≡ true → IsClear (fault_of a words)
clear_faults a words none = clear_level (built a).top (both _ _ none).0 (names_of (built a)) nothing_held (argument_words a words) _ _ (below _)
  where
    sub : (p : Text × List Text) (o : Option Shape) → find (λ s. answers_to p.0 (label_of s)) (built a).subs ≡ o
        → IsClear (option_map_or (λ s. level_fault s [] nothing_held p.1 false []) o [])
    sub p None is = clear_none
    sub p (Some s) is = clear_level s (found_too (λ x. x.disable_help_subcommand) _ (built a).subs s (both _ _ none).1 is) [] nothing_held p.1 false [] clear_none

    below : (stop : Option (Text × List Text)) → IsClear (entered_fault (built a) stop)
    below None = clear_none
    below (Some p) = sub p (find (λ s. answers_to p.0 (label_of s)) (built a).subs) refl
