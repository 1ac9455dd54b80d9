-- What each use of an argument keeps, a walk over words without a fault keeps.
use Rattle.std.proofs.Common.{◌≡◌, ◌&&◌, ℕ, Bool, cond, true, false, zero, suc, refl, sym, subst, List, [], ◌∷◌, length, drop, Option, Some, None}
use Rattle.std.specs.Prelude.{encode_utf8, slice_get}
use Rattle.std.specs.List.{find, fold}
use Rattle.std.specs.Option.{is_some, option_map_or}
use Rattle.std.specs.Str.{bytes_eq, chars}
use Rattle.clap.specs.Lexer.{long_of, short_of}
use Rattle.clap.specs.Walk.{Held, Names, Outcome, Row, Rule, Step, Text, Waiting, Walk, after_flag, after_step, arg_by_id, arg_by_index, arg_by_long, arg_by_short, attached_value, bundle_met, bundle_step, done, flag_met, idle, is_pending, long_met, long_or_other, next, option, option_met, option_word, plain, plain_word, positional, reacted, refused, settled, settled_rows, short_met, short_or_plain, subcommand, subcommand_met, subcommand_or_other, takes_several, takes_values, to_positional, trailing, used, used_by_id, value, waits, walked, walked_from, word_met}
use Rattle.clap.specs.Simple.{Shape}
use Rattle.clap.specs.Kinds.{Kinds, or_else}
use Rattle.clap.specs.Faults.{bundle_fault, bundle_step_fault, flag_word_fault, flags_fault, long_fault, option_fault, other_fault, positional_fault, react_fault, settle_fault, short_fault, step_fault, stray_fault, turn_fault, use_fault, walk_fault, word_fault}
use Rattle.clap.specs.declared.error.kind.ErrorKind.TheVariants as kind

-- two steps have no fault where neither has one
pub neither : (a b : Kinds) → or_else a b ≡ [] → (a ≡ []) × (b ≡ [])
neither [] b e = (refl, e)
neither (k ∷ ks) b e = cc

-- the rule is one that a search among the rules finds
abbrev pub IsFoundIn : List Rule → Rule → Type 0
IsFoundIn rules a = (p : Rule → Bool) × (find p rules ≡ Some a)

module _ (c : List Rule) (again : Bool) (R : List Row → Type 0)
    (keeps : (a : Rule) (values : List Text) (rows : List Row) → IsFoundIn c a → use_fault again a values rows ≡ [] → R rows → R (used a values rows)) where
  by_id : (p : Text × List Text) (rows : List Row) (o : Option Rule) → arg_by_id c p.0 ≡ o
      → option_map_or (λ (a : Rule). use_fault again a p.1 rows) o [] ≡ [] → R rows → R (used_by_id o p.1 rows)
  by_id p rows None is e r = r
  by_id p rows (Some a) is e r = keeps a p.1 rows ((λ (b : Rule). bytes_eq b.id p.0), is) e r

  settle_rows : (pending : Option (Text × List Text)) (rows : List Row)
      → option_map_or (λ (p : Text × List Text). option_map_or (λ (a : Rule). use_fault again a p.1 rows) (arg_by_id c p.0) []) pending [] ≡ []
      → R rows → R (settled_rows c pending rows)
  settle_rows None rows e r = r
  settle_rows (Some p) rows e r = by_id p rows (arg_by_id c p.0) refl e r

  -- the pending argument's use keeps
  pub settle_keeps : (h : Held) → settle_fault c again h ≡ [] → R h.rows → R (settled c h).rows
  settle_keeps h e r = settle_rows h.pending h.rows e r

  react_keeps : (a : Rule) (values : List Text) (h : Held) → IsFoundIn c a → react_fault c again a values h ≡ [] → R h.rows → R (reacted c a values h).rows
  react_keeps a values h found e r =
      let parts = neither (settle_fault c again h) (use_fault again a values (settled c h).rows) e in
      keeps a values (settled c h).rows found parts.1 (settle_keeps h parts.0 r)

  option_keeps : (a : Rule) (v : Option Text) (h : Held) → IsFoundIn c a → option_fault c again a v h ≡ [] → R h.rows → R (option_met c a v h).0.rows
  option_keeps a (Some v) h found e r = react_keeps a (v ∷ []) h found e r
  option_keeps a None h found e r = settle_keeps h e r

  flag_keeps : (a : Rule) (v : Option Text) (h : Held) → IsFoundIn c a
      → cond (is_some v) (kind.TooManyValues ∷ []) (react_fault c again a [] h) ≡ [] → R h.rows → R (flag_met c a v h).0.rows
  flag_keeps a (Some v) h found e r = r
  flag_keeps a None h found e r = react_keeps a [] h found e r

  long_keeps : (o : Option Rule) (name : Text) (v : Option Text) (h : Held) → arg_by_long c name ≡ o → long_fault c again o v h ≡ [] → R h.rows → R (long_met c o v h).0.rows
  long_keeps None name v h is e r = r
  long_keeps (Some a) name v h is e r = go (takes_values a) e
    where
      found : IsFoundIn c a
      found = (_, is)

      go : (b : Bool) → cond b (option_fault c again a v h) (cond (is_some v) (kind.TooManyValues ∷ []) (react_fault c again a [] h)) ≡ []
          → R (cond b (option_met c a v h) (flag_met c a v h)).0.rows
      go true e = option_keeps a v h found e r
      go false e = flag_keeps a v h found e r

  short_keeps : (o : Option Rule) (x : ℕ) (rest : Text) (h : Held) (on : Held → Held × Outcome) (fault : Held → Kinds) → arg_by_short c x ≡ o
      → ((k : Held) → fault k ≡ [] → R k.rows → R (on k).0.rows)
      → short_fault c again o rest h fault ≡ [] → R h.rows → R (short_met c o rest h on).0.rows
  short_keeps None x rest h on fault is further e r = r
  short_keeps (Some a) x rest h on fault is further e r = go (takes_values a) e
    where
      found : IsFoundIn c a
      found = (_, is)

      go : (b : Bool) → cond b (option_fault c again a (attached_value rest) h) (or_else (react_fault c again a [] h) (fault (reacted c a [] h))) ≡ []
          → R (cond b (option_met c a (attached_value rest) h) (on (reacted c a [] h))).0.rows
      go true e = option_keeps a (attached_value rest) h found e r
      go false e =
          let parts = neither (react_fault c again a [] h) (fault (reacted c a [] h)) e in
          further (reacted c a [] h) parts.1 (react_keeps a [] h found parts.0 r)

  bundle_step_keeps : (k : ℕ) (so_far : Outcome) (flags : Text) (h : Held)
      → ((rest : Text) (n : ℕ) (o : Outcome) (g : Held) → flags_fault c again k rest n g ≡ [] → R g.rows → R (bundle_met c k rest n o g).0.rows)
      → (o : Option ℕ) (n : ℕ) → bundle_step_fault c again o flags n h (flags_fault c again k) ≡ [] → R h.rows
      → R (bundle_step c o flags n so_far h (bundle_met c k)).0.rows
  bundle_step_keeps k so_far flags h further None n e r = r
  bundle_step_keeps k so_far flags h further (Some x) zero e r =
      let rest = drop (length (encode_utf8 x)) flags in
      short_keeps (arg_by_short c x) x rest h (bundle_met c k rest 0 done) (flags_fault c again k rest 0) refl (further rest 0 done) e r
  bundle_step_keeps k so_far flags h further (Some x) (suc n) e r = further (drop (length (encode_utf8 x)) flags) n so_far h e r

  bundle_keeps : (k : ℕ) (flags : Text) (skip : ℕ) (so_far : Outcome) (h : Held) → flags_fault c again k flags skip h ≡ [] → R h.rows → R (bundle_met c k flags skip so_far h).0.rows
  unfolding bundle_met flags_fault
  bundle_keeps zero flags skip so_far h e r = r
  bundle_keeps (suc k) flags skip so_far h e r =
      bundle_step_keeps k so_far flags h (λ rest n o g. bundle_keeps k rest n o g) (slice_get (chars flags) 0) skip e r

  option_word_rows : (o : Option Rule) (id word : Text) (h : Held) → (option_word o id word h).0.rows ≡ h.rows
  option_word_rows None id word h = refl
  option_word_rows (Some a) id word h = refl

  plain_word_rows : (waiting : Waiting) (word : Text) (h : Held) → (plain_word c waiting word h).0.rows ≡ h.rows
  plain_word_rows idle word h = refl
  plain_word_rows (option id) word h = option_word_rows (arg_by_id c id) id word h
  plain_word_rows positional word h = refl

  after_flag_rows : (waiting : Waiting) (word : Text) (h : Held) (o : Outcome) → (after_flag c waiting word h o).0.rows ≡ h.rows
  after_flag_rows waiting word h done = refl
  after_flag_rows waiting word h (waits id) = refl
  after_flag_rows waiting word h plain = plain_word_rows waiting word h
  after_flag_rows waiting word h refused = plain_word_rows waiting word h

  short_word_keeps : (waiting : Waiting) (word : Text) (o : Option Text) (h : Held)
      → option_map_or (λ (flags : Text). bundle_fault c again flags h) o [] ≡ [] → R h.rows → R (short_or_plain c waiting word o h).0.rows
  short_word_keeps waiting word None h e r = subst R (sym (plain_word_rows waiting word h)) r
  short_word_keeps waiting word (Some flags) h e r =
      let met = bundle_met c (length flags) flags h.skip plain (record h { skip = 0 }) in
      subst R (sym (after_flag_rows waiting word met.0 met.1)) (bundle_keeps (length flags) flags h.skip plain (record h { skip = 0 }) e r)

  flag_word_keeps : (waiting : Waiting) (word : Text) (o : Option (Text × Option Text)) (h : Held)
      → flag_word_fault c again o word h ≡ [] → R h.rows → R (long_or_other c waiting word o h).0.rows
  flag_word_keeps waiting word None h e r = short_word_keeps waiting word (short_of word) h e r
  flag_word_keeps waiting word (Some p) h e r =
      let met = long_met c (arg_by_long c p.0) p.1 h in
      subst R (sym (after_flag_rows waiting word met.0 met.1)) (long_keeps (arg_by_long c p.0) p.0 p.1 h refl e r)

  -- what `word_met` makes of a word that is not behind `--`
  other_keeps : (s : Shape) (o : Option Text) (waiting : Waiting) (position : ℕ) (word : Text) (h : Held) → s.rules ≡ c → s.args_override_self ≡ again
      → other_fault s o word h ≡ [] → R h.rows → R (subcommand_or_other c o waiting position word h).0.rows
  other_keeps s (Some name) waiting position word h rules same e r = r
  other_keeps s None waiting position word h rules same e r = go (bytes_eq word (45 ∷ 45 ∷ [])) (rw (rules, same) at e)
    where
      go : (b : Bool) → cond b [] (flag_word_fault c again (long_of word) word h) ≡ []
          → R (cond b (h, trailing position) (long_or_other c waiting word (long_of word) h)).0.rows
      go true e = r
      go false e = flag_word_keeps waiting word (long_of word) h e r

module _ (s : Shape) (names : Names) (R : List Row → Type 0)
    (keeps : (a : Rule) (values : List Text) (rows : List Row) → IsFoundIn s.rules a → use_fault s.args_override_self a values rows ≡ [] → R rows → R (used a values rows)) where
  word_keeps : (w : Walk) (word : Text) → word_fault s names w.is_trailing w.waiting word w.held ≡ [] → R w.held.rows
      → R (word_met s.rules names w.is_trailing w.waiting w.position word w.held).0.rows
  word_keeps w word e r = go w.is_trailing e
    where
      go : (b : Bool) → cond b [] (other_fault s (subcommand_met names w.waiting word) word w.held) ≡ []
          → R (cond b (w.held, value) (subcommand_or_other s.rules (subcommand_met names w.waiting word) w.waiting w.position word w.held)).0.rows
      go true e = r
      go false e =
          other_keeps s.rules s.args_override_self R keeps s (subcommand_met names w.waiting word) w.waiting w.position word w.held refl refl e r

  positional_keeps : (stray : Kinds) (o : Option Rule) (w : Walk) (word : Text) (h : Held)
      → option_map_or (λ (a : Rule). positional_fault s.rules s.args_override_self a h) o stray ≡ [] → R h.rows → R (to_positional s.rules o word w h).held.rows
  positional_keeps stray None w word h e r = r
  positional_keeps stray (Some a) w word h e r = go (is_pending a h.pending && takes_several a) e
    where
      go : (b : Bool) → cond b [] (settle_fault s.rules s.args_override_self h) ≡ [] → R (cond b h (settled s.rules h)).rows
      go true e = r
      go false e = settle_keeps s.rules s.args_override_self R keeps h e r

  step_keeps : (w : Walk) (word : Text) (h : Held) (step : Step) → step_fault s w.position h step ≡ [] → R h.rows → R (after_step s.rules word w h step).held.rows
  step_keeps w word h (next waiting) e r = r
  step_keeps w word h (trailing position) e r = r
  step_keeps w word h (subcommand name) e r = r
  step_keeps w word h value e r = positional_keeps (stray_fault s) (arg_by_index s.rules w.position) w word h e r

  turn_keeps : (w : Walk) (word : Text) → turn_fault s names w word ≡ [] → R w.held.rows → R (walked s.rules names w word).held.rows
  unfolding walked
  turn_keeps w word e r = go w.stopped e
    where
      go : (stop : Option (Text × List Text))
          → cond (is_some stop) [] (or_else (word_fault s names w.is_trailing w.waiting word w.held)
          (step_fault s w.position (word_met s.rules names w.is_trailing w.waiting w.position word w.held).0
          (word_met s.rules names w.is_trailing w.waiting w.position word w.held).1)) ≡ []
          → R (walked_from s.rules names stop w word).held.rows
      go (Some p) e = r
      go None e =
          let met = word_met s.rules names w.is_trailing w.waiting w.position word w.held in
          let parts = neither (word_fault s names w.is_trailing w.waiting word w.held) (step_fault s w.position met.0 met.1) e in
          step_keeps w word met.0 met.1 parts.1 (word_keeps w word parts.0 r)

  -- a walk without a fault keeps what each use keeps
  pub walk_keeps : (w : Walk) (words : List Text) → walk_fault s names w words ≡ [] → R w.held.rows → R (fold (walked s.rules names) w words).held.rows
  unfolding walk_fault
  walk_keeps w [] e r = r
  walk_keeps w (word ∷ rest) e r =
      let parts = neither (turn_fault s names w word) (walk_fault s names (walked s.rules names w word) rest) e in
      walk_keeps (walked s.rules names w word) rest parts.1 (turn_keeps w word parts.0 r)
