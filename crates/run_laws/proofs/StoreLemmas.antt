-- What storing files in turn comes to together.
use Rattle.std.proofs.Common.{◌≡◌, ◌⊎◌, List, [], ◌∷◌, ◌++◌, Option, Some, None, inl, inr, refl, sym, ap, subst, ◌∙◌}
use Rattle.std.specs.Prelude.{Ok, Err, option_map}
use Rattle.cli_file_stores.specs.Files.{NamedFile, Files, with_file, with_files, with_bytes, with_all}
use Rattle.cli_file_stores.specs.History.{History}
use Rattle.cli_answers.specs.Answer.{Answered, memory_answer}
use Rattle.cli_answers.specs.Refusals.{file_store_answer}
use Rattle.run_laws.specs.Steps.{Steps}
use Rattle.run_laws.specs.Storing.{HasStored, IsAnsweredBy, store_steps}
use Rattle.run_laws.proofs.Texts.{file_store_status}

-- Steps come to what is to be stored, and its files are then stored. What is said is said by the answer to the file
-- that was refused, if one was.
abbrev pub StoresThenAnswers : {S : Type 0} → Steps S → (S → List NamedFile) → (S → Option Answered → Answered) → History → History → List NamedFile → Answered → Type 0
StoresThenAnswers {S} steps files_of say before after stored a =
    (steps before after (Err a) × (stored ≡ []))
    ⊎ ((s : S) × (between : History) × (refusal : Option Answered) × steps before between (Ok s) × store_steps (files_of s) between after stored refusal × (a ≡ say s refusal))

-- nothing was stored
all_none : (files : Option Files) → files ≡ option_map (λ held. with_all held []) files
all_none None = refl
all_none (Some files) = refl

listed_none : (listed : Option (List NamedFile)) → listed ≡ option_map (λ held. with_files held []) listed
listed_none None = refl
listed_none (Some files) = refl

pub none_stored : (files after : Option Files) (listed listed_after : Option (List NamedFile)) → after ≡ files → listed_after ≡ listed → HasStored files after listed listed_after []
none_stored files after listed listed_after same kept = record { contents = same ∙ all_none files; list = kept ∙ listed_none listed }

-- files after others
all_after : (held : Files) (xs ys : List NamedFile) → with_all (with_all held xs) ys ≡ with_all held (xs ++ ys)
all_after held [] ys = refl
all_after held (x ∷ xs) ys = all_after (with_bytes held x.name x.bytes) xs ys

listed_after : (held xs ys : List NamedFile) → with_files (with_files held xs) ys ≡ with_files held (xs ++ ys)
listed_after held [] ys = refl
listed_after held (x ∷ xs) ys = listed_after (with_file held x.name x.bytes) xs ys

all_twice : (files : Option Files) (xs ys : List NamedFile) → option_map (λ held. with_all held ys) (option_map (λ held. with_all held xs) files) ≡ option_map (λ held. with_all held (xs ++ ys)) files
all_twice None xs ys = refl
all_twice (Some files) xs ys = ap (λ (f : Files). Some f) (all_after files xs ys)

listed_twice : (listed : Option (List NamedFile)) (xs ys : List NamedFile) → option_map (λ held. with_files held ys) (option_map (λ held. with_files held xs) listed) ≡ option_map (λ held. with_files held (xs ++ ys)) listed
listed_twice None xs ys = refl
listed_twice (Some files) xs ys = ap (λ (f : List NamedFile). Some f) (listed_after files xs ys)

pub stored_after : (files between after : Option Files) (listed listed_between last : Option (List NamedFile)) (xs ys : List NamedFile)
    → HasStored files between listed listed_between xs → HasStored between after listed_between last ys → HasStored files after listed last (xs ++ ys)
stored_after files between after listed listed_between last xs ys h k = record {
  contents = k.contents ∙ ap (option_map (λ held. with_all held ys)) h.contents ∙ all_twice files xs ys;
  list = k.list ∙ ap (option_map (λ held. with_files held ys)) h.list ∙ listed_twice listed xs ys;
}

-- nothing was refused, so no answer is given
not_answered : (a : Answered) → IsAnsweredBy None a → ⊥
not_answered a (inl e) = cc
not_answered a (inr e) = cc

-- steps after steps
pub stores_on : (xs ys : List NamedFile) (before between after : History) (stored more : List NamedFile) (end : Option Answered)
    → store_steps xs before between stored None → store_steps ys between after more end → store_steps (xs ++ ys) before after (stored ++ more) end
stores_on [] ys before between after stored more end h k =
    subst (λ (s : List NamedFile). store_steps ys before after (s ++ more) end) (sym h.1)
    (subst (λ (n : History). store_steps ys n after more end) h.0 k)
stores_on (x ∷ xs) ys before between after stored more end (inl h) k = absurd (not_answered _ h.answer)
stores_on (x ∷ xs) ys before between after stored more end (inr h) k =
    inr (h.0, h.1 ++ more, h.2, ap (λ (s : List NamedFile). s ++ more) h.3, stores_on xs ys h.0 between after h.1 more end h.4 k)

-- steps that a refusal ends
pub stops_in : (xs ys : List NamedFile) (before after : History) (stored : List NamedFile) (a : Answered)
    → store_steps xs before after stored (Some a) → store_steps (xs ++ ys) before after stored (Some a)
stops_in [] ys before after stored a h = absurd (some_none h.2)
  where
    some_none : Some a ≡ None → ⊥
    some_none e = cc
stops_in (x ∷ xs) ys before after stored a (inl h) = inl (record { fault = h.fault; is = h.is; logged = h.logged; none_stored = h.none_stored; answer = h.answer })
stops_in (x ∷ xs) ys before after stored a (inr h) = inr (h.0, h.1, h.2, h.3, stops_in xs ys h.0 after h.1 a h.4)

-- the status of what was refused
answered_status : (refusal a : Answered) → IsAnsweredBy (Some refusal) a → a.status ≡ 5 → refusal.status ≡ 5
answered_status refusal a (inl e) s = let same : refusal ≡ a = cc in ap (λ (x : Answered). x.status) same ∙ s
answered_status refusal a (inr e) s = let same : refusal ≡ memory_answer = cc in ap (λ (x : Answered). x.status) same

pub refusal_status : (files : List NamedFile) (before after : History) (stored : List NamedFile) (refusal : Answered) → store_steps files before after stored (Some refusal) → refusal.status ≡ 5
refusal_status [] before after stored refusal h = absurd (some_none h.2)
  where
    some_none : Some refusal ≡ None → ⊥
    some_none e = cc
refusal_status (f ∷ fs) before after stored refusal (inl h) = answered_status refusal (file_store_answer f.name h.fault) h.answer (file_store_status f.name h.fault)
refusal_status (f ∷ fs) before after stored refusal (inr h) = refusal_status fs h.0 after h.1 refusal h.4

-- all files are stored where none is refused
pub all_stored : (files : List NamedFile) (before after : History) (stored : List NamedFile) → store_steps files before after stored None → stored ≡ files
all_stored [] before after stored h = h.1
all_stored (f ∷ fs) before after stored (inl h) = absurd (not_answered _ h.answer)
all_stored (f ∷ fs) before after stored (inr h) = h.3 ∙ ap (λ (more : List NamedFile). f ∷ more) (all_stored fs h.0 after h.1 h.4)
