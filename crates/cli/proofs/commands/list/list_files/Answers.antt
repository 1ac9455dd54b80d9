use Rattle.std.proofs.Common.{ℕ, List, Option, refl, subst₂}
use Rattle.std.specs.Prelude.{Ok, option_map}
use Rattle.grouping_laws.specs.Grouping.{Grouping}
use Rattle.cli_words.specs.declared.words.ListWords.{ListWords}
use Rattle.cli_file_stores.specs.Files.{Files}
use Rattle.run_laws.specs.Steps.{Steps, ◌>>=◌, load_step, value_step}
use Rattle.run_laws.specs.Forms.{reads_names}
use Rattle.run_laws.specs.TableSteps.{Tabled, tabled_problem_in}
use Rattle.run_laws.specs.ListSteps.{IsListAnswer, Listed, asked_by, which_of}
use Rattle.cli_reports.specs.Texts.{listed_of, tabled_of}
use Rattle.cli.proofs.StepLemmas.{gave, stepped, stopped}
use Rattle.cli.proofs.commands.list.list_files.Goals as goal

-- the list by a certificate, where the problem and what is asked for are known
abbrev with_text : ListWords → Tabled → Option Grouping → List ℕ → Steps Listed
with_text words t which text = value_step (IsListAnswer words.check.problem.common.form t words.check.budget (asked_by words which) text)

-- and where its file is loaded
abbrev with_which : ListWords → Tabled → Option Files → Option Grouping → Steps Listed
with_which words t files which = load_step files words.check.certificate.now >>= with_text words t which

-- and where the problem alone is known
abbrev with_problem : ListWords → Option Files → Tabled → Steps Listed
with_problem words files t = which_of files words.which >>= with_which words t files

pub returns-in_err-which-clause-steps : goal.returns-in_err-which-clause-steps
returns-in_err-which-clause-steps g c =
    stepped g.H.FileStore.contents g.H.FileStore.history listed_of _ (λ f. tabled_problem_in f c.args.words.check.problem (reads_names c.args.words.check.problem.common c.args.words.groupings)) (with_problem c.args.words) _ _ _ _ c.in_ok-tabled.ensures.steps c.load_tabled_problem.ensures.same
    (stopped g.H.FileStore.contents g.H.FileStore.history listed_of _ (λ f. which_of f c.args.words.which) (with_which c.args.words (tabled_of c.in_ok-tabled.tabled)) _ _ _ c.from_residual-in_err-which.ensures.1 c.in_err-which.ensures.steps)

pub returns-in_err-text-clause-steps : goal.returns-in_err-text-clause-steps
returns-in_err-text-clause-steps g c =
    let t = tabled_of c.in_ok-tabled.tabled in
    stepped g.H.FileStore.contents g.H.FileStore.history listed_of _ (λ f. tabled_problem_in f c.args.words.check.problem (reads_names c.args.words.check.problem.common c.args.words.groupings)) (with_problem c.args.words) _ _ _ _ c.in_ok-tabled.ensures.steps c.load_tabled_problem.ensures.same
    (stepped g.H.FileStore.contents g.H.FileStore.history listed_of _ (λ f. which_of f c.args.words.which) (with_which c.args.words t) _ _ _ _ c.in_ok-which.ensures.steps c.load_which.ensures.same
    (stopped g.H.FileStore.contents g.H.FileStore.history listed_of _ (λ f. load_step f c.args.words.check.certificate.now) (λ _. with_text c.args.words t (option_map (λ g. g.groups.items) c.in_ok-which.which)) _ _ _ c.from_residual-in_err-text.ensures.1 c.in_err-text.ensures.steps))

pub returns-clause-steps : goal.returns-clause-steps
returns-clause-steps g c =
    let t = tabled_of c.in_ok-tabled.tabled in
    let which = option_map (λ g. g.groups.items) c.in_ok-which.which in
    let said = listed_of c.in_ok-listed.listed in
    let listed = subst₂ (λ (n : Option ℕ) (text : List ℕ). IsListAnswer c.args.words.check.problem.common.form t c.args.words.check.budget (record { number = n; which = which }) text said) c.number_in-number.ensures c.deref.ensures.value c.in_ok-listed.ensures in
    gave g.H.FileStore.contents g.H.FileStore.history (Ok said) (λ f. tabled_problem_in f c.args.words.check.problem (reads_names c.args.words.check.problem.common c.args.words.groupings)) (with_problem c.args.words) _ _ _ _ c.in_ok-tabled.ensures.steps c.load_tabled_problem.ensures.same
    (gave g.H.FileStore.contents g.H.FileStore.history (Ok said) (λ f. which_of f c.args.words.which) (with_which c.args.words t) _ _ _ _ c.in_ok-which.ensures.steps c.load_which.ensures.same
    (gave g.H.FileStore.contents g.H.FileStore.history (Ok said) (λ f. load_step f c.args.words.check.certificate.now) (λ _. with_text c.args.words t which) _ _ _ _ c.in_ok-text.ensures.steps c.load.ensures.same (refl, listed)))
