-- From the arguments that were read to the command that they request.
use Rattle.std.proofs.Common.{ℕ, ◌≡◌, ◌≢◌, ◌≤◌, List, [], ◌∷◌, ◌++◌, length, refl, sym, ◌∙◌, ap, subst, cond, get_or, inl, inr}
use Rattle.std.proofs.Common.{arith, eqb, lit≤, rules}
use Rattle.std.proofs.lemmas.Bool.{eqb-true}
use Rattle.std.specs.Prelude.{codes, slice_index_or, None, Option, Some, ◌⊎◌}
use Rattle.std.specs.Borrow.{Bor}
use Rattle.std.specs.Str.{bytes_eq}
use Rattle.std.proofs.lemmas.List.{append-nil}
use mathlib.Core.Path.{fun_ext}
use Rattle.yuv_words.specs.Calls.{formats_word, IsCall, IsHelpWord, IsTopic, IsVersionWord, IsWrittenAs, NamesTopic}
use Rattle.yuv_words.specs.Commands.{Says}
use Rattle.yuv_words.specs.Faults.{HasFault, HasFileFault, HasLateFile, HasValueFault}
use Rattle.yuv_words.specs.Names.{command_text, file_count}
use Rattle.yuv_words.specs.Reading.{awaited, file_names, given_to, option_place, text_in, IsRead}
use Rattle.yuv_words.specs.Words.{after_end, before_end, files_of, spelled, values_of, Token}
use Rattle.yuv_words.specs.declared.command.Command.{Command}
use Rattle.yuv_words.specs.declared.command.Command.TheVariants as command
use Rattle.yuv_words.specs.declared.command.CommandName.{CommandName}
use Rattle.yuv_words.specs.declared.command.Topic.{Topic}
use Rattle.yuv_words.specs.declared.command.Topic.TheVariants as about
use Rattle.yuv_words.specs.declared.error.UsageError.{UsageError}
use Rattle.yuv_words.specs.declared.files.Files.{Files}
use Rattle.yuv_words.specs.declared.option_name.OptionName.{OptionName}
use Rattle.yuv_words.specs.declared.reading.Reading.{Reading}
use Rattle.yuv_words.proofs.Places.{each_command, one_command}
use Rattle.yuv_words.proofs.Refusals.{late_refused, same_tokens}

text_once : (text : Option (Bor (List ℕ))) → length (text_in text) ≤ 1
text_once None = lit≤ tt
text_once (Some text) = lit≤ tt

module _ (k : CommandName) (words : List (List ℕ)) (reading : Reading) (read : IsRead k (before_end words) reading)
    (ended : reading.awaiting ≡ None) where
  pub whole : before_end words ≡ spelled read.tokens
  whole = read.front ∙ ap (λ more. spelled read.tokens ++ awaited more) ended ∙ append-nil (spelled read.tokens)

  begun : before_end words ≡ spelled read.tokens ++ []
  begun = whole ∙ sym (append-nil (spelled read.tokens))

  pub late_file : (c : Command) (e : UsageError)
      → HasLateFile (file_count k) (file_names reading.files) (after_end words) e → ¬ (IsCall k c words)
  late_file c e late call = late_refused k c words call read.tokens read.are whole e
      (subst (λ (files : List (List ℕ)). HasLateFile (file_count k) files (after_end words) e) read.files late)

  module _ (files : Files) (all : file_names files ≡ file_names reading.files ++ after_end words) where
    files_are : file_names files ≡ files_of read.tokens ++ after_end words
    files_are = all ∙ ap (λ early. early ++ after_end words) read.files

    given_is : given_to reading.given ≡ values_of read.tokens
    given_is = fun_ext read.given

    pub call_said : (c : Command) → Says (given_to reading.given) k c (file_names files) → IsCall k c words
    call_said c says =
        record {
          tokens = read.tokens;
          are = read.are;
          front = whole;
          once = λ n. subst (λ (vs : List (List ℕ)). length vs ≤ 1) (read.given n)
              (text_once (slice_index_or reading.given.texts (option_place n) None));
          own = read.own;
          says = subst (λ (given : OptionName → List (List ℕ)). Says given k c (files_of read.tokens ++ after_end words)) given_is
              (subst (λ (names : List (List ℕ)). Says (given_to reading.given) k c names) files_are says);
        }

    pub call_refused : ((c : Command) → ¬ (Says (given_to reading.given) k c (file_names files))) → (c : Command)
        → ¬ (IsCall k c words)
    call_refused none c call =
        let same = same_tokens k c words call read.tokens read.are whole in
        let says = subst (λ (tokens : List Token). Says (values_of tokens) k c (files_of tokens ++ after_end words)) same call.says in
        none c (subst (λ (names : List (List ℕ)). Says (given_to reading.given) k c names) (sym files_are)
        (subst (λ (given : OptionName → List (List ℕ)). Says given k c (files_of read.tokens ++ after_end words))
        (sym given_is) says))

    pub call_fault : (e : UsageError)
        → HasFileFault (file_count k) (file_names files) e ⊎ HasValueFault (given_to reading.given) e → HasFault k words e
    call_fault e (inl fault) = inr (
      read.tokens,
      record { are = read.are; front = begun },
      inr (inl
          (subst (λ (names : List (List ℕ)). HasFileFault (file_count k) names e) files_are fault)),
    )
    call_fault e (inr fault) = inr (
      read.tokens,
      record { are = read.are; front = begun },
      inr (inr
          (subst (λ (given : OptionName → List (List ℕ)). HasValueFault given e) given_is fault)),
    )

-- Classifies an argument, for proofs only: 1 if it requests help, 2 if it requests the version, 3
-- if it names the list of formats, and 0 otherwise.
abbrev rank : List ℕ → ℕ
rank text = cond (bytes_eq text (codes "help")) 1 (cond (bytes_eq text (codes "--help")) 1
    (cond (bytes_eq text (codes "-h")) 1 (cond (bytes_eq text (codes "version")) 2
    (cond (bytes_eq text (codes "--version")) 2 (cond (bytes_eq text (codes "-V")) 2
    (cond (bytes_eq text (codes "formats")) 3 0))))))

command_rank : (k : CommandName) → rank (command_text k) ≡ 0
command_rank k = eqb-true _ 0 (each_command (λ j. eqb (rank (command_text j)) 0) refl k)

help_rank : (word : List ℕ) → IsHelpWord word → rank word ≡ 1
help_rank word (inl is) = ap rank is
help_rank word (inr (inl is)) = ap rank is
help_rank word (inr (inr is)) = ap rank is

version_rank : (word : List ℕ) → IsVersionWord word → rank word ≡ 2
version_rank word (inl is) = ap rank is
version_rank word (inr (inl is)) = ap rank is
version_rank word (inr (inr is)) = ap rank is

no_help_word : (k : CommandName) (word : List ℕ) → word ≡ command_text k → IsHelpWord word → ⊥
no_help_word k word is help = omega (arith, sym (ap rank is ∙ command_rank k), help_rank word help)

no_version_word : (k : CommandName) (word : List ℕ) → word ≡ command_text k → IsVersionWord word → ⊥
no_version_word k word is version = omega (arith, sym (ap rank is ∙ command_rank k), version_rank word version)

help_no_version : (word : List ℕ) → IsHelpWord word → IsVersionWord word → ⊥
help_no_version word help version = omega (arith, sym (version_rank word version), help_rank word help)

first_of : (x y : List ℕ) (xs ys : List (List ℕ)) → x ∷ xs ≡ y ∷ ys → x ≡ y
first_of x y xs ys is = ap (λ (zs : List (List ℕ)). get_or zs 0 x) is

rest_of : (x y : List ℕ) (xs ys : List (List ℕ)) → x ∷ xs ≡ y ∷ ys → xs ≡ ys
rest_of x y xs ys is = search rules

-- Arguments that begin with the name of a command request only that command.
module _ (k : CommandName) (words rest : List (List ℕ)) (is : words ≡ command_text k ∷ rest) where
  named_call : (c : Command) (j : CommandName) (more : List (List ℕ)) → words ≡ command_text j ∷ more → IsCall j c more
      → IsCall k c rest
  named_call c j more named call =
      let both : command_text j ∷ more ≡ command_text k ∷ rest = sym named ∙ is in
      subst (λ (n : CommandName). IsCall n c rest) (one_command j k (first_of _ _ more rest both))
      (subst (IsCall j c) (rest_of _ _ more rest both) call)

  pub only_calls : ((c : Command) → ¬ (IsCall k c rest)) → (c : Command) → ¬ (IsWrittenAs words c)
  only_calls none (command.Help topic) written =
      no_help_word k written.0 (first_of _ _ written.1 rest (sym written.3 ∙ is)) written.2
  only_calls none command.Version written =
      no_version_word k written.0 (first_of _ _ [] rest (sym written.2 ∙ is)) written.1
  only_calls none (command.Call _) written =
      none _ (named_call _ written.name written.rest written.named written.call)

-- If the first argument requests help, the arguments request nothing else.
pub only_help : (word : List ℕ) (rest : List (List ℕ)) → ((k : CommandName) → word ≢ command_text k) → IsHelpWord word
    → ((topic : Topic) → ¬ (IsTopic topic rest)) → (c : Command) → ¬ (IsWrittenAs (word ∷ rest) c)
only_help word rest no_name help none (command.Help topic) written =
    none topic (subst (IsTopic topic) (sym (rest_of word written.0 rest written.1 written.3)) written.4)
only_help word rest no_name help none command.Version written =
    help_no_version word help (subst IsVersionWord (sym (first_of word written.0 rest [] written.2)) written.1)
only_help word rest no_name help none (command.Call _) written =
    no_name written.name (first_of word _ rest written.rest written.named)

-- The argument names no help topic.
pub no_topic : (word : List ℕ) → ((k : CommandName) → word ≢ command_text k) → word ≢ formats_word → ¬ (IsHelpWord word)
    → ¬ (IsVersionWord word) → (topic : Topic) → ¬ (NamesTopic topic word)
no_topic word no_name no_list no_help no_version about.Program (inl help) = no_help help
no_topic word no_name no_list no_help no_version about.Program (inr version) = no_version version
no_topic word no_name no_list no_help no_version (about.Command k) is = no_name k is
no_topic word no_name no_list no_help no_version about.Formats is = no_list is

-- A single argument that names no topic is no topic, and neither are two arguments.
pub one_word : (words : List (List ℕ)) (word : List ℕ) → words ≡ word ∷ [] → ((topic : Topic) → ¬ (NamesTopic topic word))
    → (topic : Topic) → ¬ (IsTopic topic words)
one_word words word is none topic (inl nothing) = search (rules, sym is ∙ nothing.0)
one_word words word is none topic (inr named) =
    none topic (subst (NamesTopic topic) (first_of named.0 word [] [] (sym named.1 ∙ is)) named.2)

pub two_words : (words rest : List (List ℕ)) (one two : List ℕ) → words ≡ one ∷ two ∷ rest → (topic : Topic)
    → ¬ (IsTopic topic words)
two_words words rest one two is topic (inl nothing) = search (rules, sym is ∙ nothing.0)
two_words words rest one two is topic (inr named) =
    search (rules, rest_of named.0 one [] (two ∷ rest) (sym named.1 ∙ is))
