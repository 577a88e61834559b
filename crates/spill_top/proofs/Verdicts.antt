-- `clap` takes operands exactly where they are a command.
use Rattle.std.proofs.Common.{◌≡◌, ◌∙◌, ◌⊎◌, inl, inr, refl, sym, ap, ap₂, subst, Bool, true, false, List, [], ◌∷◌, Option, Some, None, codes}
use Rattle.std.specs.List.{list_all}
use Rattle.std.specs.Str.{bytes_eq}
use Rattle.std.proofs.lemmas.Slice.Eq.{bytes_eq-Decides}
use Rattle.clap.specs.Words.{Row, Text}
use Rattle.clap.specs.Simple.{App, is_simple, subcommand_of}
use Rattle.clap.specs.Kinds.{IsAmong, Kinds}
use Rattle.clap.specs.Faults.{fault_of, is_simple_and_free}
use Rattle.clap.specs.declared.error.kind.ErrorKind.TheVariants as kind
use Rattle.clap.specs.declared.error.kind.ErrorKind.{ErrorKind}
use Rattle.clap.proofs.WalkLemmas.{both}
use Rattle.spill_top.specs.Parsing.{check_from, count_from, request_met, run_from, spill_app}
use Rattle.spill_top.specs.Words.{is_operand, spelled}
use Rattle.spill_top.proofs.Walks.{Plain, check-blocks, check-enters, check-fault, check-first, check-four, check-groups, check-more, check-none, check-one, check-rows, check-start, check-three, check-two, count-column, count-enters, count-fault, count-file, count-more, count-none, count-one, count-two, no-command, no-words, plain_operand, spill-simple, spill-walks, run-enters, run-fault, run-more, run-none, run-one, run-plan}

pub data Verdict (words : List Text) : Type 0 where
  taken : fault_of spill_app words ≡ [] → request_met (subcommand_of spill_app words) ≡ spelled words → Verdict words
  refused : (k : ErrorKind) (ks : Kinds) → fault_of spill_app words ≡ k ∷ ks → spelled words ≡ None → Verdict words

-- the first of some operands, and the others
first : (word : Text) (rest : List Text) → list_all is_operand (word ∷ rest) ≡ true → Plain word
first word rest e = plain_operand word (both (is_operand word) (list_all is_operand rest) e).0

others : (word : Text) (rest : List Text) → list_all is_operand (word ∷ rest) ≡ true → list_all is_operand rest ≡ true
others word rest e = (both (is_operand word) (list_all is_operand rest) e).1

count-verdict : (rest : List Text) → list_all is_operand rest ≡ true → Verdict (codes "count" ∷ rest)
count-verdict [] e = refused _ _ (count-fault (codes "count") [] refl ∙ count-none) refl
count-verdict (a ∷ []) e = refused _ _ (count-fault (codes "count") (a ∷ []) refl ∙ count-one a (first a [] e)) refl
count-verdict (a ∷ b ∷ []) e =
    let p = first a (b ∷ []) e in
    let q = first b [] (others a (b ∷ []) e) in
    taken (count-fault (codes "count") (a ∷ b ∷ []) refl ∙ count-two a b p q)
    (ap request_met (count-enters (codes "count") (a ∷ b ∷ []) refl) ∙ ap₂ count_from (count-file a b p q) (count-column a b p q))
count-verdict (a ∷ b ∷ c ∷ rest) e =
    let more = others a (b ∷ c ∷ rest) e in
    let none : spelled (codes "count" ∷ a ∷ b ∷ c ∷ rest) ≡ None = none-long (codes "count") a b c rest refl in
    refused _ _ (count-fault (codes "count") (a ∷ b ∷ c ∷ rest) refl ∙ count-more a b c rest (first a (b ∷ c ∷ rest) e) (first b (c ∷ rest) more) (first c rest (others b (c ∷ rest) more))) none
  where
    none-long : (verb a b c : Text) (rest : List Text) → bytes_eq (codes "selfcheck") verb ≡ false → spelled (verb ∷ a ∷ b ∷ c ∷ rest) ≡ None
    none-long verb a b c [] no-check = refl
    none-long verb a b c (d ∷ []) no-check = rw no-check refl
    none-long verb a b c (d ∷ f ∷ rest) no-check = refl

run-verdict : (rest : List Text) → list_all is_operand rest ≡ true → Verdict (codes "run" ∷ rest)
run-verdict [] e = refused _ _ (run-fault (codes "run") [] refl refl ∙ run-none) refl
run-verdict (a ∷ []) e =
    let p = first a [] e in
    taken (run-fault (codes "run") (a ∷ []) refl refl ∙ run-one a p) (ap request_met (run-enters (codes "run") (a ∷ []) refl refl) ∙ ap run_from (run-plan a p))
run-verdict (a ∷ b ∷ rest) e =
    refused _ _ (run-fault (codes "run") (a ∷ b ∷ rest) refl refl ∙ run-more a b rest (first a (b ∷ rest) e) (first b rest (others a (b ∷ rest) e))) (none-long a b rest)
  where
    none-long : (a b : Text) (rest : List Text) → spelled (codes "run" ∷ a ∷ b ∷ rest) ≡ None
    none-long a b [] = refl
    none-long a b (c ∷ []) = refl
    none-long a b (c ∷ d ∷ []) = refl
    none-long a b (c ∷ d ∷ f ∷ rest) = refl

check-verdict : (rest : List Text) → list_all is_operand rest ≡ true → Verdict (codes "selfcheck" ∷ rest)
check-verdict [] e = refused _ _ (check-fault (codes "selfcheck") [] refl refl refl ∙ check-none) refl
check-verdict (a ∷ []) e = refused _ _ (check-fault (codes "selfcheck") (a ∷ []) refl refl refl ∙ check-one a (first a [] e)) refl
check-verdict (a ∷ b ∷ []) e =
    refused _ _ (check-fault (codes "selfcheck") (a ∷ b ∷ []) refl refl refl ∙ check-two a b (first a (b ∷ []) e) (first b [] (others a (b ∷ []) e))) refl
check-verdict (a ∷ b ∷ c ∷ []) e =
    let more = others a (b ∷ c ∷ []) e in
    refused _ _ (check-fault (codes "selfcheck") (a ∷ b ∷ c ∷ []) refl refl refl ∙ check-three a b c (first a (b ∷ c ∷ []) e) (first b (c ∷ []) more) (first c [] (others b (c ∷ []) more))) refl
check-verdict (a ∷ b ∷ c ∷ d ∷ []) e =
    let more = others a (b ∷ c ∷ d ∷ []) e in
    let more2 = others b (c ∷ d ∷ []) more in
    let p = first a (b ∷ c ∷ d ∷ []) e in
    let q = first b (c ∷ d ∷ []) more in
    let r = first c (d ∷ []) more2 in
    let t = first d [] (others c (d ∷ []) more2) in
    taken (check-fault (codes "selfcheck") (a ∷ b ∷ c ∷ d ∷ []) refl refl refl ∙ check-four a b c d p q r t)
    (ap request_met (check-enters (codes "selfcheck") (a ∷ b ∷ c ∷ d ∷ []) refl refl refl)
    ∙ (ap₂ (λ (x y : Option Text). check_from x y (check-first (codes "GROUPS") a b c d) (check-first (codes "BLOCKS") a b c d)) (check-start a b c d p q r t) (check-rows a b c d p q r t)
    ∙ ap₂ (λ (x y : Option Text). check_from (Some a) (Some b) x y) (check-groups a b c d p q r t) (check-blocks a b c d p q r t)))
check-verdict (a ∷ b ∷ c ∷ d ∷ f ∷ rest) e =
    let more = others a (b ∷ c ∷ d ∷ f ∷ rest) e in
    let more2 = others b (c ∷ d ∷ f ∷ rest) more in
    let more3 = others c (d ∷ f ∷ rest) more2 in
    refused _ _ (check-fault (codes "selfcheck") (a ∷ b ∷ c ∷ d ∷ f ∷ rest) refl refl refl
    ∙ check-more a b c d f rest (first a (b ∷ c ∷ d ∷ f ∷ rest) e) (first b (c ∷ d ∷ f ∷ rest) more) (first c (d ∷ f ∷ rest) more2) (first d (f ∷ rest) more3) (first f rest (others d (f ∷ rest) more3))) refl

-- no command begins with another word
none-other : (verb : Text) (rest : List Text) → bytes_eq (codes "count") verb ≡ false → bytes_eq (codes "run") verb ≡ false → bytes_eq (codes "selfcheck") verb ≡ false → spelled (verb ∷ rest) ≡ None
none-other verb [] a b d = refl
none-other verb (w ∷ []) a b d = rw b refl
none-other verb (w ∷ x ∷ []) a b d = rw a refl
none-other verb (w ∷ x ∷ y ∷ []) a b d = refl
none-other verb (w ∷ x ∷ y ∷ z ∷ []) a b d = rw d refl
none-other verb (w ∷ x ∷ y ∷ z ∷ v ∷ rest) a b d = refl

by-name : (name verb : Text) (rest : List Text) → bytes_eq name verb ≡ true → Verdict (name ∷ rest) → Verdict (verb ∷ rest)
by-name name verb rest is v = subst (λ (t : Text). Verdict (t ∷ rest)) ((bytes_eq-Decides name verb).0 is) v

pub verdict : (words : List Text) → list_all is_operand words ≡ true → Verdict words
verdict [] e = refused _ _ no-words refl
verdict (verb ∷ rest) e = by-count (bytes_eq (codes "count") verb) refl
  where
    by-check : (b : Bool) → bytes_eq (codes "selfcheck") verb ≡ b → bytes_eq (codes "count") verb ≡ false → bytes_eq (codes "run") verb ≡ false → Verdict (verb ∷ rest)
    by-check true is no-count no-run = by-name (codes "selfcheck") verb rest is (check-verdict rest (others verb rest e))
    by-check false is no-count no-run = refused _ _ (no-command verb rest (first verb rest e) no-count no-run is) (none-other verb rest no-count no-run is)

    by-run : (b : Bool) → bytes_eq (codes "run") verb ≡ b → bytes_eq (codes "count") verb ≡ false → Verdict (verb ∷ rest)
    by-run true is no-count = by-name (codes "run") verb rest is (run-verdict rest (others verb rest e))
    by-run false is no-count = by-check (bytes_eq (codes "selfcheck") verb) refl no-count is

    by-count : (b : Bool) → bytes_eq (codes "count") verb ≡ b → Verdict (verb ∷ rest)
    by-count true is = by-name (codes "count") verb rest is (count-verdict rest (others verb rest e))
    by-count false is = by-run (bytes_eq (codes "run") verb) refl is

-- where it takes them, what it met is the command
pub taken_request : (app : App) (words : List Text) (met : Option (Text × List Row)) → app ≡ spill_app → list_all is_operand words ≡ true
    → (is_simple_and_free app ≡ true → fault_of app words ≡ []) → (is_simple app ≡ true → met ≡ subcommand_of app words) → request_met met ≡ spelled words
taken_request app words met e operands passed found = go (verdict words operands)
  where
    is : met ≡ subcommand_of spill_app words
    is = subst (λ (a : App). is_simple a ≡ true → met ≡ subcommand_of a words) e found spill-walks

    none : fault_of spill_app words ≡ []
    none = subst (λ (a : App). is_simple_and_free a ≡ true → fault_of a words ≡ []) e passed spill-simple

    go : Verdict words → request_met met ≡ spelled words
    go (taken pass same) = ap request_met is ∙ same
    go (refused k ks some none-spelled) = let two : ◌≡◌ {A = Kinds} [] (k ∷ ks) = sym none ∙ some in cc two

-- where it refuses them, there is none
pub refused_request : (app : App) (words : List Text) (k : ErrorKind) → app ≡ spill_app → list_all is_operand words ≡ true
    → (is_simple_and_free app ≡ true → (k ≡ kind.OutOfMemory) ⊎ IsAmong k (fault_of app words)) → (k ≡ kind.OutOfMemory → ⊥) → None ≡ spelled words
refused_request app words k e operands fails other = go (verdict words operands)
  where
    why : (k ≡ kind.OutOfMemory) ⊎ IsAmong k (fault_of spill_app words)
    why = subst (λ (a : App). is_simple_and_free a ≡ true → (k ≡ kind.OutOfMemory) ⊎ IsAmong k (fault_of a words)) e fails spill-simple

    go : Verdict words → None ≡ spelled words
    go (taken pass same) = elim (subst (λ (ks : Kinds). (k ≡ kind.OutOfMemory) ⊎ IsAmong k ks) pass why) [
      | inl memory ↦ absurd (other memory)
      | inr among ↦ absurd among
    ]
    go (refused j js some none) = sym none
