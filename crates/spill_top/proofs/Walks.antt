-- What `clap` makes of operands, as its own words say it.
use Rattle.std.proofs.Common.{◌≡◌, ◌∙◌, ◌==◌, refl, sym, ap, ap₂, not, Bool, true, false, ℕ, List, [], ◌∷◌, ◌++◌, Option, Some, None, codes, fold, append_assoc}
use Rattle.std.proofs.lemmas.List.{append-nil}
use Rattle.std.specs.Str.{bytes_eq}
use Rattle.clap.specs.Walk.{Held, Names, Rule, Step, Text, Walk, after_step, arg_by_index, finished, first_of, idle, long_or_other, nothing_held, rows_after, settled, short_or_plain, subcommand_met, subcommand_or_other, to_positional, trailing, value, walk, walk_from, walked, word_met}
use Rattle.clap.specs.Lexer.{long_of, short_of}
use Rattle.std.specs.Prelude.{if◌then◌else◌}
use Rattle.std.specs.Option.{option_map_or}
use Rattle.spill_top.specs.Words.{is_operand}
use Rattle.clap.specs.Simple.{App, Shape, built, built_leaf, inherited, is_simple, marked_built, names_of, new_app, on_top, subcommand_of}
use Rattle.clap.specs.Kinds.{Kinds, or_else}
use Rattle.clap.specs.Faults.{bundle_fault, check_fault, defaults_fault, fault_of, flag_word_fault, is_simple_and_free, level_fault, other_fault, settle_fault, step_fault, walk_fault, word_fault}
use Rattle.clap.specs.declared.error.kind.ErrorKind.{ErrorKind}
use Rattle.clap.specs.declared.error.kind.ErrorKind.TheVariants as kind
use Rattle.clap.proofs.OnLiterals.{clap_on_literals}
use Rattle.clap.proofs.FaultLemmas.{stopped_fault}
use Rattle.spill_top.specs.Parsing.{bare, count_app, run_app, self_check_app, spill_app}

abbrev pub spill-shape : Shape
spill-shape = (built spill_app).top

abbrev pub spill-names : Names
spill-names = names_of (built spill_app)

abbrev leaf-shape : App → Shape
leaf-shape leaf = built_leaf (inherited (on_top marked_built (bare (new_app (codes "spill")))).top leaf.top)

abbrev pub count-shape : Shape
count-shape = leaf-shape count_app

abbrev pub run-shape : Shape
run-shape = leaf-shape run_app

abbrev pub check-shape : Shape
check-shape = leaf-shape self_check_app

pub spill-simple : is_simple_and_free spill_app ≡ true
unfolding clap_on_literals
spill-simple = refl

pub spill-walks : is_simple spill_app ≡ true
unfolding clap_on_literals
spill-walks = refl

-- a walk that has stopped goes on to the end
stopped-walk : (c : List Rule) (names : Names) (w : Walk) (name : Text) (before rest : List Text)
    → fold (walked c names) (record w { stopped = Some (name, before) }) rest ≡ record w { stopped = Some (name, before ++ rest) }
unfolding walked
stopped-walk c names w name before [] = ap (λ (t : List Text). let v : Walk = record w { stopped = Some (name, t) } in v) (sym (append-nil before))
stopped-walk c names w name before (x ∷ rest) =
    stopped-walk c names w name (before ++ x ∷ []) rest ∙ ap (λ (t : List Text). let v : Walk = record w { stopped = Some (name, t) } in v) (append_assoc before (x ∷ []) rest)

or-none : (kinds : Kinds) → or_else kinds [] ≡ kinds
or-none [] = refl
or-none (k ∷ ks) = refl

pub no-words : fault_of spill_app [] ≡ kind.MissingSubcommand ∷ []
unfolding clap_on_literals
no-words = refl

-- a word that names the first command goes on as its words
pub count-fault : (verb : Text) (rest : List Text) → bytes_eq (codes "count") verb ≡ true → fault_of spill_app (verb ∷ rest) ≡ level_fault count-shape [] nothing_held rest false []
unfolding clap_on_literals
count-fault verb rest is =
    rw (is, stopped-walk [] spill-names (walk_from nothing_held) (codes "count") [] rest, stopped_fault spill-shape spill-names (walk_from nothing_held) (codes "count", []) rest) (or-none _)

-- the second command, where the first isn't named
pub run-fault : (verb : Text) (rest : List Text) → bytes_eq (codes "count") verb ≡ false → bytes_eq (codes "run") verb ≡ true
    → fault_of spill_app (verb ∷ rest) ≡ level_fault run-shape [] nothing_held rest false []
unfolding clap_on_literals
run-fault verb rest other is =
    rw (other, is, stopped-walk [] spill-names (walk_from nothing_held) (codes "run") [] rest, stopped_fault spill-shape spill-names (walk_from nothing_held) (codes "run", []) rest) (or-none _)

pub check-fault : (verb : Text) (rest : List Text) → bytes_eq (codes "count") verb ≡ false → bytes_eq (codes "run") verb ≡ false → bytes_eq (codes "selfcheck") verb ≡ true
    → fault_of spill_app (verb ∷ rest) ≡ level_fault check-shape [] nothing_held rest false []
unfolding clap_on_literals
check-fault verb rest other other2 is =
    rw (other, other2, is, stopped-walk [] spill-names (walk_from nothing_held) (codes "selfcheck") [] rest, stopped_fault spill-shape spill-names (walk_from nothing_held) (codes "selfcheck", []) rest) (or-none _)

-- the matches of the command that is named
pub count-enters : (verb : Text) (rest : List Text) → bytes_eq (codes "count") verb ≡ true → subcommand_of spill_app (verb ∷ rest) ≡ Some (codes "count", rows_after count-shape.rules [] rest)
unfolding clap_on_literals
count-enters verb rest is = rw (is, stopped-walk [] spill-names (walk_from nothing_held) (codes "count") [] rest) refl

pub run-enters : (verb : Text) (rest : List Text) → bytes_eq (codes "count") verb ≡ false → bytes_eq (codes "run") verb ≡ true
    → subcommand_of spill_app (verb ∷ rest) ≡ Some (codes "run", rows_after run-shape.rules [] rest)
unfolding clap_on_literals
run-enters verb rest other is = rw (other, is, stopped-walk [] spill-names (walk_from nothing_held) (codes "run") [] rest) refl

pub check-enters : (verb : Text) (rest : List Text) → bytes_eq (codes "count") verb ≡ false → bytes_eq (codes "run") verb ≡ false → bytes_eq (codes "selfcheck") verb ≡ true
    → subcommand_of spill_app (verb ∷ rest) ≡ Some (codes "selfcheck", rows_after check-shape.rules [] rest)
unfolding clap_on_literals
check-enters verb rest other other2 is = rw (other, other2, is, stopped-walk [] spill-names (walk_from nothing_held) (codes "selfcheck") [] rest) refl

-- between two operands
abbrev at : Held → ℕ → Walk
at h position = record { held = h; waiting = idle; position = position; is_trailing = false; stopped = None }

-- an operand goes to the positional
abbrev goes : List Rule → Held → ℕ → Text → Walk
goes c h position word = to_positional c (arg_by_index c position) word (at h position) h

-- a word that looks like no flag
abbrev pub Plain : Text → Type 0
Plain word = (bytes_eq word (45 ∷ 45 ∷ []) ≡ false) × (long_of word ≡ None) × (short_of word ≡ None)

pub plain_operand : (word : Text) → is_operand word ≡ true → Plain word
plain_operand [] e = cc e
plain_operand (a ∷ x) e = go (a == 45) refl e
  where
    go : (b : Bool) → (a == 45) ≡ b → not b ≡ true → Plain (a ∷ x)
    go true is e = cc e
    go false is e = (rw is refl, rw is refl, rw is refl)

-- between words it goes to a positional
word-is : (c : List Rule) (h : Held) (position : ℕ) (word : Text) → Plain word → ◌≡◌ {A = Held × Step} (word_met c [] false idle position word h) (h, value)
word-is c h position word plain =
    ap (λ (t : Bool). if t then (h, trailing position) else long_or_other c idle word (long_of word) h) plain.0
    ∙ (ap (λ (o : Option (Text × Option Text)). long_or_other c idle word o h) plain.1 ∙ ap (λ (o : Option Text). short_or_plain c idle word o h) plain.2)

no-word-fault : (s : Shape) (word : Text) (h : Held) → Plain word → word_fault s [] false idle word h ≡ []
no-word-fault s word h plain =
    ap (λ (t : Bool). if t then [] else flag_word_fault s.rules s.args_override_self (long_of word) word h) plain.0
    ∙ (ap (λ (o : Option (Text × Option Text)). flag_word_fault s.rules s.args_override_self o word h) plain.1
    ∙ ap (λ (o : Option Text). option_map_or (λ flags. bundle_fault s.rules s.args_override_self flags h) o []) plain.2)

walk-step : (c : List Rule) (h : Held) (position : ℕ) (word : Text) → Plain word → walked c [] (at h position) word ≡ goes c h position word
unfolding walked
walk-step c h position word plain = ap (λ (m : Held × Step). after_step c word (at h position) m.0 m.1) (word-is c h position word plain)

fault-step : (s : Shape) (h : Held) (position : ℕ) (word : Text) (rest : List Text) → Plain word
    → walk_fault s [] (at h position) (word ∷ rest) ≡ or_else (step_fault s position h value) (walk_fault s [] (goes s.rules h position word) rest)
unfolding walk_fault
fault-step s h position word rest plain =
    ap₂ or_else
    (ap₂ (λ (k : Kinds) (m : Held × Step). or_else k (step_fault s position m.0 m.1)) (no-word-fault s word h plain) (word-is s.rules h position word plain))
    (ap (λ (w : Walk). walk_fault s [] w rest) (walk-step s.rules h position word plain))

-- what is left of a level's kinds behind a walk that passed
abbrev after-walk : Shape → Held → Kinds
after-walk s end = or_else (settle_fault s.rules s.args_override_self end) (or_else (defaults_fault (settled s.rules end).rows s.rules) (check_fault s (finished s.rules end) false))

level-passed : (s : Shape) (words : List Text) (end : Walk) → walk_fault s [] (at nothing_held 1) words ≡ [] → walk s.rules [] nothing_held words ≡ end
    → level_fault s [] nothing_held words false [] ≡ after-walk s end.held
level-passed s words end passed ends = rw (passed, ends) refl

level-failed : (s : Shape) (words : List Text) (k : ErrorKind) (ks : Kinds) → walk_fault s [] (at nothing_held 1) words ≡ k ∷ ks
    → level_fault s [] nothing_held words false [] ≡ k ∷ ks
level-failed s words k ks failed = rw failed refl

-- `count`: behind one word and two
abbrev count-1 : Text → Held
count-1 file = (goes count-shape.rules nothing_held 1 file).held

abbrev count-2 : Text → Text → Held
count-2 file column = (goes count-shape.rules (count-1 file) 2 column).held

count-faults : (file column : Text) (rest : List Text) → Plain file → Plain column
    → walk_fault count-shape [] (at nothing_held 1) (file ∷ column ∷ rest) ≡ walk_fault count-shape [] (at (count-2 file column) 3) rest
count-faults file column rest plain plain2 = fault-step count-shape nothing_held 1 file (column ∷ rest) plain ∙ fault-step count-shape (count-1 file) 2 column rest plain2

count-walk : (file column : Text) → Plain file → Plain column → walk count-shape.rules [] nothing_held (file ∷ column ∷ []) ≡ at (count-2 file column) 3
count-walk file column plain plain2 =
    ap (λ (w : Walk). walked count-shape.rules [] w column) (walk-step count-shape.rules nothing_held 1 file plain) ∙ walk-step count-shape.rules (count-1 file) 2 column plain2

pub count-two : (file column : Text) → Plain file → Plain column → level_fault count-shape [] nothing_held (file ∷ column ∷ []) false [] ≡ []
unfolding clap_on_literals
count-two file column plain plain2 =
    level-passed count-shape (file ∷ column ∷ []) (at (count-2 file column) 3) (count-faults file column [] plain plain2) (count-walk file column plain plain2)

pub count-none : level_fault count-shape [] nothing_held [] false [] ≡ kind.MissingRequiredArgument ∷ []
unfolding clap_on_literals
count-none = refl

pub count-one : (file : Text) → Plain file → level_fault count-shape [] nothing_held (file ∷ []) false [] ≡ kind.MissingRequiredArgument ∷ []
unfolding clap_on_literals
count-one file plain =
    level-passed count-shape (file ∷ []) (at (count-1 file) 2) (fault-step count-shape nothing_held 1 file [] plain) (walk-step count-shape.rules nothing_held 1 file plain)

pub count-more : (file column word : Text) (rest : List Text) → Plain file → Plain column → Plain word
    → level_fault count-shape [] nothing_held (file ∷ column ∷ word ∷ rest) false [] ≡ kind.UnknownArgument ∷ []
count-more file column word rest plain plain2 plain3 =
    level-failed count-shape (file ∷ column ∷ word ∷ rest) kind.UnknownArgument [] (count-faults file column (word ∷ rest) plain plain2 ∙ fault-step count-shape (count-2 file column) 3 word rest plain3)

pub count-file : (file column : Text) → Plain file → Plain column → first_of (codes "FILE") (rows_after count-shape.rules [] (file ∷ column ∷ [])) ≡ Some file
count-file file column plain plain2 = ap (λ (w : Walk). first_of (codes "FILE") (finished count-shape.rules w.held)) (count-walk file column plain plain2)

pub count-column : (file column : Text) → Plain file → Plain column → first_of (codes "COLUMN") (rows_after count-shape.rules [] (file ∷ column ∷ [])) ≡ Some column
count-column file column plain plain2 = ap (λ (w : Walk). first_of (codes "COLUMN") (finished count-shape.rules w.held)) (count-walk file column plain plain2)

-- `run`
abbrev run-1 : Text → Held
run-1 plan = (goes run-shape.rules nothing_held 1 plan).held

pub run-none : level_fault run-shape [] nothing_held [] false [] ≡ kind.MissingRequiredArgument ∷ []
unfolding clap_on_literals
run-none = refl

pub run-one : (plan : Text) → Plain plan → level_fault run-shape [] nothing_held (plan ∷ []) false [] ≡ []
unfolding clap_on_literals
run-one plan plain =
    level-passed run-shape (plan ∷ []) (at (run-1 plan) 2) (fault-step run-shape nothing_held 1 plan [] plain) (walk-step run-shape.rules nothing_held 1 plan plain)

pub run-more : (plan word : Text) (rest : List Text) → Plain plan → Plain word → level_fault run-shape [] nothing_held (plan ∷ word ∷ rest) false [] ≡ kind.UnknownArgument ∷ []
run-more plan word rest plain plain2 =
    level-failed run-shape (plan ∷ word ∷ rest) kind.UnknownArgument [] (fault-step run-shape nothing_held 1 plan (word ∷ rest) plain ∙ fault-step run-shape (run-1 plan) 2 word rest plain2)

pub run-plan : (plan : Text) → Plain plan → first_of (codes "PLAN") (rows_after run-shape.rules [] (plan ∷ [])) ≡ Some plan
run-plan plan plain = ap (λ (w : Walk). first_of (codes "PLAN") (finished run-shape.rules w.held)) (walk-step run-shape.rules nothing_held 1 plan plain)

-- `selfcheck`
abbrev check-1 : Text → Held
check-1 start = (goes check-shape.rules nothing_held 1 start).held

abbrev check-2 : Text → Text → Held
check-2 start rows = (goes check-shape.rules (check-1 start) 2 rows).held

abbrev check-3 : Text → Text → Text → Held
check-3 start rows groups = (goes check-shape.rules (check-2 start rows) 3 groups).held

abbrev check-4 : Text → Text → Text → Text → Held
check-4 start rows groups blocks = (goes check-shape.rules (check-3 start rows groups) 4 blocks).held

check-walk-2 : (start rows : Text) → Plain start → Plain rows → walk check-shape.rules [] nothing_held (start ∷ rows ∷ []) ≡ at (check-2 start rows) 3
check-walk-2 start rows p q =
    ap (λ (w : Walk). walked check-shape.rules [] w rows) (walk-step check-shape.rules nothing_held 1 start p) ∙ walk-step check-shape.rules (check-1 start) 2 rows q

check-walk-3 : (start rows groups : Text) → Plain start → Plain rows → Plain groups → walk check-shape.rules [] nothing_held (start ∷ rows ∷ groups ∷ []) ≡ at (check-3 start rows groups) 4
check-walk-3 start rows groups p q r =
    ap (λ (w : Walk). walked check-shape.rules [] w groups) (check-walk-2 start rows p q) ∙ walk-step check-shape.rules (check-2 start rows) 3 groups r

check-walk-4 : (start rows groups blocks : Text) → Plain start → Plain rows → Plain groups → Plain blocks
    → walk check-shape.rules [] nothing_held (start ∷ rows ∷ groups ∷ blocks ∷ []) ≡ at (check-4 start rows groups blocks) 5
check-walk-4 start rows groups blocks p q r t =
    ap (λ (w : Walk). walked check-shape.rules [] w blocks) (check-walk-3 start rows groups p q r) ∙ walk-step check-shape.rules (check-3 start rows groups) 4 blocks t

check-faults-2 : (start rows : Text) (rest : List Text) → Plain start → Plain rows → walk_fault check-shape [] (at nothing_held 1) (start ∷ rows ∷ rest) ≡ walk_fault check-shape [] (at (check-2 start rows) 3) rest
check-faults-2 start rows rest p q = fault-step check-shape nothing_held 1 start (rows ∷ rest) p ∙ fault-step check-shape (check-1 start) 2 rows rest q

check-faults-4 : (start rows groups blocks : Text) (rest : List Text) → Plain start → Plain rows → Plain groups → Plain blocks
    → walk_fault check-shape [] (at nothing_held 1) (start ∷ rows ∷ groups ∷ blocks ∷ rest) ≡ walk_fault check-shape [] (at (check-4 start rows groups blocks) 5) rest
check-faults-4 start rows groups blocks rest p q r t =
    check-faults-2 start rows (groups ∷ blocks ∷ rest) p q
    ∙ (fault-step check-shape (check-2 start rows) 3 groups (blocks ∷ rest) r ∙ fault-step check-shape (check-3 start rows groups) 4 blocks rest t)

pub check-none : level_fault check-shape [] nothing_held [] false [] ≡ kind.MissingRequiredArgument ∷ []
unfolding clap_on_literals
check-none = refl

pub check-one : (start : Text) → Plain start → level_fault check-shape [] nothing_held (start ∷ []) false [] ≡ kind.MissingRequiredArgument ∷ []
unfolding clap_on_literals
check-one start p =
    level-passed check-shape (start ∷ []) (at (check-1 start) 2) (fault-step check-shape nothing_held 1 start [] p) (walk-step check-shape.rules nothing_held 1 start p)

pub check-two : (start rows : Text) → Plain start → Plain rows → level_fault check-shape [] nothing_held (start ∷ rows ∷ []) false [] ≡ kind.MissingRequiredArgument ∷ []
unfolding clap_on_literals
check-two start rows p q =
    level-passed check-shape (start ∷ rows ∷ []) (at (check-2 start rows) 3) (check-faults-2 start rows [] p q) (check-walk-2 start rows p q)

pub check-three : (start rows groups : Text) → Plain start → Plain rows → Plain groups → level_fault check-shape [] nothing_held (start ∷ rows ∷ groups ∷ []) false [] ≡ kind.MissingRequiredArgument ∷ []
unfolding clap_on_literals
check-three start rows groups p q r =
    level-passed check-shape (start ∷ rows ∷ groups ∷ []) (at (check-3 start rows groups) 4)
    (check-faults-2 start rows (groups ∷ []) p q ∙ fault-step check-shape (check-2 start rows) 3 groups [] r) (check-walk-3 start rows groups p q r)

pub check-four : (start rows groups blocks : Text) → Plain start → Plain rows → Plain groups → Plain blocks
    → level_fault check-shape [] nothing_held (start ∷ rows ∷ groups ∷ blocks ∷ []) false [] ≡ []
unfolding clap_on_literals
check-four start rows groups blocks p q r t =
    level-passed check-shape (start ∷ rows ∷ groups ∷ blocks ∷ []) (at (check-4 start rows groups blocks) 5)
    (check-faults-4 start rows groups blocks [] p q r t) (check-walk-4 start rows groups blocks p q r t)

pub check-more : (start rows groups blocks word : Text) (rest : List Text) → Plain start → Plain rows → Plain groups → Plain blocks → Plain word
    → level_fault check-shape [] nothing_held (start ∷ rows ∷ groups ∷ blocks ∷ word ∷ rest) false [] ≡ kind.UnknownArgument ∷ []
check-more start rows groups blocks word rest p q r t v =
    level-failed check-shape (start ∷ rows ∷ groups ∷ blocks ∷ word ∷ rest) kind.UnknownArgument []
    (check-faults-4 start rows groups blocks (word ∷ rest) p q r t ∙ fault-step check-shape (check-4 start rows groups blocks) 5 word rest v)

abbrev pub check-first : Text → Text → Text → Text → Text → Option Text
check-first id start rows groups blocks = first_of id (rows_after check-shape.rules [] (start ∷ rows ∷ groups ∷ blocks ∷ []))

pub check-start : (start rows groups blocks : Text) → Plain start → Plain rows → Plain groups → Plain blocks → check-first (codes "START") start rows groups blocks ≡ Some start
check-start start rows groups blocks p q r t = ap (λ (w : Walk). first_of (codes "START") (finished check-shape.rules w.held)) (check-walk-4 start rows groups blocks p q r t)

pub check-rows : (start rows groups blocks : Text) → Plain start → Plain rows → Plain groups → Plain blocks → check-first (codes "ROWS") start rows groups blocks ≡ Some rows
check-rows start rows groups blocks p q r t = ap (λ (w : Walk). first_of (codes "ROWS") (finished check-shape.rules w.held)) (check-walk-4 start rows groups blocks p q r t)

pub check-groups : (start rows groups blocks : Text) → Plain start → Plain rows → Plain groups → Plain blocks → check-first (codes "GROUPS") start rows groups blocks ≡ Some groups
check-groups start rows groups blocks p q r t = ap (λ (w : Walk). first_of (codes "GROUPS") (finished check-shape.rules w.held)) (check-walk-4 start rows groups blocks p q r t)

pub check-blocks : (start rows groups blocks : Text) → Plain start → Plain rows → Plain groups → Plain blocks → check-first (codes "BLOCKS") start rows groups blocks ≡ Some blocks
check-blocks start rows groups blocks p q r t = ap (λ (w : Walk). first_of (codes "BLOCKS") (finished check-shape.rules w.held)) (check-walk-4 start rows groups blocks p q r t)

unnamed : (verb : Text) → bytes_eq (codes "count") verb ≡ false → bytes_eq (codes "run") verb ≡ false → bytes_eq (codes "selfcheck") verb ≡ false → subcommand_met spill-names idle verb ≡ None
unnamed verb a b d = rw (a, b, d) refl

failed-first : (a b : Kinds) (k : ErrorKind) (ks : Kinds) → a ≡ k ∷ ks → or_else a b ≡ k ∷ ks
failed-first a b k ks e = rw e refl

-- a first word that names no command
pub no-command : (verb : Text) (rest : List Text) → Plain verb → bytes_eq (codes "count") verb ≡ false → bytes_eq (codes "run") verb ≡ false → bytes_eq (codes "selfcheck") verb ≡ false
    → fault_of spill_app (verb ∷ rest) ≡ kind.UnknownArgument ∷ kind.InvalidSubcommand ∷ []
unfolding walk_fault
no-command verb rest plain a b d =
    let word = ap (λ (o : Option Text). subcommand_or_other [] o idle 1 verb nothing_held) (unnamed verb a b d) ∙ word-is [] nothing_held 1 verb plain in
    let fault = ap (λ (o : Option Text). other_fault spill-shape o verb nothing_held) (unnamed verb a b d) ∙ no-word-fault spill-shape verb nothing_held plain in
    let turn = ap₂ (λ (k : Kinds) (m : Held × Step). or_else k (step_fault spill-shape 1 m.0 m.1)) fault word in
    failed-first (walk_fault spill-shape spill-names (walk_from nothing_held) (verb ∷ rest)) _ kind.UnknownArgument (kind.InvalidSubcommand ∷ [])
    (ap (λ (k : Kinds). or_else k (walk_fault spill-shape spill-names (walked [] spill-names (walk_from nothing_held) verb) rest)) turn)
