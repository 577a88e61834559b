-- What the words of a command ask for, without the program's name.
use Rattle.std.specs.Prelude.{◌&&◌, ◌==◌, not, ℕ, Bool, false, List, [], ◌∷◌, Option, Some, None, codes, if◌then◌else◌, nat_le}
use Rattle.std.specs.List.{list_all}
use Rattle.std.specs.Str.{bytes_eq}
use Rattle.csv_edge.specs.Ints.{number_of}
use Rattle.spill_top.specs.declared.words.Check.{Check}

-- count the texts of a column of a file
pub record Command : Type 0 where
  pub file : List ℕ
  pub column : List ℕ

-- what words may ask for: a count, the queries of a plan's file, or a check of the program
pub data Request : Type 0 where
  Count : Command → Request
  Run : List ℕ → Request
  SelfCheck : Check → Request

-- a word that is not empty and does not begin with a hyphen
abbrev pub is_operand : List ℕ → Bool
is_operand [] = false
is_operand (first ∷ rest) = not (first == 45)

-- whether a word begins with a zero and has more behind it
abbrev pub has_leading_zero : List ℕ → Bool
has_leading_zero [] = false
has_leading_zero (digit ∷ []) = false
has_leading_zero (digit ∷ next ∷ rest) = digit == 48

-- a number, if it lies between these two
abbrev pub between : ℕ → ℕ → Option ℕ → Option ℕ
between least most None = None
between least most (Some number) = if nat_le least number && nat_le number most then Some number else None

-- the number that a word spells in decimal digits without a leading zero, if it lies between these two
abbrev pub number_in : ℕ → ℕ → List ℕ → Option ℕ
number_in least most word = if has_leading_zero word then None else between least most (number_of word)

-- a check of the program, if all its numbers are there
abbrev pub self_checking : Option ℕ → Option ℕ → Option ℕ → Option ℕ → Option Request
self_checking (Some start) (Some rows) (Some groups) (Some blocks) = Some (SelfCheck (record { start = start; rows = rows; groups = groups; blocks = blocks }))
self_checking start rows groups blocks = None

-- `selfcheck START ROWS GROUPS BLOCKS`, of the words behind the first one
abbrev pub self_check_of : List ℕ → List ℕ → List ℕ → List ℕ → Option Request
self_check_of start rows groups blocks = self_checking (number_in 0 2147483647 start) (number_in 0 2147483647 rows) (number_in 1 2147483647 groups) (number_in 1 262144 blocks)

-- `run PLAN`, `count FILE COLUMN` or `selfcheck START ROWS GROUPS BLOCKS`
abbrev pub spelled : List (List ℕ) → Option Request
spelled [] = None
spelled (verb ∷ []) = None
spelled (verb ∷ plan ∷ []) = if bytes_eq (codes "run") verb then Some (Run plan) else None
spelled (verb ∷ file ∷ column ∷ []) = if bytes_eq (codes "count") verb then Some (Count (record { file = file; column = column })) else None
spelled (verb ∷ start ∷ rows ∷ groups ∷ []) = None
spelled (verb ∷ start ∷ rows ∷ groups ∷ blocks ∷ []) = if bytes_eq (codes "selfcheck") verb then self_check_of start rows groups blocks else None
spelled (verb ∷ start ∷ rows ∷ groups ∷ blocks ∷ word ∷ rest) = None

-- what words ask for, if they are a command
abbrev pub request_of : List (List ℕ) → Option Request
request_of words = if list_all is_operand words then spelled words else None

-- the count that is asked for, if it is one
abbrev pub count_asked : Option Request → Option Command
count_asked None = None
count_asked (Some (Count command)) = Some command
count_asked (Some (Run plan)) = None
count_asked (Some (SelfCheck check)) = None

-- the count that words ask for, if they ask for one
abbrev pub command_of : List (List ℕ) → Option Command
command_of words = count_asked (request_of words)

-- the plan's file that is asked for, if it is a run
abbrev pub plan_asked : Option Request → Option (List ℕ)
plan_asked None = None
plan_asked (Some (Count command)) = None
plan_asked (Some (Run plan)) = Some plan
plan_asked (Some (SelfCheck check)) = None

-- the plan's file that words ask for, if they ask for a run
abbrev pub plan_file_of : List (List ℕ) → Option (List ℕ)
plan_file_of words = plan_asked (request_of words)

-- the check that is asked for, if it is one
abbrev pub check_asked : Option Request → Option Check
check_asked None = None
check_asked (Some (Count command)) = None
check_asked (Some (Run plan)) = None
check_asked (Some (SelfCheck check)) = Some check

-- the check that words ask for, if they ask for one
abbrev pub check_of : List (List ℕ) → Option Check
check_of words = check_asked (request_of words)
