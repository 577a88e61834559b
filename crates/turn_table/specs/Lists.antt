-- Words on lists, for the rule and for what a seat knows. Each list of entries runs from the oldest to the newest.
-- An author is the number of a seat.
use Rattle.std.specs.Prelude.{ℕ, ◌+◌, ◌<◌, List, [], ◌∷◌, map, length, cond, ◌==◌, nat_lt, Option, None, Some}

-- the sum of a number of each
abbrev pub total : {A : Type 0} → (A → ℕ) → List A → ℕ
total f [] = 0
total f (x ∷ xs) = f x + total f xs

-- 1 where two numbers are the same, else 0
abbrev pub same : ℕ → ℕ → ℕ
same a b = cond (a == b) 1 0

-- how often a right stands in a list of rights
abbrev pub times : ℕ → List ℕ → ℕ
times right rights = total (same right) rights

-- how often entries need a right
abbrev pub needed : {E : Type 0} → (E → List ℕ) → ℕ → List E → ℕ
needed needs right log = total (λ e. times right (needs e)) log

-- the rights but for the first that is this one
abbrev pub without : ℕ → List ℕ → List ℕ
without right [] = []
without right (r ∷ rs) = cond (right == r) rs (r ∷ without right rs)

-- what is left of the rights where this one, if any, is handed out
abbrev pub left_of : Option ℕ → List ℕ → List ℕ
left_of None rights = rights
left_of (Some right) rights = without right rights

-- the rights that are handed out
abbrev pub handed : Option ℕ → List ℕ
handed None = []
handed (Some right) = right ∷ []

-- the right, if any, stands among the rights
abbrev pub IsAmong : Option ℕ → List ℕ → Type 0
IsAmong None rights = Unit {0}
IsAmong (Some right) rights = 0 < times right rights

-- the longer of two lists, the first where they are as long
abbrev pub longer : {A : Type 0} → List A → List A → List A
longer xs ys = cond (nat_lt (length xs) (length ys)) ys xs

-- the other of the two
abbrev pub shorter : {A : Type 0} → List A → List A → List A
shorter xs ys = cond (nat_lt (length xs) (length ys)) xs ys

-- entries beside their authors, and the entries alone
abbrev pub entries : {E : Type 0} → List (ℕ × E) → List E
entries written = map (λ w. w.1) written

-- those of one author
abbrev pub by : {E : Type 0} → ℕ → List (ℕ × E) → List E
by author [] = []
by author (w ∷ ws) = cond (author == w.0) (w.1 ∷ by author ws) (by author ws)

-- entries of one author, each beside it
abbrev pub tagged : {E : Type 0} → ℕ → List E → List (ℕ × E)
tagged author log = map (λ e. (author, e)) log
