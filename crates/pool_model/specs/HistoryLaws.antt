-- What histories keep as they grow. Statements alone.
use Rattle.std.specs.Prelude.{◌≡◌, ◌<◌, ℕ, suc, zero, ◌+◌, List, [], ◌∷◌, ◌++◌, length, Some, eqb, option_map}
use Rattle.std.specs.List.{IsDistinct, AllByRecursion}
use Rattle.std.specs.FinMap.{get}
use Rattle.pool_model.specs.declared.entry.Entry.{Entry}
use Rattle.pool_model.specs.State.{Opening, Page, Session, shown}
use Rattle.pool_model.specs.Owning.{IsClientOf}
use Rattle.pool_model.specs.LookingBack.{names_in, Made, maker_of}
use Rattle.pool_model.specs.Failures.{first_failure}
use Rattle.pool_model.specs.Legal.{run, Follow, state_after, IsLegal}

-- every front of a legal history is legal
abbrev pub LegalFronts : Type 0
LegalFronts = (o : Opening) (front more : List Entry) → IsLegal o (front ++ more) → IsLegal o front

-- a legal history grows by entries that may follow it
abbrev pub LegalGrows : Type 0
LegalGrows = (o : Opening) (h more : List Entry) → IsLegal o h → Follow h (state_after o h) more → IsLegal o (h ++ more)

-- and by no others
abbrev pub LegalGrowsSo : Type 0
LegalGrowsSo = (o : Opening) (h more : List Entry) → IsLegal o (h ++ more) → Follow h (state_after o h) more

-- the state after more entries is that of the state before them
abbrev pub StateRunsOn : Type 0
StateRunsOn = (o : Opening) (h more : List Entry) → state_after o (h ++ more) ≡ run (state_after o h) more

-- so many names, from this one on
abbrev pub names_from : ℕ → ℕ → List ℕ
names_from first zero = []
names_from first (suc n) = first ∷ names_from (suc first) n

-- the names of a history's pages: they count up from the first, none comes twice, and each is below the next one
pub record AreNew (o : Opening) (h : List Entry) : Type 0 where
  pub next : (state_after o h).next_name ≡ o.first_name + length (names_in h)
  pub ascend : names_in h ≡ names_from o.first_name (length (names_in h))
  pub distinct : IsDistinct eqb (names_in h)
  pub below : AllByRecursion (λ p. p < (state_after o h).next_name) (names_in h)

abbrev pub LegalNamesAreNew : Type 0
LegalNamesAreNew = (o : Opening) (h : List Entry) → IsLegal o h → AreNew o h

-- the count of entries is the history's length, as a u64 shows it
abbrev pub CountsEntries : Type 0
CountsEntries = (o : Opening) (h : List Entry) → (state_after o h).entries ≡ shown (length h)

-- for whom and how long a live page was made
abbrev pub made : Page → Made
made x = record { session = x.session; client = x.client; blocks = x.blocks }

-- a live page is for whom it was made, with the blocks that it was made with
abbrev pub LegalPagesAsMade : Type 0
LegalPagesAsMade = (o : Opening) (h : List Entry) → IsLegal o h → (p : ℕ) (x : Page) → get (state_after o h).pages p ≡ Some x → maker_of h p ≡ Some (made x)

-- a live page is for a live client of its session
abbrev pub LegalPagesAreOwned : Type 0
LegalPagesAreOwned = (o : Opening) (h : List Entry) → IsLegal o h → (p : ℕ) (x : Page) → get (state_after o h).pages p ≡ Some x → IsClientOf (state_after o h) x.session x.client

-- what a session keeps of failures is what the history tells
abbrev pub LegalKeepsFailures : Type 0
LegalKeepsFailures = (o : Opening) (h : List Entry) → IsLegal o h → (maker : ℕ) (x : Session) → get (state_after o h).sessions maker ≡ Some x
    → (c : ℕ) → get x.failures c ≡ option_map shown (first_failure h maker c)
