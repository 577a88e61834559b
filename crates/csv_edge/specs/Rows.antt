-- What the rows of a source will still give, and how that changes.
use Rattle.std.specs.Prelude.{◌≡◌, ◌≢◌, ◌≤◌, ◌<◌, ◌+◌, ◌-◌, ℕ, List, [], ◌∷◌, Option, Some, None, IsSome, IfSome, map, option_map, length, slice_get, Box, ⊤}
use Rattle.std.specs.declared.alloc.Global.{Global}
use Rattle.row_codec.specs.declared.values.Kind.{Kind}
use Rattle.row_codec.specs.declared.values.Kind.TheVariants as kind
use Rattle.row_codec.specs.declared.values.Value.{Value}
use Rattle.row_codec.specs.Row.{kinds_of}
use Rattle.csv_edge.specs.declared.refusal.InputErr.{InputErr}
use Rattle.csv_edge.specs.declared.refusal.InputErr.TheVariants as why
use Rattle.csv_edge.specs.declared.reading.RowsOver.{RowsOver}
use Rattle.csv_edge.specs.Typed.{Typed, nothing_more}
use Rattle.csv_edge.specs.Unread.{Unread, typed_left}

-- the rows of a source
abbrev pub Rows : Type 0 → Type 0
Rows S = RowsOver S (Option (Box Unread Global))

-- an input is being read: it was started, and has neither ended nor been refused since
abbrev pub IsOpen : {S : Type 0} → Rows S → Type 0
IsOpen rows = IsSome rows.left

-- the rows that an input still holds, if it is open and the bytes of its source are told
abbrev pub rest_if : Option (Box Unread Global) → Option (List ℕ) → Option Typed
rest_if None told = Some nothing_more
rest_if (Some unread) told = option_map (typed_left unread.value) told

-- the rows that are still to come, where the bytes of the source are told
abbrev pub rest_of : {S : Type 0} → (S → Option (List ℕ)) → Rows S → Option Typed
rest_of told rows = rest_if rows.left (told rows.src.now)

-- the kinds of the declared columns of an input, if it is open
abbrev pub kinds_if : Option (Box Unread Global) → List Kind
kinds_if None = []
kinds_if (Some unread) = map (λ column. column.kind) unread.value.columns

-- the kinds of the declared columns, in declared order
abbrev pub kinds_in : {S : Type 0} → Rows S → List Kind
kinds_in rows = kinds_if rows.left

-- how many more records an input may have, if it is open
abbrev pub records_allowed_if : Option (Box Unread Global) → ℕ
records_allowed_if None = 0
records_allowed_if (Some unread) = unread.value.most - unread.value.number

-- how many more records are allowed
abbrev pub records_allowed : {S : Type 0} → Rows S → ℕ
records_allowed rows = records_allowed_if rows.left

-- how many more bytes an input may have, if it is open
abbrev pub bytes_allowed_if : Option (Box Unread Global) → ℕ
bytes_allowed_if None = 0
bytes_allowed_if (Some unread) = unread.value.feed.taken.allowed

-- how many more bytes are allowed
abbrev pub bytes_allowed : {S : Type 0} → Rows S → ℕ
bytes_allowed rows = bytes_allowed_if rows.left

-- where the first is told the second is told too, and the first is `f` of the second
abbrev pub Becomes : {A B : Type 0} → (B → A) → Option A → Option B → Type 0
Becomes f None new = ⊤
Becomes f (Some old) None = ⊥
Becomes f (Some old) (Some new) = old ≡ f new

-- told bytes stay told, and as many of them were taken as of the bytes that are allowed
abbrev pub CountsBytes : ℕ → Option (List ℕ) → ℕ → Option (List ℕ) → Type 0
CountsBytes allowed None allowed_now now = ⊤
CountsBytes allowed (Some bytes) allowed_now None = ⊥
CountsBytes allowed (Some bytes) allowed_now (Some left) = allowed + length left ≡ allowed_now + length bytes

-- told bytes are more than are allowed
abbrev pub PassesLimit : ℕ → Option (List ℕ) → Type 0
PassesLimit allowed told = IfSome told (λ bytes. allowed < length bytes)

-- told bytes are no more than are allowed
abbrev pub FitsLimit : ℕ → Option (List ℕ) → Type 0
FitsLimit allowed told = IfSome told (λ bytes. length bytes ≤ allowed)

-- a refusal of a record, which is then the first that the input meets
abbrev pub IsOfRecord : InputErr → Type 0
IsOfRecord why.Fault = ⊥
IsOfRecord why.TooLarge = ⊥
IsOfRecord why.Header = ⊤
IsOfRecord (why.Csv number) = ⊤
IsOfRecord (why.Field number column) = ⊤
IsOfRecord why.Memory = ⊥

-- no column of sums is among these
abbrev pub HasNoSums : List Kind → Type 0
HasNoSums [] = ⊤
HasNoSums (k ∷ kinds) = (k ≢ kind.Wide) × HasNoSums kinds

-- the column whose field spells no value is one of ints, where no column of sums is declared
abbrev pub NamesInt : InputErr → List Kind → Type 0
NamesInt (why.Field number column) kinds = HasNoSums kinds → slice_get kinds column ≡ Some kind.Int
NamesInt why.Fault kinds = ⊤
NamesInt why.TooLarge kinds = ⊤
NamesInt why.Header kinds = ⊤
NamesInt (why.Csv number) kinds = ⊤
NamesInt why.Memory kinds = ⊤

-- nothing more will come
pub record HasEnded {S : Type 0} (told : S → Option (List ℕ)) (rows : Rows S) : Type 0 where
  pub closed : rows.left ≡ None
  pub rest : rest_of told rows ≡ Some nothing_more

-- a row has the kinds of the columns; behind it the input is open still, with the same columns, and one record less is allowed
pub record GoesOn {S : Type 0} (row : List Value) (old new : Rows S) : Type 0 where
  pub kinds : kinds_of row ≡ kinds_in old
  pub still : IsOpen new
  pub columns : kinds_in new ≡ kinds_in old
  pub falls : records_allowed old ≡ records_allowed new + 1
