-- A table stays one of its store while other things of the store change.
use Rattle.std.specs.Prelude.{◌≡◌, ◌≢◌, ℕ, List, All, Option, Some, IsSome}
use Rattle.store_api.specs.Holdings.{Holdings}
use Rattle.store_api.specs.Emitters.{OthersStay}
use Rattle.bucket_table.specs.Tables.{Lent, Table}
use Rattle.bucket_table.specs.Lending.{IsApart, IsTableOf, Lends, loans_of}

-- whatever another client changed
abbrev pub StaysBesideOthers : Type 0
StaysBesideOthers =
    (table : Table) (client : Option ℕ) (old new : Holdings) → OthersStay client old new → client ≢ Some table.client
    → IsTableOf table old → IsTableOf table new

-- whatever changed of its own client's pages, and of what that client has unused
abbrev pub StaysBesidePages : Type 0
StaysBesidePages =
    (table : Table) (old new : Holdings) → new.block_len ≡ old.block_len → new.loans ≡ old.loans → IsSome (new.clients table.client)
    → IsTableOf table old → IsTableOf table new

-- where other loans came
abbrev pub StaysBesideMore : Type 0
StaysBesideMore = (table : Table) (t : ℕ) (more : List Lent) (old new : Holdings) → Lends t more old new → IsTableOf table old → IsTableOf table new

-- where other loans went
abbrev pub StaysBesideFewer : Type 0
StaysBesideFewer =
    (table : Table) (t : ℕ) (gone : List Lent) (old new : Holdings) → Lends t gone new old → All (λ l. IsApart l.number gone) (loans_of table)
    → IsTableOf table old → IsTableOf table new
