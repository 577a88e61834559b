-- What a table's calls on its store enter in the trail.
use Rattle.std.specs.Prelude.{◌≡◌, ℕ, List, [], map, filter_map, All, Option, ⊤}
use Rattle.pool_model.specs.declared.call.Call.TheVariants as call
use Rattle.pool_model.specs.declared.event.Event.{Event}
use Rattle.pool_model.specs.declared.event.Event.TheVariants.{Ask, Alloc, Free, StartWrite, WriteOk, WriteFailed, Evict, Refused}
use Rattle.pool_model.specs.declared.entry.Entry.{Entry}
use Rattle.pool_model.specs.LookingBack.{content_from, name_in}
use Rattle.store_api.specs.Signs.{Entered}

-- a buffer is lent or comes back, or room is made for one, or the call for one is refused
abbrev pub IsOfLoans : Event → Type 0
IsOfLoans Ask = ⊤
IsOfLoans (Alloc f client blocks) = ⊤
IsOfLoans (Free f) = ⊤
IsOfLoans (StartWrite p) = ⊤
IsOfLoans (WriteOk p) = ⊤
IsOfLoans (WriteFailed p before after) = ⊤
IsOfLoans (Evict p) = ⊤
IsOfLoans (Refused (call.Alloc client blocks) entry) = ⊤
IsOfLoans _ = ⊥

-- where the trail is told, it grew by entries of loans alone
abbrev pub EnteredLoans : Option (List Entry) → Option (List Entry) → Type 0
EnteredLoans old new = Entered (λ entries. All IsOfLoans (map (λ e. e.event) entries)) old new

-- such entries leave each page's bytes as they are, and make no page
pub record LeavePages (entries : List Entry) : Type 0 where
  pub content : (p : ℕ) (bytes : List ℕ) → content_from p bytes entries ≡ bytes
  pub names : filter_map name_in (map (λ e. e.event) entries) ≡ []

abbrev pub LoansLeavePages : Type 0
LoansLeavePages = (entries : List Entry) → All IsOfLoans (map (λ e. e.event) entries) → LeavePages entries
