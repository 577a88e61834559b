-- What a piece that comes back leaves, in its two cases: it becomes free, or its buffer is closed.
use Rattle.std.proofs.Common.{◌≡◌, ℕ, suc, ◌-◌, ◌/◌, ◌⊎◌, List, [], set, Option, None, Some, IsSome, refl, ap, sym, ◌∙◌, inl, inr, arith, append-nil}
use Rattle.std.proofs.lemmas.Bool.{cases_lt, false≢true}
use Rattle.index_list.specs.Listing.{Listing, pushed}
use Rattle.pool_model.specs.declared.event.Event.{Event}
use Rattle.pool_model.specs.declared.entry.Entry.{Entry}
use Rattle.store_api.specs.Refusing.{by}
use Rattle.store_api.specs.Signs.{Entered}
use Rattle.store_api.specs.Tokens.{LoanToken}
use Rattle.sub_alloc.specs.Pieces.{Division, IsLive, PieceToken, buffer, place_of, places}
use Rattle.sub_alloc.specs.Rules.{Joined, freed_by, returned, joined}
use Rattle.sub_alloc.specs.Tiling.{IsWhole}
use Rattle.sub_alloc.proofs.Whole.{placed_of}
use Rattle.sub_alloc.proofs.Took.{at as placed, back_free, back_whole, freed_none, freed_some, shut_open}

-- where nothing is freed, nothing is entered
pub none_entered : (maker : ℕ) (trail : Option (List Entry)) → Entered (λ (more : List Entry). (events : List Event) × (more ≡ by maker events) × (events ≡ [])) trail trail
none_entered maker None = refl
none_entered maker (Some entries) = ([], ap Some (sym (append-nil entries)), ([], refl, refl))

pub record BecomesFree (d : Division) (p : PieceToken) : Type 0 where
  pub lists : Listing
  pub marks : List ℕ
  pub division : returned p d ≡ record d { free = lists; live = marks }
  pub none : freed_by p d ≡ None

pub record ClosesBuffer (d : Division) (p : PieceToken) : Type 0 where
  pub slot : ℕ
  pub loan : LoanToken
  pub lists : Listing
  pub marks : List ℕ
  pub stands : buffer slot d ≡ Some loan
  pub division : returned p d ≡ record d { buffers = set d.buffers slot None; free = lists; live = marks }
  pub some : freed_by p d ≡ Some loan

find_loan : (o : Option LoanToken) → IsSome o → (loan : LoanToken) × (o ≡ Some loan)
find_loan None some = absurd (false≢true some)
find_loan (Some loan) some = (loan, refl)

pub return_cases : (d : Division) (p : PieceToken) → IsWhole d → IsLive p d → BecomesFree d p ⊎ ClosesBuffer d p
return_cases d p w is =
    let first = placed_of d p w is in
    let j : Joined = joined (d.classes - 1 - first.class) first.class (place_of d p) d.free in
    let here = placed d p w is j in
    let same : here.class ≡ first.class = omega (arith, here.mark, first.mark) in
    let e = ap (λ (k : ℕ). joined (d.classes - 1 - k) k (place_of d p) d.free) same in
    elim (cases_lt (suc j.class) d.classes) [
      | inl room ↦ inl (record {
        lists = pushed j.class j.place j.free;
        marks = set d.live (place_of d p) 0;
        division = back_free d p w is j e room;
        none = freed_none d p w is j e room;
      })
      | inr room ↦
          let found = find_loan (buffer (j.place / places d) d) (shut_open d p w is j e room) in
          inr (record {
            slot = j.place / places d;
            loan = found.0;
            lists = j.free;
            marks = set d.live (place_of d p) 0;
            stands = found.1;
            division = back_whole d p w is j e room;
            some = freed_some d p w is j e room ∙ found.1;
          })
    ]
