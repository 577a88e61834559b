-- What follows for one page where all stand at their places.
use Rattle.std.proofs.Common.{◌≡◌, ℕ, ◌<◌, true, false, List, [], length, get_or, Option, Some, None, refl, ap, sym, ◌∙◌, subst, inl, inr, arith}
use Rattle.std.specs.FinMap.{get}
use Rattle.std.specs.List.{slice_index_or}
use Rattle.std.proofs.lemmas.Bool.{false≢true, cases_Bool, cases_lt}
use Rattle.std.proofs.lemmas.List.{get_or_past}
use Rattle.index_list.specs.Listing.{list_with, stands_in}
use Rattle.index_list.proofs.Places.{stands-from_list}
use Rattle.client_lists.specs.declared.which.Which.{Which}
use Rattle.client_lists.specs.declared.which.Which.TheVariants.{Pinned, Dirty, Flying}
use Rattle.client_lists.specs.Clients.{Clients, IsOpen, IsWhole, place, nodes_of}
use Rattle.scratch_dev.specs.declared.quota.Quota.{Quota}
use Rattle.scratch_dev.specs.Pool.{quota_of}
use Rattle.page_table.specs.declared.entry.Entry.{Entry}
use Rattle.pool_model.specs.State.{State, Session, Page}
use Rattle.pool_model.specs.Owning.{IsClientOf}
use Rattle.pool_model.specs.Legal.{state_after}
use Rattle.pool_model.proofs.Failures.{legal_pages_are_owned}
use Rattle.pin_core.specs.declared.kept.Kept.{Kept}
use Rattle.pin_core.specs.declared.parts.Parts.{Parts}
use Rattle.pin_core.specs.StateOf.{page_of, pages_in, state_of}
use Rattle.pin_core.specs.Invariant.{HasHistory, IsQuota, IsKept}

-- a list's number is in range where a node stands on it
pub list_in : (t : Clients) (node c : ℕ) (which : Which) → list_with node t.pages.lists ≡ Some (place c which) → place c which < length t.pages.lists.lists
list_in t node c which on = (stands-from_list t.pages.lists node (place c which) on).0

pub client_in : (t : Clients) → IsWhole t → (node c : ℕ) (which : Which) → list_with node t.pages.lists ≡ Some (place c which) → c < length t.is_open
client_in t whole node c Pinned on = let lt = list_in t node c Pinned on in let n = whole.counted in omega (arith, lt, n)
client_in t whole node c Dirty on = let lt = list_in t node c Dirty on in let n = whole.counted in omega (arith, lt, n)
client_in t whole node c Flying on = let lt = list_in t node c Flying on in let n = whole.counted in omega (arith, lt, n)

-- a client with a page is open
pub client_open : (t : Clients) → IsWhole t → (node c : ℕ) (which : Which) → list_with node t.pages.lists ≡ Some (place c which) → IsOpen c t
client_open t whole node c which on = elim (cases_Bool (get_or t.is_open c false)) [
  | inl is ↦ is
  | inr not ↦
      let none : nodes_of c which t ≡ [] = whole.bare c which not in
      let some : stands_in node (nodes_of c which t) ≡ true = (stands-from_list t.pages.lists node (place c which) on).1 in
      absurd (false≢true (sym (ap (stands_in node) none) ∙ some))
]

-- the session of a live page is live
pub page_owned : (s : State) → HasHistory s → (p : ℕ) (x : Page) → get s.pages p ≡ Some x → IsClientOf s x.session x.client
page_owned s has p x is =
    let there : get (state_after has.opening has.history).pages p ≡ Some x = ap (λ (z : State). get z.pages p) (sym has.after) ∙ is in
    subst (λ (z : State). IsClientOf z x.session x.client) (sym has.after) (legal_pages_are_owned has.opening has.history has.legal p x there)

-- its quota is open
pub quota_open : (o : Option Session) (x : Session) (q : Option Quota) (lent : ℕ) → o ≡ Some x → IsQuota o q lent → (quota : Quota) × (q ≡ Some quota)
quota_open (Some y) x (Some quota) lent is tied = (quota, refl)
quota_open (Some y) x None lent is tied = absurd tied
quota_open None x q lent is tied = cc

pub index_in : {X : Type 0} (xs : List (Option X)) (i : ℕ) (x : X) → slice_index_or xs i None ≡ Some x → i < length xs
index_in xs i x is = elim (cases_lt i (length xs)) [
  | inl lt ↦ lt
  | inr le ↦ let none : None ≡ Some x = sym (get_or_past xs i None le) ∙ is in cc
]

module _ {D : Type 0} where
  pub record HasQuota (v : Parts D) (x : Entry (Kept D)) : Type 0 where
    pub session : Session
    pub seated : get (state_of v).sessions x.session ≡ Some session
    pub quota : Quota
    pub opened : quota_of v.slots x.session ≡ Some quota
    pub low : x.session < 240

  pub has_quota : (v : Parts D) → IsKept v → (p : ℕ) (x : Entry (Kept D)) → get (pages_in v.pages) p ≡ Some (page_of v.pages p x) → HasQuota v x
  has_quota v kept p x is =
      let owned : IsClientOf (state_of v) x.session x.client = page_owned (state_of v) kept.legal p (page_of v.pages p x) is in
      let found = quota_open (get (state_of v).sessions x.session) owned.session (quota_of v.slots x.session) _ owned.opened (kept.counted.quotas x.session) in
      let lt : x.session < length v.slots.quotas = index_in v.slots.quotas x.session found.0 found.1 in
      let sessions : length v.slots.quotas ≡ 240 = kept.sized.sessions in
      record { session = owned.session; seated = owned.opened; quota = found.0; opened = found.1; low = omega (arith, lt, sessions) }
