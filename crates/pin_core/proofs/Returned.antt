-- The slots of a page that goes are free for its session.
use Rattle.std.proofs.Common.{◌≡◌, ℕ, ◌+◌, ◌-◌, ◌<◌, ◌≤◌, ◌==◌, true, length, Option, Some, None, IsSome, refl, ap, sym, ◌∙◌, subst, inl, inr, arith}
use Rattle.std.specs.FinMap.{get, remove}
use Rattle.std.specs.List.{sum_by}
use Rattle.std.proofs.lemmas.Bool.{false≢true}
use Rattle.std.proofs.lemmas.List.{get_or-set_same, get_or-set_other, length-append, length-set}
use Rattle.std.proofs.lemmas.List.Sums.{sum_by-append}
use Rattle.page_table.specs.declared.entry.Place.{Place as Spot}
use Rattle.page_table.specs.declared.entry.Entry.{Entry}
use Rattle.scratch_dev.specs.declared.quota.Quota.{Quota}
use Rattle.scratch_dev.specs.Pool.{Scratch, quota_of, free_of, free_in, lent_of, lent_in}
use Rattle.reservation_tree.proofs.Maps.{is_there, same_or_other}
use Rattle.pool_model.specs.Bytes.{only_if}
use Rattle.pool_model.specs.State.{Session, Sessions}
use Rattle.pool_model.specs.Sums.{slots_of}
use Rattle.pool_model.proofs.Weights.{only_none, mine, not_mine}
use Rattle.pin_core.specs.declared.kept.Kept.{Kept}
use Rattle.pin_core.specs.declared.kept.Kept.TheVariants as kept
use Rattle.pin_core.specs.declared.parts.Parts.{Parts}
use Rattle.pin_core.specs.parts.Keeping.{has_slots, row_in}
use Rattle.pin_core.specs.StateOf.{page_of, pages_in, state_of}
use Rattle.pin_core.specs.Invariant.{IsQuota, IsKept, IsKeptOf, is_home}
use Rattle.pin_core.specs.parts.Leavings.{slots_back}
use Rattle.pin_core.proofs.Gone.{slots_gone}
use Rattle.pin_core.proofs.Moved.{page_known}
use Rattle.pin_core.proofs.Places.{HasQuota, has_quota}

quota_before : (o : Option Session) (quota now : Quota) (count old new : ℕ) → IsQuota o (Some quota) old → old ≡ new + count
    → now.free ≡ quota.free + count → now.lent ≡ quota.lent - count → IsQuota o (Some now) new
quota_before (Some x) quota now count old new is sum free lent = let a = is.0 in let b = is.1 in (omega (arith, a, sum, lent), omega (arith, a, b, sum, free))
quota_before None quota now count old new is sum free lent = absurd is

module _ {D : Type 0} where
  -- a page at home has as many slots as blocks, or none yet
  back_len : (k : Kept D) (at : Spot) (blocks : ℕ) → IsKeptOf blocks at k → is_home at ≡ true → length (row_in k) ≡ only_if (has_slots k) blocks
  back_len (kept.Empty shell) at blocks is home = refl
  back_len (kept.Held row) at blocks is home = is.1
  back_len kept.Out at blocks is home = absurd (false≢true (sym is ∙ home))

  back_stock : (k : Kept D) (slots : Scratch D) (session : ℕ) → length (slots_back session k slots).free ≡ length slots.free + length (row_in k)
  back_stock (kept.Empty shell) slots session = omega arith
  back_stock (kept.Held row) slots session = length-append slots.free row
  back_stock kept.Out slots session = omega arith

  back_slots : (measure : D → ℕ) (k : Kept D) (slots : Scratch D) (session : ℕ) → sum_by measure (slots_back session k slots).free ≡ sum_by measure (row_in k) + sum_by measure slots.free
  back_slots measure (kept.Empty shell) slots session = omega arith
  back_slots measure (kept.Held row) slots session = let both = sum_by-append measure slots.free row in omega (arith, both)
  back_slots measure kept.Out slots session = omega arith

  back_quotas : (k : Kept D) (slots : Scratch D) (session : ℕ) → length (slots_back session k slots).quotas ≡ length slots.quotas
  back_quotas (kept.Empty shell) slots session = refl
  back_quotas (kept.Held row) slots session = length-set slots.quotas session _
  back_quotas kept.Out slots session = refl

  back_quota : (k : Kept D) (slots : Scratch D) (seats : Sessions) (session q old new : ℕ) (quota : Quota)
      → quota_of slots session ≡ Some quota → session < length slots.quotas → IsQuota (get seats q) (quota_of slots q) old
      → new + only_if (session == q) (length (row_in k)) ≡ old → IsQuota (get seats q) (quota_of (slots_back session k slots) q) new
  back_quota (kept.Empty shell) slots seats session q old new quota opened low was sum =
      let none = only_none (session == q) in
      let same : old ≡ new = omega (arith, sum, none) in subst (IsQuota (get seats q) (quota_of slots q)) same was
  back_quota kept.Out slots seats session q old new quota opened low was sum =
      let none = only_none (session == q) in
      let same : old ≡ new = omega (arith, sum, none) in subst (IsQuota (get seats q) (quota_of slots q)) same was
  back_quota (kept.Held row) slots seats session q old new quota opened low was sum =
      let now : Quota = record { free = free_of slots session + length row; lent = lent_of slots session - length row } in
      elim (same_or_other q session) [
        | inl here ↦
            let free : free_of slots session ≡ quota.free = ap (λ (r : Option Quota). free_in r) opened in
            let lent : lent_of slots session ≡ quota.lent = ap (λ (r : Option Quota). lent_in r) opened in
            let before : IsQuota (get seats q) (Some quota) old = subst (λ (r : Option Quota). IsQuota (get seats q) r old) (ap (quota_of slots) here ∙ opened) was in
            let all : only_if (session == q) (length row) ≡ length row = ap (λ (n : ℕ). only_if (session == n) (length row)) here ∙ mine session (length row) in
            let after_it : IsQuota (get seats q) (Some now) new = quota_before (get seats q) quota now (length row) old new before (omega (arith, sum, all)) (omega (arith, free)) (omega (arith, lent)) in
            subst (λ (r : Option Quota). IsQuota (get seats q) r new) (sym (ap (λ (n : ℕ). quota_of (slots_back session (kept.Held row) slots) n) here ∙ get_or-set_same slots.quotas session (Some now) None low)) after_it
        | inr other ↦
            let none : only_if (session == q) (length row) ≡ 0 = not_mine session q (length row) (λ same. other (sym same)) in
            let same : old ≡ new = omega (arith, sum, none) in
            subst (λ (r : Option Quota). IsQuota (get seats q) r new) (sym (get_or-set_other slots.quotas session q (Some now) None other)) (subst (IsQuota (get seats q) (quota_of slots q)) same was)
      ]

lent_is : (o : Option Session) (q : Option Quota) (n : ℕ) (quota : Quota) → q ≡ Some quota → IsQuota o q n → lent_in q ≡ n
lent_is (Some x) (Some y) n quota opened is = is.0
lent_is (Some x) None n quota opened is = absurd is
lent_is None (Some y) n quota opened is = absurd is
lent_is None None n quota opened is = cc

module _ {D : Type 0} where
  -- what is known of the slots of a page, and of the pool's once they came back
  pub record SlotsBack (v : Parts D) (name : ℕ) (x : Entry (Kept D)) : Type 0 where
    pub quota : HasQuota v x
    pub number : x.session < length v.slots.quotas
    pub opened : IsSome (quota_of v.slots x.session)
    pub lent : length (row_in x.scratch) ≤ lent_of v.slots x.session
    pub stock : length (slots_back x.session x.scratch v.slots).free ≡ length v.slots.free + only_if (has_slots x.scratch) x.blocks
    pub count : length (slots_back x.session x.scratch v.slots).quotas ≡ length v.slots.quotas
    pub quotas : (q : ℕ) → IsQuota (get (state_of v).sessions q) (quota_of (slots_back x.session x.scratch v.slots) q) (slots_of (remove (pages_in v.pages) name) q)
    pub slots : (measure : D → ℕ) → sum_by measure (slots_back x.session x.scratch v.slots).free ≡ sum_by measure (row_in x.scratch) + sum_by measure v.slots.free

  pub slots_back_is : (v : Parts D) → IsKept v → (name : ℕ) (x : Entry (Kept D)) → get v.pages.entries name ≡ Some x → IsKeptOf x.blocks x.place x.scratch → is_home x.place ≡ true → SlotsBack v name x
  slots_back_is v is_kept name x there kept home =
      let was : get (pages_in v.pages) name ≡ Some (page_of v.pages name x) = page_known v name x there in
      let quota : HasQuota v x = has_quota v is_kept name x was in
      let number : x.session < length v.slots.quotas = (let low = quota.low in let n = is_kept.sized.sessions in omega (arith, low, n)) in
      let row : length (row_in x.scratch) ≡ only_if (has_slots x.scratch) x.blocks = back_len x.scratch x.place x.blocks kept home in
      let left : (q : ℕ) → slots_of (remove (pages_in v.pages) name) q + only_if (x.session == q) (length (row_in x.scratch)) ≡ slots_of (pages_in v.pages) q = λ q.
      let sum = slots_gone (pages_in v.pages) name (page_of v.pages name x) was q in
      let part = ap (only_if (x.session == q)) row in
      omega (arith, sum, part) in
      record {
        quota = quota;
        number = number;
        opened = is_there (quota_of v.slots x.session) quota.quota quota.opened;
        lent =
            let sum = left x.session in
            let own = mine x.session (length (row_in x.scratch)) in
            let lends = lent_is (get (state_of v).sessions x.session) (quota_of v.slots x.session) (slots_of (pages_in v.pages) x.session) quota.quota quota.opened (is_kept.counted.quotas x.session) in
            omega (arith, sum, own, lends);
        stock = let more = back_stock x.scratch v.slots x.session in omega (arith, more, row);
        count = back_quotas x.scratch v.slots x.session;
        quotas = λ q.
            back_quota x.scratch v.slots (state_of v).sessions x.session q (slots_of (pages_in v.pages) q) (slots_of (remove (pages_in v.pages) name) q) quota.quota
            quota.opened number (is_kept.counted.quotas q) (left q);
        slots = λ measure. back_slots measure x.scratch v.slots x.session;
      }
