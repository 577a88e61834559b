-- A query over a pool of its own: what the pool owes it, and what its slots tell afterwards.
use Rattle.std.proofs.Common.{◌≡◌, ◌∙◌, ◌*◌, ◌<◌, ◌+◌, ◌^◌, ◌≤◌, ℕ, Bool, true, false, List, [], ◌∷◌, ◌++◌, length-append, Option, Some, None, IfSome, length, refl, sym, ap, subst, arith}
use Rattle.std.specs.List.{sum_by}
use Rattle.std.proofs.lemmas.Bool.{leb-true}
use Rattle.std.proofs.lemmas.List.Elements.{filter_map-append}
use Rattle.std.proofs.lemmas.List.Sums.{sum_by-cons}
use Rattle.std.proofs.lemmas.Option.{same_Some}
use Rattle.outside.specs.declared.slot.Slot.{Ghosts}
use Rattle.reservation_tree.specs.declared.errors.PoolErr.{PoolErr}
use Rattle.reservation_tree.specs.declared.errors.PoolErr.TheVariants as pool
use Rattle.pin_core.specs.Tallies.{Counted, tally_of}
use Rattle.pin_core.specs.declared.tally.Tally.{Tally}
use Rattle.pin_core.proofs.Tallied.{tally_same, uncounted_yet}
use Rattle.pool_model.specs.LookingBack.{made_by, name_in, names_in}
use Rattle.pool_model.specs.State.{Opening}
use Rattle.pool_model.specs.declared.entry.Entry.{Entry}
use Rattle.store_api.specs.Holdings.{Holdings}
use Rattle.store_api.specs.Signs.{Signs}
use Rattle.session_calls.specs.Told.{signs_in}
use Rattle.query_plan.specs.Sizes.{page_len}
use Rattle.query_plan.specs.declared.plan.Query.{Query}
use Rattle.query_run.specs.Both.{Told}
use Rattle.query_run.specs.Causes.{OfPool}
use Rattle.query_run.specs.Stopped.{IsWant, IsWantBelow, MakesFew}
use Rattle.spill_top.specs.Unmarked.{MayStopUnmarked, StoppedUnmarked}
use Rattle.query_run.specs.Through.{need, rows_through}
use Rattle.query_plan.specs.declared.outcome.QueryErr.{QueryErr}
use Rattle.query_plan.specs.declared.outcome.QueryErr.TheVariants as query
use Rattle.spill_top.specs.Pooled.{ComeBack, HaveFailed, IsPoolStop, MaySpendNames, all_tell}
use Rattle.spill_top.specs.Sides.{if_told}

-- slots with the same sums
pub same_slots : {D : Type 0} (slot : Ghosts D) (before now : List D) → ((measure : D → ℕ) → sum_by measure now ≡ sum_by measure before) → ComeBack (tally_of slot before) (tally_of slot now)
same_slots slot before now same =
    subst (Counted 0 0 0 (tally_of slot before)) (tally_same slot (λ measure. sum_by measure before) (λ measure. sum_by measure now) (λ measure. sym (same measure))) (uncounted_yet (tally_of slot before))

ones : {D : Type 0} (xs : List D) → sum_by (λ d. 1) xs ≡ length xs
ones [] = refl
ones (x ∷ xs) =
    let first = sum_by-cons (λ d. 1) x xs in
    let rest = ones xs in
    omega (arith, first, rest)

-- how many slots a tally counts
pub slots_counted : {D : Type 0} (slot : Ghosts D) (slots : List D) → length slots ≡ (tally_of slot slots).slots
slots_counted slot slots = sym (ones slots)

-- as many slots come back
pub as_many : {D : Type 0} (slot : Ghosts D) (before now : List D) → ComeBack (tally_of slot before) (tally_of slot now) → length now ≡ length before
as_many slot before now back = sym (ones now) ∙ back.slots ∙ ones before

-- what was counted beside failures and stores
pub less : (failures blocks stale : ℕ) (before now : Tally) → Counted failures blocks stale before now → ComeBack before now
less failures blocks stale before now counted = record {
  never_fall = counted.never_fall;
  failed = λ free. let more = counted.failed free in omega (arith, more);
  stays = counted.stays;
  stores = λ all. let more = counted.stores all in omega (arith, more);
  short = counted.short;
  strays = λ all. let more = counted.strays all in omega (arith, more);
  loose = counted.loose;
  silent = counted.silent;
  slots = counted.slots;
}

-- a failure that the pool shows is one of its slots
pub failed : (old new : Signs) (failures blocks stale : ℕ) (before now : Tally) → Counted failures blocks stale before now → new.failures ≤ failures → old.failures < new.failures → HaveFailed before now
failed old new failures blocks stale before now counted told rose = λ free.
    let more = counted.failed free in
    omega (arith, rose, told, more)

-- where slots tell, a pool tells its query what it holds
pub if-tells : (tell : Bool) (told : Option Told) (A : Told → Type 0) → (tell ≡ true → IfSome told A) → IfSome (if_told tell told) A
if-tells true told A is = is refl
if-tells false told A is = tt

pub some-so : (A B : Told → Type 0) (told : Option Told) → ((both : Told) → A both → B both) → IfSome told A → IfSome told B
some-so A B None so is = tt
some-so A B (Some both) so is = so both is

pub names-more : (a b : List Entry) → length (names_in (a ++ b)) ≡ length (names_in a) + length (names_in b)
names-more a b = ap length (filter_map-append (λ (e : Entry). name_in e.event) a b) ∙ length-append (names_in a) (names_in b)

many-names : (rows made : ℕ) → 18446744073709551615 ≤ made → made ≤ 16 * rows → 2 ^ 55 ≤ rows
many-names rows made all few = omega (arith, all, few)

-- where no name is left of a pool that began without a page, and its query made all pages, the query has many rows
pub spent_names : (plan : Query) (told : Option Told) (tell : Bool) (o : Opening) (m k : ℕ) (first last before now : List Entry) → o.first_name ≡ 0 → made_by first k ≡ before → names_in before ≡ [] → made_by last m ≡ now
    → length (names_in last) ≤ length (names_in now) → (tell ≡ true → IfSome told (λ both. MakesFew (16 * rows_through plan both) (signs_in o k first) (signs_in o m last)))
    → (signs_in o m last).spent ≡ true → MaySpendNames plan (if_told tell told)
unfolding signs_in
spent_names plan told tell o m k first last before now zero came none own alone made spent =
    if-tells tell told _ (λ tells. some-so _ _ told (λ both few.
    let more : List Entry = few.0 in
    let split : now ≡ before ++ more = sym own ∙ same_Some _ _ few.1 ∙ ap (λ (h : List Entry). h ++ more) came in
    let last_name : 18446744073709551615 ≤ o.first_name + length (names_in last) = leb-true _ _ spent in
    let long : length (names_in now) ≡ length (names_in before) + length (names_in more) = ap (λ (h : List Entry). length (names_in h)) split ∙ names-more before more in
    let unnamed : length (names_in before) ≡ 0 = ap length none in
    let least : 18446744073709551615 ≤ length (names_in more) = omega (arith, last_name, long, unnamed, zero, alone) in
    many-names (rows_through plan both) (length (names_in more)) least few.2) (made tells))

-- where fewer slots were free than the query needs, its quota lacks them
pub lacks-slots : (plan : Query) (page quota : ℕ) (told : Option Told) (start : Holdings) (blocks free : ℕ) → start.free_slots ≡ Some quota → page_len plan start.block_len ≡ page
    → IfSome told (λ both. IsWantBelow (need plan (page_len plan start.block_len) both * plan.page_blocks) start.free_slots (pool.ScratchFull blocks free))
    → IfSome told (λ both. quota < need plan page both * plan.page_blocks)
lacks-slots plan page quota told start blocks free is paged enough =
    subst (λ (n : ℕ). IfSome told (λ both. quota < need plan n both * plan.page_blocks)) paged
    (subst (λ (o : Option ℕ). IfSome told (λ both. IfSome o (λ n. n < need plan (page_len plan start.block_len) both * plan.page_blocks))) is enough)

stop : (plan : Query) (page quota : ℕ) (told : Option Told) (tell : Bool) (start : Holdings) (old new : Signs) (failures blocks stale : ℕ) (before now : Tally) (e : PoolErr) → Counted failures blocks stale before now → new.failures ≤ failures
    → start.free_slots ≡ Some quota → page_len plan start.block_len ≡ page → (tell ≡ true → start.told ≡ true) → (new.spent ≡ true → MaySpendNames plan (if_told tell told))
    → StoppedUnmarked plan told start old new e → IsPoolStop plan page (if_told tell told) quota (HaveFailed before now) e
stop plan page quota told tell start old new failures blocks stale before now (pool.NoReservation tracker wanted room) counted fails free paged tells names stopped = absurd stopped.by_store.answered
stop plan page quota told tell start old new failures blocks stale before now (pool.ScratchFull lacks left) counted fails free paged tells names stopped = (
  subst (λ (o : Option ℕ). IsWant plan.page_blocks o (pool.ScratchFull lacks left)) free stopped.by_store.want,
  if-tells tell told _ (λ does. lacks-slots plan page quota told start lacks left free paged (stopped.by_store.enough (tells does))),
)
stop plan page quota told tell start old new failures blocks stale before now (pool.WriteFault entry) counted fails free paged tells names stopped = let answered = stopped.by_store.answered in failed old new failures blocks stale before now counted fails answered.rose
stop plan page quota told tell start old new failures blocks stale before now (pool.ReadFault entry) counted fails free paged tells names stopped = let answered = stopped.by_store.answered in failed old new failures blocks stale before now counted fails answered.rose
stop plan page quota told tell start old new failures blocks stale before now (pool.TooManyTrackers count) counted fails free paged tells names stopped = absurd stopped.by_store.answered
stop plan page quota told tell start old new failures blocks stale before now pool.NamesSpent counted fails free paged tells names stopped = names stopped.by_store.answered
stop plan page quota told tell start old new failures blocks stale before now pool.Memory counted fails free paged tells names stopped = tt
stop plan page quota told tell start old new failures blocks stale before now (pool.Stale wanted found) counted fails free paged tells names stopped = absurd stopped.unmarked

-- what the pool stopped the query with, as its slots tell it
pub pool_stop : (plan : Query) (page quota : ℕ) (told : Option Told) (start : Holdings) (old new : Signs) (failures blocks stale : ℕ) (before now : Tally) (e : QueryErr) → Counted failures blocks stale before now → new.failures ≤ failures
    → start.free_slots ≡ Some quota → page_len plan start.block_len ≡ page → (all_tell before ≡ true → start.told ≡ true) → (new.spent ≡ true → MaySpendNames plan (if_told (all_tell before) told))
    → MayStopUnmarked plan told start old new e → OfPool (IsPoolStop plan page (if_told (all_tell before) told) quota (HaveFailed before now)) e
pool_stop plan page quota told start old new failures blocks stale before now (query.SourceFault side) counted fails free paged tells names may = tt
pool_stop plan page quota told start old new failures blocks stale before now (query.BadHeader side) counted fails free paged tells names may = tt
pool_stop plan page quota told start old new failures blocks stale before now (query.BadCsv side number) counted fails free paged tells names may = tt
pool_stop plan page quota told start old new failures blocks stale before now (query.BadField side number column) counted fails free paged tells names may = tt
pool_stop plan page quota told start old new failures blocks stale before now (query.TooLarge side) counted fails free paged tells names may = tt
pool_stop plan page quota told start old new failures blocks stale before now (query.RowTooLong side number bytes) counted fails free paged tells names may = tt
pool_stop plan page quota told start old new failures blocks stale before now query.SinkFault counted fails free paged tells names may = tt
pool_stop plan page quota told start old new failures blocks stale before now (query.Pool why) counted fails free paged tells names may =
    stop plan page quota told (all_tell before) start old new failures blocks stale before now why counted fails free paged tells names may
