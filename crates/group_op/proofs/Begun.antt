-- Spans of a trail in which a page is pinned again before one is left.
use Rattle.std.proofs.Common.{◌≡◌, ◌∙◌, ℕ, zero, suc, ◌<◌, ◌⊎◌, inl, inr, Bool, true, false, List, [], ◌∷◌, ◌++◌, length, replicate, take, Option, Some, None, refl, ap, sym, subst, arith, true≢false}
use Rattle.std.specs.Bool.{⊤}
use Rattle.std.specs.Prelude.{All, slice_get}
use Rattle.std.proofs.lemmas.List.Elements.{All-head, All-replicate, All-tail, All-take}
use Rattle.std.proofs.lemmas.Option.{none-some, same_Some}
use Rattle.pool_model.specs.declared.event.Event.{Event}
use Rattle.pool_model.specs.declared.event.Event.TheVariants.{Ask, Alloc, Free, StartWrite, WriteOk, WriteFailed, Evict, Refused}
use Rattle.bucket_table.specs.Entering.{EnteredLoans, IsOfLoans}
use Rattle.partition_stack.specs.Changes.{HaveEnded}
use Rattle.pool_model.specs.declared.entry.Entry.{Entry}
use Rattle.store_api.specs.Holdings.{Holdings}
use Rattle.store_api.specs.Signs.{Prolongs, Signs}
use Rattle.tuple_stream.specs.Families.{AllClosed, Family, HaveReadAll}
use Rattle.tuple_stream.specs.Spending.{Empties, Goes, PinsAgain}
use Rattle.tuple_stream.specs.Steps.{Scene, scene}
use Rattle.tuple_stream.specs.Streamed.{Streamed}
use Rattle.tuple_stream.specs.Trails.{EnteredEvents, HasPin, PinsFirst, events_of}
use Rattle.tuple_stream.proofs.PageLists.{at_end}
use Rattle.tuple_stream.proofs.PinsFirst.{both_pin_first, has_pin_back, has_pin_front, pins_first_join}
use Rattle.tuple_stream.proofs.Sinces.{since_any, since_joined, since_now, since_so}
use Rattle.bucket_table.specs.Tables.{Table}
use Rattle.partition_stack.specs.Stack.{Stack, over}
use Rattle.group_op.specs.Finishing.{IsBetween}
use Rattle.group_op.specs.Held.{State, state}
use Rattle.group_op.specs.Pinning.{AreShallow, HasBegun, HasGoneOn}

-- of a span either a page was pinned in it, and anything may follow, or what is so then tells of the next span
pub begun_join : (C : Type 0) (P Q R : List Event → Type 0) (a m b : Option (List Entry)) → ((x : List Event) → P x → HasPin x ⊎ C)
    → ((x y : List Event) → P x → HasPin x → R (x ++ y)) → ((x y : List Event) → P x → Q y → R (x ++ y))
    → EnteredEvents P a m → Prolongs m b → (C → EnteredEvents Q m b) → EnteredEvents R a b
begun_join C P Q R None m b so pinned still was more next = subst (λ (o : Option (List Entry)). Prolongs o b) was more
begun_join C P Q R (Some before) m b so pinned still was more next = by (so (events_of was.0) was.2) where
  by : HasPin (events_of was.0) ⊎ C → EnteredEvents R (Some before) b
  by (inl pin) =
      since_joined (λ x. P x × HasPin x) (λ _. ⊤) R (Some before) m b (λ x y both any. pinned x y both.0 both.1) (was.0, was.1, (was.2, pin)) (since_any m b more)
  by (inr c) = since_joined P Q R (Some before) m b still was (next c)

-- a page was pinned, whatever came behind
pub pinned_on : (a m b : Option (List Entry)) → EnteredEvents PinsAgain a m → Prolongs m b → EnteredEvents PinsAgain a b
pinned_on a m b was more =
    since_joined PinsAgain (λ _. ⊤) PinsAgain a m b (λ x y pins any. record { first = pins_first_join x y pins.first (inl pins.pinned); pinned = has_pin_front x y pins.pinned }) was (since_any m b more)

pub begun_none : (b : State) (trail : Option (List Entry)) → IsBetween b → EnteredEvents (HasBegun false b) trail trail
begun_none b trail between = since_now (HasBegun false b) trail (record { first = tt; pinned = inr (refl, between) })

-- a row was taken out, if none was before with a pin, and then the store was asked more
pub begun_more : (d e : Bool) (m b : State) (t0 t1 t2 t3 : Option (List Entry)) → EnteredEvents (HasBegun d m) t0 t1 → Prolongs t1 t3 → (IsBetween m → EnteredEvents PinsAgain t1 t2) → Prolongs t2 t3 → EnteredEvents (HasBegun e b) t0 t3
begun_more d e m b t0 t1 t2 t3 was more next on =
    begun_join (IsBetween m) (HasBegun d m) PinsAgain (HasBegun e b) t0 t1 t3 (λ x begun. elim begun.pinned [ inl pin ↦ inl pin | inr still ↦ inr still.1 ])
    (λ x y begun pin. record { first = pins_first_join x y begun.first (inl pin); pinned = inl (has_pin_front x y pin) })
    (λ x y begun pins. record { first = both_pin_first x y begun.first pins.first; pinned = inl (has_pin_back x y pins.pinned) })
    was more (λ between. pinned_on t1 t2 t3 (next between) on)

-- the partition is divided, so a page was pinned
pub begun_divided : (m b : State) (t0 t1 t2 : Option (List Entry)) → EnteredEvents (HasBegun true m) t0 t1 → Prolongs t1 t2 → EnteredEvents (HasBegun true b) t0 t2
begun_divided m b t0 t1 t2 was more =
    begun_join ⊥ (HasBegun true m) PinsAgain (HasBegun true b) t0 t1 t2 (λ x begun. elim begun.pinned [ inl pin ↦ inl pin | inr still ↦ absurd (true≢false still.0) ])
    (λ x y begun pin. record { first = pins_first_join x y begun.first (inl pin); pinned = inl (has_pin_front x y pin) })
    (λ x y begun pins. record { first = both_pin_first x y begun.first pins.first; pinned = inl (has_pin_back x y pins.pinned) })
    was more (λ never. absurd never)

-- another stack over the same streams and the same table
pub begun_over : (d : Bool) (table : Table) (p q : Stack) (h k : Holdings) (s r : Signs) (t0 : Option (List Entry)) → over q k r ≡ over p h s → EnteredEvents (HasBegun d (state table p h s)) t0 s.trail → EnteredEvents (HasBegun d (state table q k r)) t0 r.trail
begun_over d table p q h k s r t0 same was =
    subst (λ (o : Option (List Entry)). EnteredEvents (HasBegun d (state table q k r)) t0 o) (sym (ap (λ (f : Family). f.signs.trail) same))
    (since_so (HasBegun d (state table p h s)) (HasBegun d (state table q k r)) t0 s.trail
    (λ x begun. record {
      first = begun.first;
      pinned = elim begun.pinned [
        | inl pin ↦ inl pin
        | inr still ↦ inr (still.0, record { empty = still.1.empty; closed = λ i x there. still.1.closed i x (sym (ap (λ (f : Family). slice_get f.streams i) same) ∙ there) })
      ];
    })
    was)

-- ---- the top partition goes

pub top_goes : (t : ℕ) (table : Table) (p : Stack) (front : List Streamed) (s : Streamed) (h0 h1 : Holdings) (s0 s1 : Signs) (b : Scene) → p.streams ≡ front ++ s ∷ [] → Empties t (scene s h1 s1) b → s1 ≡ s0 → IsBetween (state table p h0 s0) → EnteredEvents PinsFirst s0.trail b.signs.trail
top_goes t table p front s h0 h1 s0 s1 b split empties same between =
    subst (λ (o : Signs). EnteredEvents PinsFirst o.trail b.signs.trail) same
    (since_so (Goes (scene s h1 s1) b) PinsFirst s1.trail b.signs.trail
    (λ x goes. (goes.reads (between.closed (length front) s (ap (λ (ss : List Streamed). slice_get ss (length front)) split ∙ at_end front s))).first) empties.trail)

-- ---- between partitions

pub gone_none : (levels : List ℕ) (trail : Option (List Entry)) → AreShallow levels → EnteredEvents (HasGoneOn levels) trail trail
gone_none levels trail shallow = since_now (HasGoneOn levels) trail (record { first = tt; pinned = inr shallow })

pub gone_more : (m n : List ℕ) (t0 t1 t2 : Option (List Entry)) → EnteredEvents (HasGoneOn m) t0 t1 → Prolongs t1 t2 → (AreShallow m → EnteredEvents (HasGoneOn n) t1 t2) → EnteredEvents (HasGoneOn n) t0 t2
gone_more m n t0 t1 t2 was more next =
    begun_join (AreShallow m) (HasGoneOn m) (HasGoneOn n) (HasGoneOn n) t0 t1 t2 (λ x on. on.pinned)
    (λ x y on pin. record { first = pins_first_join x y on.first (inl pin); pinned = inl (has_pin_front x y pin) })
    (λ x y on then. record { first = both_pin_first x y on.first then.first; pinned = elim then.pinned [ inl pin ↦ inl (has_pin_back x y pin) | inr low ↦ inr low ] })
    was more next

pub gone_all : (levels : List ℕ) (g : Family) (t0 t1 : Option (List Entry)) → AllClosed g → EnteredEvents (HasGoneOn levels) t0 t1 → EnteredEvents (HaveReadAll g) t0 t1
gone_all levels g t0 t1 closed on = since_so (HasGoneOn levels) (HaveReadAll g) t0 t1 (λ x gone. record { first = gone.first; pinned = inr closed }) on

-- it was divided
pub gone_divided : (levels : List ℕ) (b : State) (t0 t1 : Option (List Entry)) → EnteredEvents (HasBegun true b) t0 t1 → EnteredEvents (HasGoneOn levels) t0 t1
gone_divided levels b t0 t1 was =
    since_so (HasBegun true b) (HasGoneOn levels) t0 t1 (λ x begun. record { first = begun.first; pinned = elim begun.pinned [ inl pin ↦ inl pin | inr still ↦ absurd (true≢false still.0) ] }) was

-- its groups were handed on
pub gone_handed : (m : State) (levels now : List ℕ) (at : ℕ) (t0 t1 t2 : Option (List Entry)) → now ≡ take at levels → AreShallow levels → EnteredEvents (HasBegun false m) t0 t1 → Prolongs t1 t2 → (IsBetween m → EnteredEvents PinsFirst t1 t2) → EnteredEvents (HasGoneOn now) t0 t2
gone_handed m levels now at t0 t1 t2 is shallow was more next =
    begun_join (IsBetween m) (HasBegun false m) PinsFirst (HasGoneOn now) t0 t1 t2 (λ x begun. elim begun.pinned [ inl pin ↦ inl pin | inr still ↦ inr still.1 ])
    (λ x y begun pin. record { first = pins_first_join x y begun.first (inl pin); pinned = inl (has_pin_front x y pin) })
    (λ x y begun first. record { first = both_pin_first x y begun.first first; pinned = inr (subst AreShallow (sym is) (All-take (λ level. level < 16) at levels shallow)) })
    was more next

-- a partition of the last level isn't of those
pub not_last : (levels : List ℕ) (at : ℕ) → AreShallow levels → slice_get levels at ≡ Some 16 → ⊥
not_last [] at shallow there = none-some 16 there
not_last (l ∷ levels) zero shallow there =
    let low = All-head (λ level. level < 16) l levels shallow in
    let is : l ≡ 16 = same_Some l 16 there in
    omega (arith, low, is)
not_last (l ∷ levels) (suc at) shallow there = not_last levels at (All-tail (λ level. level < 16) l levels shallow) there

-- those of the first level aren't
pub low_levels : (levels : List ℕ) → levels ≡ replicate 16 1 → AreShallow levels
low_levels levels is = subst AreShallow (sym is) (All-replicate (λ level. level < 16) 16 1 (omega arith))

-- ---- the grouping ends

loan_pins_first : (e : Event) (rest : List Event) → IsOfLoans e → PinsFirst rest → PinsFirst (e ∷ rest)
loan_pins_first Ask rest is first = first
loan_pins_first (Alloc f client blocks) rest is first = first
loan_pins_first (Free f) rest is first = first
loan_pins_first (StartWrite p) rest is first = first
loan_pins_first (WriteOk p) rest is first = first
loan_pins_first (WriteFailed p before after) rest is first = first
loan_pins_first (Evict p) rest is first = first
loan_pins_first (Refused call entry) rest is first = first
loan_pins_first _ rest is first = absurd is

loans_pin_first : (events : List Event) → All IsOfLoans events → PinsFirst events
loans_pin_first [] are = tt
loans_pin_first (e ∷ rest) are = loan_pins_first e rest (All-head IsOfLoans e rest are) (loans_pin_first rest (All-tail IsOfLoans e rest are))

pub ended_first : (f : Family) (t0 t1 : Option (List Entry)) → AllClosed f → EnteredEvents (HaveEnded f) t0 t1 → EnteredEvents PinsFirst t0 t1
ended_first f t0 t1 closed ended = since_so (HaveEnded f) PinsFirst t0 t1 (λ x has. has.first closed) ended

pub closed_first : (f : Family) (t0 t1 t2 : Option (List Entry)) → AllClosed f → EnteredEvents (HaveEnded f) t0 t1 → EnteredLoans t1 t2 → EnteredEvents PinsFirst t0 t2
closed_first f t0 t1 t2 closed ended loans =
    since_joined (HaveEnded f) (All IsOfLoans) PinsFirst t0 t1 t2 (λ x y has are. both_pin_first x y (has.first closed) (loans_pin_first y are)) ended loans
