-- To join two partitions that rest, a page of the one whose rows are held is pinned again, before the first pair comes.
use Rattle.std.proofs.Common.{◌≡◌, ◌⊎◌, inl, inr, ℕ, zero, suc, ◌+◌, ◌<◌, List, [], ◌∷◌, length, Option, None, refl, ap, subst, ◌∙◌, arith}
use Rattle.std.specs.Prelude.{⊤, All}
use Rattle.std.proofs.lemmas.List.Elements.{All-head, All-tail}
use Rattle.pool_model.specs.declared.entry.Entry.{Entry}
use Rattle.pool_model.specs.declared.event.Event.{Event}
use Rattle.pool_model.specs.declared.event.Event.TheVariants.{Ask, Alloc, Free, StartWrite, WriteOk, WriteFailed, Evict, Refused}
use Rattle.store_api.specs.Holdings.{Holdings}
use Rattle.store_api.specs.Signs.{Grows, Signs}
use Rattle.store_api.proofs.Growing.{grows_trans}
use Rattle.bucket_table.specs.Entering.{EnteredLoans, IsOfLoans}
use Rattle.tuple_stream.specs.Places.{Place, first}
use Rattle.tuple_stream.specs.Spending.{PinsAgain}
use Rattle.tuple_stream.specs.Steps.{Lays, Reads, Scene, scene}
use Rattle.tuple_stream.specs.Streamed.{Streamed}
use Rattle.tuple_stream.specs.Trails.{EnteredEvents, HasPin, PinsFirst}
use Rattle.tuple_stream.proofs.PinsFirst.{both_pin_first, has_pin_back, has_pin_front, pins_first_join}
use Rattle.tuple_stream.proofs.Sinces.{since_any, since_joined, since_so}
use Rattle.join_op.specs.Chunks.{IsResting, ReadsMore}
use Rattle.join_op.proofs.Dealing.{pinned_then}

-- ---- loans leave no page

loan_pins_first : (e : Event) (rest : List Event) → IsOfLoans e → PinsFirst rest → PinsFirst (e ∷ rest)
loan_pins_first Ask rest is pins = pins
loan_pins_first (Alloc f client blocks) rest is pins = pins
loan_pins_first (Free f) rest is pins = pins
loan_pins_first (StartWrite p) rest is pins = pins
loan_pins_first (WriteOk p) rest is pins = pins
loan_pins_first (WriteFailed p before after) rest is pins = pins
loan_pins_first (Evict p) rest is pins = pins
loan_pins_first (Refused call entry) rest is pins = pins
loan_pins_first _ rest is pins = absurd is

loans_pin_first : (events : List Event) → All IsOfLoans events → PinsFirst events
loans_pin_first [] are = tt
loans_pin_first (e ∷ rest) are = loan_pins_first e rest (All-head IsOfLoans e rest are) (loans_pin_first rest (All-tail IsOfLoans e rest are))

pub loans_first : (t0 t1 : Option (List Entry)) → EnteredLoans t0 t1 → EnteredEvents PinsFirst t0 t1
loans_first t0 t1 loans = since_so (All IsOfLoans) PinsFirst t0 t1 loans_pin_first loans

-- a page was pinned again after such a span
pub pins_later : (t0 t1 t2 : Option (List Entry)) → EnteredEvents PinsFirst t0 t1 → EnteredEvents PinsAgain t1 t2 → EnteredEvents PinsAgain t0 t2
pins_later t0 t1 t2 was next =
    since_joined PinsFirst PinsAgain PinsAgain t0 t1 t2 (λ x y pins again. record { first = both_pin_first x y pins again.first; pinned = has_pin_back x y again.pinned }) was next

-- ---- rows are held

-- a call that read a stream that rested, and has a page of it pinned, pinned it again, whatever came behind
pub pins_read : (t : ℕ) (a b : Scene) (after : Signs) → Reads t a b → Grows b.signs after → a.stream.pinned ≡ None → (b.stream.pinned ≡ None → ⊥) → EnteredEvents PinsAgain a.signs.trail after.trail
pins_read t a b after went grows closed open_is =
    since_joined (Lays ⊥ ⊤ a b) (λ _. ⊤) PinsAgain a.signs.trail b.signs.trail after.trail
    (λ x y lays any.
    let read = lays.reads tt closed in
    let pin : HasPin x = elim read.pinned [ inl pin ↦ pin | inr none ↦ absurd (open_is none) ] in
    record { first = pins_first_join x y read.first (inl pin); pinned = has_pin_front x y pin })
    went.step.trail (since_any b.signs.trail after.trail grows.trail)

-- no row of the stream was held yet, and nothing was asked of the store
pub record HoldsNone (r0 r : Streamed) (place : Place) (s0 s : Signs) : Type 0 where
  pub stream : r ≡ r0
  pub start : place.row ≡ 0
  pub signs : s ≡ s0

-- or a page was pinned again
abbrev pub HasBegun : Streamed → Streamed → Place → Signs → Signs → Type 0
HasBegun r0 r place s0 s = HoldsNone r0 r place s0 s ⊎ EnteredEvents PinsAgain s0.trail s.trail

pub begun_none : (r : Streamed) (place : Place) (s : Signs) → place ≡ first → HasBegun r r place s s
begun_none r place s start = inl (record { stream = refl; start = ap (λ (p : Place). p.row) start; signs = refl })

not_none : (n : ℕ) → (n ≡ 0 → ⊥) → 0 < n
not_none zero not = absurd (not refl)
not_none (suc n) not = omega arith

module _ (t : ℕ) (r0 r now : Streamed) (h h1 : Holdings) (s0 s s1 after : Signs) (place behind : Place) (more : List (List ℕ)) (rests : IsResting r0) (begun : HasBegun r0 r place s0 s) where
  pub begun_more : Reads t (scene r h s) (scene now h1 s1) → now ≡ record r { pinned = now.pinned } → ReadsMore more place behind (scene r h s) (scene now h1 s1) → (length more ≡ 0 → behind.row ≡ now.count) → Grows s1 after → HasBegun r0 now behind s0 after
  begun_more went same reads last grows = elim begun [
    | inl none ↦
        let closed : r.pinned ≡ None = ap (λ (x : Streamed). x.pinned) none.stream ∙ rests.closed in
        let some : 0 < length more =
        not_none (length more) (λ empty.
        let end = last empty in
        let moved = reads.moved in
        let start = none.start in
        let one : now.count ≡ r.count = ap (λ (x : Streamed). x.count) same in
        let two : r.count ≡ r0.count = ap (λ (x : Streamed). x.count) none.stream in
        let rows = rests.some in
        omega (arith, empty, end, moved, start, one, two, rows)) in
        inr (subst (λ (o : Signs). EnteredEvents PinsAgain o.trail after.trail) none.signs (pinned_then s.trail s1.trail after.trail (reads.pins some closed) grows.trail))
    | inr pins ↦ inr (pinned_then s0.trail s.trail after.trail pins (grows_trans s s1 after went.step.grows grows).trail)
  ]

pub begun_all : (r0 r : Streamed) (place : Place) (s0 s : Signs) (waiting : ℕ) → IsResting r0 → HasBegun r0 r place s0 s → place.row + waiting ≡ r.count → waiting ≡ 0 → EnteredEvents PinsAgain s0.trail s.trail
begun_all r0 r place s0 s waiting rests begun waits end = elim begun [
  | inl none ↦
      absurd (let start = none.start in let same : r.count ≡ r0.count = ap (λ (x : Streamed). x.count) none.stream in let rows = rests.some in omega (arith, start, same, rows, waits, end))
  | inr pins ↦ pins
]
