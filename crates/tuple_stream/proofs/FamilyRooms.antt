-- Streams of one client have room beside each other.
use Rattle.std.proofs.Common.{◌≡◌, ◌∙◌, ℕ, zero, suc, ◌+◌, ◌*◌, ◌≤◌, List, [], ◌∷◌, length, Option, Some, None, IsSome, is_some, if◌then◌else◌, refl, ap, sym, subst, inl, inr, arith}
use Rattle.std.specs.List.{slice_get, sum_by}
use Rattle.std.proofs.lemmas.Option.{none-some, same_Some}
use Rattle.std.proofs.lemmas.List.Sums.{sum_by-cons}
use Rattle.store_api.specs.Holdings.{unused_of}
use Rattle.tuple_stream.specs.Streamed.{OpenPage, Streamed, len_in}
use Rattle.tuple_stream.specs.Streams.{HasPageRoom}
use Rattle.tuple_stream.specs.Touches.{held}
use Rattle.pool_model.specs.declared.event.Event.{Event}
use Rattle.tuple_stream.specs.Families.{Family, FamilySteps, held_in}
use Rattle.tuple_stream.specs.FamilyCalls.{HasRooms}

sum_under : (len : ℕ) (w : Streamed → ℕ) (streams : List Streamed) → ((j : ℕ) (z : Streamed) → slice_get streams j ≡ Some z → w z ≤ len) → sum_by w streams ≤ length streams * len
sum_under len w [] under = omega arith
sum_under len w (z ∷ streams) under =
    let rest = sum_under len w streams (λ j y there. under (suc j) y there) in
    let head : w z ≤ len = under 0 z refl in
    let now : sum_by w (z ∷ streams) ≡ w z + sum_by w streams = sum_by-cons w z streams in
    grind (arith, rest, head, now)

-- where one of them counts for nothing
sum_closed : (len : ℕ) (w : Streamed → ℕ) (streams : List Streamed) (i : ℕ) (s : Streamed) → slice_get streams i ≡ Some s → w s ≡ 0 → ((j : ℕ) (z : Streamed) → slice_get streams j ≡ Some z → w z ≤ len) → sum_by w streams + len ≤ length streams * len
sum_closed len w [] i s at none under = absurd (none-some s at)
sum_closed len w (z ∷ streams) zero s at none under =
    let same : z ≡ s = same_Some z s at in
    let rest = sum_under len w streams (λ j y there. under (suc j) y there) in
    let head : w z ≡ 0 = ap w same ∙ none in
    let now : sum_by w (z ∷ streams) ≡ w z + sum_by w streams = sum_by-cons w z streams in
    grind (arith, rest, head, now)
sum_closed len w (z ∷ streams) (suc i) s at none under =
    let rest = sum_closed len w streams i s at none (λ j y there. under (suc j) y there) in
    let head : w z ≤ len = under 0 z refl in
    let now : sum_by w (z ∷ streams) ≡ w z + sum_by w streams = sum_by-cons w z streams in
    grind (arith, rest, head, now)

held_under : (o : Option OpenPage) (len most : ℕ) → len ≡ most → (if is_some o then len else 0) ≤ most
held_under None len most same = omega arith
held_under (Some page) len most same = omega (arith, same)

room_by : (t blocks i : ℕ) (f : Family) (s : Streamed) (o : Option OpenPage) → s.pinned ≡ o → HasRooms t blocks f → slice_get f.streams i ≡ Some s → HasPageRoom t s f.held
room_by t blocks i f s (Some page) is rooms at = inr (subst (λ (o : Option OpenPage). IsSome o) (sym is) refl)
room_by t blocks i f s None is rooms at =
    let own : len_in s f.held ≡ blocks * f.held.block_len = ap (λ (n : ℕ). n * f.held.block_len) (rooms.sized i s at) in
    let none : held s f.held ≡ 0 = ap (λ (o : Option OpenPage). if is_some o then len_in s f.held else 0) is in
    let all = sum_closed (blocks * f.held.block_len) (λ (z : Streamed). held z f.held) f.streams i s at none
    (λ j z there. held_under z.pinned (len_in z f.held) (blocks * f.held.block_len) (ap (λ (n : ℕ). n * f.held.block_len) (rooms.sized j z there))) in
    let room = rooms.room in
    inl (omega (arith, all, room, own))

-- each has room for a page
pub room_for : (t blocks i : ℕ) (f : Family) (s : Streamed) → HasRooms t blocks f → slice_get f.streams i ≡ Some s → HasPageRoom t s f.held
room_for t blocks i f s rooms at = room_by t blocks i f s s.pinned refl rooms at

-- and keeps it
pub rooms_kept : {laid : List Event → Type 0} (t blocks : ℕ) (f g : Family) → HasRooms t blocks f → FamilySteps laid t f g → HasRooms t blocks g
rooms_kept t blocks f g rooms steps =
    record {
      sized = steps.sized blocks rooms.sized;
      room =
          subst (λ (n : ℕ). length g.streams * (blocks * n) ≤ unused_of t g.held + held_in g) (sym steps.touches.block_len)
          (subst (λ (n : ℕ). n * (blocks * f.held.block_len) ≤ unused_of t g.held + held_in g) (sym steps.long)
          (let kept = steps.touches.unused in let room = rooms.room in omega (arith, kept, room)));
    }
