-- Partitions go from the top, one after the other.
use Rattle.std.proofs.Common.{◌≡◌, ◌∙◌, inl, inr, ℕ, zero, suc, ◌+◌, ◌-◌, ◌≢◌, List, [], ◌∷◌, ◌++◌, length, Option, Some, None, is_some, option_map, if◌then◌else◌, refl, ap, sym, subst, arith}
use Rattle.std.specs.Prelude.{set}
use Rattle.std.specs.List.{slice_get, sum_by}
use Rattle.std.proofs.Math.Seq.{set-append_seam}
use Rattle.std.proofs.lemmas.List.Elements.{All-nil}
use Rattle.std.proofs.lemmas.List.Sums.{sum_by-append, sum_by-cons}
use Rattle.std.proofs.lemmas.Option.{none-some, same_Some}
use Rattle.store_api.specs.Holdings.{Holdings}
use Rattle.store_api.specs.Signs.{Grows, Signs}
use Rattle.store_api.proofs.Growing.{grows_refl, grows_trans}
use Rattle.tuple_stream.specs.Streamed.{OpenPage, Streamed, len_in}
use Rattle.tuple_stream.specs.Streams.{IsApart}
use Rattle.tuple_stream.specs.Touches.{held, slots_of}
use Rattle.tuple_stream.specs.Trails.{EnteredEvents}
use Rattle.tuple_stream.specs.Steps.{Scene, scene}
use Rattle.tuple_stream.specs.Spending.{Empties}
use Rattle.tuple_stream.specs.Families.{AllClosed, AreShaped, Family, FamilySteps, GoesAll, IsOutside, TouchesAll, changed, family}
use Rattle.tuple_stream.proofs.BuildingQuiet.{creates_join}
use Rattle.tuple_stream.proofs.FamilyChains.{touches_both, touches_none}
use Rattle.tuple_stream.proofs.FamilyStep.{goes_step}
use Rattle.tuple_stream.proofs.PageLists.{at_end, still_at}
use Rattle.tuple_stream.proofs.PinsFirst.{both_pin_first}
use Rattle.tuple_stream.proofs.Sinces.{since_joined, since_now}
use Rattle.partition_stack.specs.Changes.{EndsAll, HaveEnded}
use Rattle.partition_stack.proofs.ListPlaces.{front_or_behind}

-- ---- a stream without pages behind others counts for nothing

module _ (streams : List Streamed) (e : Streamed) (none : e.pages ≡ []) where
  pub outside_front : (q : ℕ) → IsOutside q (streams ++ e ∷ []) → IsOutside q streams
  outside_front q outside = λ i s at. outside i s (still_at streams e s i at)

  pub outside_whole : (q : ℕ) → IsOutside q streams → IsOutside q (streams ++ e ∷ [])
  outside_whole q outside = λ i s at.
      elim (front_or_behind streams (e ∷ []) i s at) [
        | inl there ↦ outside i s there
        | inr behind ↦ last (i - length streams) s behind.1
      ]
    where
      last : (k : ℕ) (s : Streamed) → slice_get (e ∷ []) k ≡ Some s → IsApart q s.pages
      last zero s at = subst (λ (r : Streamed). IsApart q r.pages) (same_Some e s at) (subst (IsApart q) (sym none) (All-nil (λ p. p.name ≢ q)))
      last (suc k) s at = absurd (none-some s at)

module _ (streams : List Streamed) (e : Streamed) (h : Holdings) where
  pub held_front : e.pinned ≡ None → sum_by (λ s. held s h) (streams ++ e ∷ []) ≡ sum_by (λ s. held s h) streams
  held_front closed =
      let none : held e h ≡ 0 = ap (λ (o : Option OpenPage). if is_some o then len_in e h else 0) closed in
      let all : sum_by (λ s. held s h) (streams ++ e ∷ []) ≡ sum_by (λ s. held s h) streams + sum_by (λ s. held s h) (e ∷ []) = sum_by-append (λ s. held s h) streams (e ∷ []) in
      let one : sum_by (λ s. held s h) (e ∷ []) ≡ held e h + 0 = sum_by-cons (λ (s : Streamed). held s h) e [] in
      omega (arith, none, all, one)

  pub slots_front : e.pages ≡ [] → sum_by (λ s. sum_by (slots_of s h) s.pages) (streams ++ e ∷ []) ≡ sum_by (λ s. sum_by (slots_of s h) s.pages) streams
  slots_front none =
      let nothing : sum_by (slots_of e h) e.pages ≡ 0 = ap (sum_by (slots_of e h)) none in
      let all : sum_by (λ s. sum_by (slots_of s h) s.pages) (streams ++ e ∷ []) ≡ sum_by (λ s. sum_by (slots_of s h) s.pages) streams + sum_by (λ s. sum_by (slots_of s h) s.pages) (e ∷ []) = sum_by-append (λ s. sum_by (slots_of s h) s.pages) streams (e ∷ []) in
      let one : sum_by (λ s. sum_by (slots_of s h) s.pages) (e ∷ []) ≡ sum_by (slots_of e h) e.pages + 0 = sum_by-cons (λ (s : Streamed). sum_by (slots_of s h) s.pages) e [] in
      omega (arith, nothing, all, one)

-- what was changed is the same without it
touches_front : (t : ℕ) (f : Family) (streams : List Streamed) (e : Streamed) (h : Holdings) (signs : Signs) → e.pages ≡ [] → e.pinned ≡ None → TouchesAll t f (family (streams ++ e ∷ []) h signs) → TouchesAll t f (family streams h signs)
touches_front t f streams e h signs none closed touches =
    record {
      block_len = touches.block_len;
      session = touches.session;
      query = touches.query;
      limit = touches.limit;
      reservation = touches.reservation;
      room = touches.room;
      above = touches.above;
      live_clients = touches.live_clients;
      loans = touches.loans;
      told = touches.told;
      clients = touches.clients;
      account = touches.account;
      pages = λ q lives outside. let one = touches.pages q lives outside in (one.0, outside_front streams e none q one.1);
      back = λ q lives outside. touches.back q lives (outside_whole streams e none q outside);
      unused = let held_same = held_front streams e h closed in let kept = touches.unused in omega (arith, held_same, kept);
      slots = ap (λ (n : ℕ). option_map (λ free. free + n) h.free_slots) (sym (slots_front streams e h none)) ∙ touches.slots;
    }

shaped_front : (t : ℕ) (streams : List Streamed) (e : Streamed) (h : Holdings) (signs : Signs) → AreShaped t (family (streams ++ e ∷ []) h signs) → AreShaped t (family streams h signs)
shaped_front t streams e h signs shaped =
    record {
      each = λ i s at. shaped.each i s (still_at streams e s i at);
      apart = λ i j a b differ first second. shaped.apart i j a b differ (still_at streams e a i first) (still_at streams e b j second);
    }

-- some went, and these are left
pub record Left (t : ℕ) (f g : Family) : Type 0 where
  pub shaped : AreShaped t g
  pub touches : TouchesAll t f g
  pub closed : AllClosed f → AllClosed g
  pub trail : EnteredEvents (HaveEnded f) f.signs.trail g.signs.trail
  pub grows : Grows f.signs g.signs

pub none_left : (t : ℕ) (f : Family) → AreShaped t f → Left t f f
none_left t f shaped = record { shaped = shaped; touches = touches_none t f; closed = λ all. all; trail = since_now (HaveEnded f) f.signs.trail (record { creates = refl; first = λ all. tt }); grows = grows_refl f.signs }

pub one_left : (t : ℕ) (f : Family) (all streams : List Streamed) (s : Streamed) (h : Holdings) (signs : Signs) (b : Scene) → all ≡ streams ++ s ∷ [] → Left t f (family all h signs) → Empties t (scene s h signs) b → b.stream.pages ≡ [] → b.stream.pinned ≡ None → Left t f (family streams b.held b.signs)
one_left t f all streams s h signs b split was empties none closed =
    let g : Family = family (streams ++ s ∷ []) h signs in
    let mid : Left t f g = subst (λ (ss : List Streamed). Left t f (family ss h signs)) split was in
    let step : FamilySteps (GoesAll g (changed (length streams) b g)) t g (changed (length streams) b g) = goes_step (length streams) mid.shaped (at_end streams s) empties in
    let same : set (streams ++ s ∷ []) (length streams) b.stream ≡ streams ++ b.stream ∷ [] = set-append_seam streams s [] b.stream in
    let touches : TouchesAll t g (family (streams ++ b.stream ∷ []) b.held b.signs) = subst (λ (ss : List Streamed). TouchesAll t g (family ss b.held b.signs)) same step.touches in
    record {
      shaped = shaped_front t streams b.stream b.held b.signs (subst (λ (ss : List Streamed). AreShaped t (family ss b.held b.signs)) same step.shaped);
      touches = touches_both f g (family streams b.held b.signs) t mid.touches (touches_front t g streams b.stream b.held b.signs none closed touches);
      trail =
          since_joined (HaveEnded f) (GoesAll g (changed (length streams) b g)) (HaveEnded f) f.signs.trail signs.trail b.signs.trail
          (λ first next one two. record {
            creates = let sum = creates_join first next in let none = one.creates in let more = two.creates in omega (arith, sum, none, more);
            first = λ all. both_pin_first first next (one.first all) (two.reads (mid.closed all)).first;
          })
          mid.trail step.trail;
      closed = λ all i r at. mid.closed all i r (still_at streams s r i at);
      grows = grows_trans f.signs signs b.signs mid.grows step.grows;
    }

pub all_left : (t : ℕ) (f : Family) (streams : List Streamed) (h : Holdings) (signs : Signs) → streams ≡ [] → Left t f (family streams h signs) → EndsAll t f (family [] h signs)
all_left t f streams h signs none was =
    let end : Left t f (family [] h signs) = subst (λ (ss : List Streamed). Left t f (family ss h signs)) none was in
    record { none = refl; touches = end.touches; trail = end.trail; grows = end.grows }
