-- A client of the query comes, its grouping works, and both end.
use Rattle.std.proofs.Common.{arith, ◌≡◌, ◌∙◌, ◌+◌, ◌*◌, ℕ, List, [], ◌∷◌, ◌++◌, ◌⊎◌, true, replicate, Option, Some, None, IfSome, option_map, refl, ap, sym, subst, inl, inr, append_assoc}
use Rattle.std.proofs.lemmas.List.{append_cancel_left}
use Rattle.std.proofs.lemmas.List.Elements.{All-cons}
use Rattle.pool_model.specs.declared.event.Event.{Event}
use Rattle.pool_model.specs.declared.event.Event.TheVariants.{AddTracker, CloseTracker, Increase, MoveReservation}
use Rattle.row_codec.specs.declared.values.Value.{Value}
use Rattle.reservation_tree.specs.declared.errors.PoolErr.{PoolErr}
use Rattle.store_api.proofs.Answered.{answered_after, answered_before}
use Rattle.store_api.specs.Changes.{after_end_client}
use Rattle.store_api.specs.Entries.{MadeThese}
use Rattle.store_api.specs.Holdings.{Account, Holdings, account_of, no_account, or_else}
use Rattle.pool_model.specs.declared.entry.Entry.{Entry}
use Rattle.store_api.specs.Signs.{Grows, Prolongs, Signs}
use Rattle.store_api.specs.Tokens.{ClientToken}
use Rattle.tuple_stream.specs.Families.{AllClosed, Family, slots_in}
use Rattle.tuple_stream.specs.Trails.{EnteredEvents, events_of, HasPin, IsBuilding, Leaves, PinsFirst}
use Rattle.tuple_stream.proofs.PinsFirst.{both_pin_first, pins_first_join}
use Rattle.tuple_stream.proofs.Sinces.{since_joined, since_these}
use Rattle.partition_stack.specs.Leaving.{LeavesOthers, MayStart}
use Rattle.partition_stack.specs.Stack.{empty, first_sixteen, over}
use Rattle.partition_stack.proofs.Slots.{more_taken, taken}
use Rattle.group_op.specs.Laid.{HoldsGroups}
use Rattle.group_op.specs.Starting.{AllStart, HasStarted}
use Rattle.query_plan.specs.Sizes.{least_of, page_len}
use Rattle.query_plan.specs.declared.plan.Query.{Query}
use Rattle.query_run.specs.Both.{Told}
use Rattle.query_run.specs.Causes.{OfPool}
use Rattle.query_run.specs.Input.{IsAccepted, passing}
use Rattle.query_run.specs.Inside.{HasOwn}
use Rattle.query_run.specs.Plans.{IsGrouping, shape_of}
use Rattle.query_run.specs.Stopped.{IsLeft, IsWantBelow, MayStop, StoppedBy, StoppedOver, StoppedQuery, amounts_of}
use Rattle.query_run.specs.Through.{need}
use Rattle.query_run.specs.Trail.{HoldsPartials, KeptAndRead, KeptGroups}
use Rattle.query_plan.specs.declared.outcome.QueryErr.{QueryErr}
use Rattle.query_run.proofs.Going.{of_pool_both}
use Rattle.query_run.proofs.KeptFirst.{coming}

-- ---- the client comes

pub least_pages : (plan : Query) (block_len : ℕ) → plan.right ≡ None → least_of plan block_len ≡ 20 * page_len plan block_len
least_pages plan block_len alone = rw alone (omega arith)

pub own_account : (c : ClientToken) (most bytes : ℕ) (old new : Holdings) → HasOwn c most bytes old new → account_of c.tracker new ≡ record { limit = most; reservation = bytes; unused = bytes }
own_account c most bytes old new own = ap (or_else no_account) own.account

-- what a query without a right input reserves
pub one_amount : (plan : Query) (block_len : ℕ) → plan.right ≡ None → amounts_of plan block_len ≡ least_of plan block_len ∷ []
one_amount plan block_len alone = let least = least_pages plan block_len alone in rw least (rw alone refl)

-- a grouping of this client is one over the store, and nothing was fed
pub starts_here : (plan : Query) (c : ClientToken) (most bytes : ℕ) (old new : Holdings) (signs : Signs) → AllStart → IsGrouping plan → HasOwn c most bytes old new → bytes ≡ least_of plan old.block_len
    → HasStarted c plan.page_blocks (shape_of plan) new signs
starts_here plan c most bytes old new signs all grouping own is =
    let account = own_account c most bytes old new own in
    let least = least_pages plan old.block_len grouping.alone in
    let may : MayStart c plan.page_blocks new = record {
      lives = rw own.account refl;
      idle = own.idle;
      least = rw (own.block_len, account) (omega (arith, least, is));
      free = ap (λ (a : Account). a.unused) account ∙ sym (ap (λ (a : Account). a.reservation) account);
    } in
    all c plan.page_blocks (shape_of plan) new signs grouping.shape grouping.paged may

-- no more slots
pub no_more_slots : (n : ℕ) → n ≡ 0 → (free : Option ℕ) → option_map (λ (m : ℕ). m + n) free ≡ free
no_more_slots n is None = refl
no_more_slots n is (Some m) = let same : m + n ≡ m = omega (arith, is) in ap Some same

-- the free slots at the start are all there are
pub slots_first : (blocks : ℕ) (h : Holdings) (signs : Signs) → slots_in (over (first_sixteen blocks) h signs) ≡ h.free_slots
slots_first blocks h signs = no_more_slots (taken (replicate 16 (empty blocks)) h) (more_taken [] blocks 16 h) h.free_slots

-- ---- what stopped it

-- for want of slots it was stopped only where there were fewer than it needs
abbrev pub WantsEnough : Query → Option Told → Holdings → PoolErr → Type 0
WantsEnough plan told first e = first.told ≡ true → IfSome told (λ both. IsWantBelow (need plan (page_len plan first.block_len) both * plan.page_blocks) first.free_slots e)

pub stopped_around : (plan : Query) (told : Option Told) (blocks' : ℕ) (total : Option ℕ) (first : Holdings) (s0 s1 s2 s3 : Signs) (e : QueryErr) → blocks' ≡ plan.page_blocks → total ≡ first.free_slots → Grows s0 s1 → Grows s2 s3
    → StoppedOver blocks' total s1 s2 e → OfPool (WantsEnough plan told first) e → MayStop plan told first s0 s3 e
stopped_around plan told blocks' total first s0 s1 s2 s3 e same-blocks same-total grows later = of_pool_both (StoppedBy blocks' total s1 s2) (WantsEnough plan told first) (StoppedQuery plan told first s0 s3)
    (λ why stopped enough. record {
      answered = answered_after why s0 s2 s3 (answered_before why s0 s1 s2 grows stopped.answered) later;
      want = rw (same-total, same-blocks) at (stopped.want);
      enough = enough;
    }) e

-- ---- what is left

pub left_around : (c : ClientToken) (most bytes : ℕ) (h0 h1 h2 h3 : Holdings) (s1 s2 s3 : Signs) → HasOwn c most bytes h0 h1
    → h0.live_clients ≡ 0 → LeavesOthers c.tracker h1 h2 s1 s2 → LeavesOthers c.tracker h2 h3 s2 s3 → IsLeft h0 (after_end_client c.tracker h3)
left_around c most bytes h0 h1 h2 h3 s1 s2 s3 own none first then =
    let account = own_account c most bytes h0 h1 own in
    let reserved : (account_of c.tracker h1).reservation ≡ bytes = ap (λ (a : Account). a.reservation) account in
    let room = own.room in
    let one = first.room in
    let two = then.room in
    let live = own.live_clients in
    let live-one = first.others.live_clients in
    let live-two = then.others.live_clients in
    let rises-one = first.others.reservation in
    let rises-two = then.others.reservation in
    let reservation = own.reservation in
    record {
      live_clients = omega (arith, none, live, live-one, live-two);
      room = omega (arith, room, one, two, reserved);
      reservation = omega (arith, rises-one, rises-two, reservation);
      limit = then.others.limit ∙ first.others.limit ∙ own.limit;
      query = then.others.query ∙ first.others.query ∙ own.query;
      session = then.others.session ∙ first.others.session ∙ own.session;
      block_len = then.others.block_len ∙ first.others.block_len ∙ own.block_len;
      told = then.others.told ∙ first.others.told ∙ own.told;
    }

-- where a client that came ends, nothing is left
pub left_behind : (c : ClientToken) (most bytes : ℕ) (old new : Holdings) → old.live_clients ≡ 0 → HasOwn c most bytes old new → IsLeft old (after_end_client c.tracker new)
left_behind c most bytes old new none own =
    let is : (account_of c.tracker new).reservation ≡ bytes = ap (λ (o : Option Account). (or_else no_account o).reservation) own.account in
    let room = own.room in
    let live = own.live_clients in
    let reservation = own.reservation in
    record {
      live_clients = omega (arith, none, live);
      room = omega (arith, is, room);
      reservation = omega (arith, reservation);
      limit = own.limit;
      query = own.query;
      session = own.session;
      block_len = own.block_len;
      told = own.told;
    }

-- ---- what was kept

-- a client that comes leaves no page
leaves-behind : (c query limit bytes : ℕ) (rows : List (List ℕ)) (next : List Event) → Leaves rows next → Leaves rows (coming c query limit bytes ++ next)
leaves-behind c query limit bytes rows next leaves = record {
  building = All-cons IsBuilding (AddTracker c query limit None) (Increase c bytes ∷ next) tt (All-cons IsBuilding (Increase c bytes) next tt leaves.building);
  once = leaves.once;
  rows_are = leaves.rows_are;
}

-- the grouping ended, and then its client
abbrev pub ending : ℕ → ℕ → ℕ → List Event
ending c query bytes = MoveReservation c query bytes ∷ CloseTracker c ∷ []

-- where no page was pinned any more, none is left before one is pinned
abbrev pub EndsFirst : Family → List Event → Type 0
EndsFirst g events = AllClosed g → PinsFirst events

-- what holds of the entries under a premise holds so of what the trail grew by
pub entered-if : (A : Type 0) (P : List Event → Type 0) (old new : Option (List Entry)) → Prolongs old new → (A → EnteredEvents P old new) → EnteredEvents (λ events. A → P events) old new
entered-if A P None new grew so = grew
entered-if A P (Some before) new grew so = (
  grew.0,
  grew.1,
  λ a.
      let has = so a in
      let same : Some (before ++ has.0) ≡ Some (before ++ grew.0) = sym has.1 ∙ grew.1 in
      let more : has.0 ≡ grew.0 = append_cancel_left before has.0 grew.0 (let e : before ++ has.0 ≡ before ++ grew.0 = cc in e) in
      subst (λ (es : List Entry). P (events_of es)) more has.2,
)

pub ends_first : (g : Family) (before after : Signs) → Grows before after → (AllClosed g → EnteredEvents PinsFirst before.trail after.trail) → EnteredEvents (EndsFirst g) before.trail after.trail
ends_first g before after grows ends = entered-if (AllClosed g) PinsFirst before.trail after.trail grows.trail ends

ended-both : (g : Family) (c query bytes : ℕ) (events next : List Event) → EndsFirst g events → next ≡ ending c query bytes → EndsFirst g (events ++ next)
ended-both g c query bytes events next ends are = λ closed. both_pin_first events next (ends closed) (subst PinsFirst (sym are) tt)

-- what was kept and read, and what came behind it
pub record HoldsAndEnds (plan : Query) (page : ℕ) (rows : List (List Value)) (g : Family) (events : List Event) : Type 0 where
  pub holds : List Event
  pub ends : List Event
  pub split : events ≡ holds ++ ends
  pub held : HoldsGroups (shape_of plan) page rows g holds
  pub ended : EndsFirst g ends

holds-whole : (plan : Query) (page : ℕ) (rows : List (List Value)) (g : Family) (c query limit bytes : ℕ) (first events : List Event) → first ≡ coming c query limit bytes
    → HoldsAndEnds plan page rows g events → HoldsPartials plan page rows (first ++ events)
holds-whole plan page rows g c query limit bytes first events are both =
    let held = both.held in
    let pinned : HasPin held.later ⊎ PinsFirst both.ends = elim held.reads.pinned [ inl pin ↦ inl pin | inr closed ↦ inr (both.ended closed) ] in
    let all : events ≡ held.laid ++ (held.later ++ both.ends) = both.split ∙ ap (λ es. es ++ both.ends) held.split ∙ append_assoc held.laid held.later both.ends in
    record {
      laid = first ++ held.laid;
      later = held.later ++ both.ends;
      split = ap (λ es. first ++ es) all ∙ sym (append_assoc first held.laid (held.later ++ both.ends));
      partials = held.rows;
      leaves = subst (λ es. Leaves held.rows (es ++ held.laid)) (sym are) (leaves-behind c query limit bytes held.rows held.laid held.leaves);
      reads = pins_first_join held.later both.ends held.reads.first pinned;
      formed = held.formed;
      few = held.few;
      stand = held.stand;
      small = held.small;
    }

-- a client came, rows were kept and read, the grouping ended, and then the client
pub kept_whole : (plan : Query) (page other : ℕ) (told : Option (List ℕ)) (g : Family) (maker c query limit bytes later-maker later-c later-query later-bytes : ℕ) (s0 s1 s2 s3 s4 : Signs)
    → MadeThese maker (coming c query limit bytes) s0 s1 → KeptAndRead plan page told g s1.trail s2.trail → EnteredEvents (EndsFirst g) s2.trail s3.trail
    → MadeThese later-maker (ending later-c later-query later-bytes) s3 s4 → page ≡ other → KeptGroups plan other told s0.trail s4.trail
kept_whole plan page other told g maker c query limit bytes later-maker later-c later-query later-bytes s0 s1 s2 s3 s4 came kept ends gone same =
    let ended : EnteredEvents (EndsFirst g) s2.trail s4.trail =
    since_joined (EndsFirst g) (λ events. events ≡ ending later-c later-query later-bytes) (EndsFirst g) s2.trail s3.trail s4.trail
    (λ events next ends are. ended-both g later-c later-query later-bytes events next ends are) ends (since_these later-maker (ending later-c later-query later-bytes) s3 s4 gone) in
    let both : EnteredEvents (HoldsAndEnds plan page kept.rows g) s1.trail s4.trail =
    since_joined (HoldsGroups (shape_of plan) page kept.rows g) (EndsFirst g) (HoldsAndEnds plan page kept.rows g) s1.trail s2.trail s4.trail
    (λ events next held end. record { holds = events; ends = next; split = refl; held = held; ended = end }) kept.kept ended in
    let all : EnteredEvents (HoldsPartials plan page kept.rows) s0.trail s4.trail =
    since_joined (λ events. events ≡ coming c query limit bytes) (HoldsAndEnds plan page kept.rows g) (HoldsPartials plan page kept.rows) s0.trail s1.trail s4.trail
    (λ first events are both. holds-whole plan page kept.rows g c query limit bytes first events are both) (since_these maker (coming c query limit bytes) s0 s1 came) both in
    record {
      rows = kept.rows;
      read = subst (λ n. IfSome told (λ bytes. IsAccepted plan n bytes × (kept.rows ≡ passing plan bytes))) same kept.read;
      kept = subst (λ n. EnteredEvents (HoldsPartials plan n kept.rows) s0.trail s4.trail) same all;
    }
