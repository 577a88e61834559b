-- A client of the query comes, its join works, and both end.
use Rattle.std.proofs.Common.{arith, ◌≡◌, ◌∙◌, ◌*◌, ◌&&◌, ℕ, Bool, true, List, [], ◌∷◌, ◌++◌, ◌⊎◌, Option, None, Some, false, IfSome, refl, ap, sym, subst, inl, inr, append_assoc}
use Rattle.std.specs.Prelude.{⊤}
use Rattle.std.proofs.lemmas.List.Elements.{All-cons}
use Rattle.pool_model.specs.declared.entry.Entry.{Entry}
use Rattle.pool_model.specs.declared.event.Event.{Event}
use Rattle.pool_model.specs.declared.event.Event.TheVariants.{AddTracker, Increase}
use Rattle.row_codec.specs.declared.values.Value.{Value}
use Rattle.store_api.specs.Entries.{MadeThese}
use Rattle.store_api.specs.Holdings.{Account, Holdings}
use Rattle.store_api.specs.Signs.{Grows, Signs}
use Rattle.store_api.specs.Tokens.{ClientToken}
use Rattle.store_api.specs.declared.shapes.JoinShape.{JoinShape}
use Rattle.tuple_stream.specs.Families.{AllClosed, Family}
use Rattle.tuple_stream.specs.Trails.{EnteredEvents, HasPin, IsBuilding, PinsFirst}
use Rattle.tuple_stream.proofs.PinsFirst.{both_pin_first, pins_first_join}
use Rattle.tuple_stream.proofs.Sinces.{since_joined, since_so, since_these}
use Rattle.partition_stack.specs.Leaving.{MayStart}
use Rattle.join_op.specs.Laid.{HoldsSides, LeavesSide}
use Rattle.join_op.specs.Starting.{AllStart, HasStarted}
use Rattle.join_op.specs.Stored.{Side}
use Rattle.query_plan.specs.Sizes.{groups, joins, least_of, operators, page_len}
use Rattle.query_plan.specs.declared.plan.Query.{Query}
use Rattle.query_plan.specs.declared.plan.Side.TheVariants.{Right}
use Rattle.query_plan.specs.declared.plan.SidePlan.{SidePlan}
use Rattle.query_run.specs.Input.{IsAccepted, IsAcceptedIn, passing, passing_in}
use Rattle.query_run.specs.Inside.{HasOwn}
use Rattle.query_run.specs.Joined.{KeptBoth}
use Rattle.query_run.specs.Plans.{IsRunnable, join_shape_of}
use Rattle.query_run.specs.Stopped.{amounts_of}
use Rattle.query_run.specs.Trail.{HoldsRows, KeptRows, KeptSides, KeptWith}
use Rattle.query_run.proofs.Around.{ending, entered-if, own_account}
use Rattle.query_run.proofs.KeptFirst.{coming}

-- ---- the join starts

and-false : (b : Bool) → (b && false) ≡ false
and-false true = refl
and-false false = refl

least-pages : (plan : Query) (block_len : ℕ) → groups plan ≡ false → least_of plan block_len ≡ 20 * page_len plan block_len
least-pages plan block_len alone = let none = and-false (joins plan) in rw alone (rw none (omega arith))

one-operator : (plan : Query) → groups plan ≡ false → operators plan ≡ 1
one-operator plan alone = let none = and-false (joins plan) in rw alone (rw none refl)

pub one_join : (plan : Query) (block_len : ℕ) → groups plan ≡ false → amounts_of plan block_len ≡ least_of plan block_len ∷ []
one_join plan block_len alone = let least = least-pages plan block_len alone in let one = one-operator plan alone in rw least (rw one refl)

pub joins_here : (plan : Query) (right : SidePlan) (c : ClientToken) (most bytes : ℕ) (old new : Holdings) (signs : Signs) → AllStart → IsRunnable plan → plan.right ≡ Some right → groups plan ≡ false
    → HasOwn c most bytes old new → bytes ≡ least_of plan old.block_len → HasStarted c plan.page_blocks (join_shape_of plan right) new signs
joins_here plan right c most bytes old new signs all is planned alone own same =
    let account = own_account c most bytes old new own in
    let least = least-pages plan old.block_len alone in
    let may : MayStart c plan.page_blocks new = record {
      lives = rw own.account refl;
      idle = own.idle;
      least = rw (own.block_len, account) (omega (arith, least, same));
      free = ap (λ (a : Account). a.unused) account ∙ sym (ap (λ (a : Account). a.reservation) account);
    } in
    all c plan.page_blocks (join_shape_of plan right) new signs (rw planned at is.join) is.paged may

-- ---- what was kept

-- what follows from what is so while no page was pinned again
pub holds_so : (shape : JoinShape) (lefts rights : List (List Value)) (f g : Family) (still next : Type 0) (t0 t1 : Option (List Entry)) → (still → next) → EnteredEvents (HoldsSides shape lefts rights f g still) t0 t1 → EnteredEvents (HoldsSides shape lefts rights f g next) t0 t1
holds_so shape lefts rights f g still next t0 t1 so held =
    since_so (HoldsSides shape lefts rights f g still) (HoldsSides shape lefts rights f g next) t0 t1
    (λ events has. record {
      lefts_laid = has.lefts_laid;
      rights_laid = has.rights_laid;
      later = has.later;
      split = has.split;
      left = has.left;
      right = has.right;
      once = has.once;
      reads = record { first = has.reads.first; pinned = elim has.reads.pinned [ inl pin ↦ inl pin | inr closed ↦ inr (closed.0, closed.1, so closed.2) ] };
    })
    held

-- a client that comes leaves no page and makes none
pub leaves_behind : (side : Side) (fed : List (List Value)) (c query limit bytes : ℕ) (next : List Event) → LeavesSide side fed next → LeavesSide side fed (coming c query limit bytes ++ next)
leaves_behind side fed c query limit bytes next left = record {
  rows = left.rows;
  leaves = record {
    building = All-cons IsBuilding (AddTracker c query limit None) (Increase c bytes ∷ next) tt (All-cons IsBuilding (Increase c bytes) next tt left.leaves.building);
    once = left.leaves.once;
    rows_are = left.leaves.rows_are;
  };
  made = left.made;
  formed = left.formed;
  same = left.same;
}

-- where no page of either side was pinned any more, none is left before one is pinned
abbrev pub BothEndFirst : Family → Family → List Event → Type 0
BothEndFirst f g events = AllClosed f × AllClosed g → PinsFirst events

pub both_end_first : (f g : Family) (before after : Signs) → Grows before after → (AllClosed f → AllClosed g → EnteredEvents PinsFirst before.trail after.trail) → EnteredEvents (BothEndFirst f g) before.trail after.trail
both_end_first f g before after grows ends = entered-if (AllClosed f × AllClosed g) PinsFirst before.trail after.trail grows.trail (λ both. ends both.0 both.1)

pub ended_both : (f g : Family) (c query bytes : ℕ) (events next : List Event) → BothEndFirst f g events → next ≡ ending c query bytes → BothEndFirst f g (events ++ next)
ended_both f g c query bytes events next ends are = λ closed. both_pin_first events next (ends closed) (subst PinsFirst (sym are) tt)

pub record HoldsAndEnds (shape : JoinShape) (lefts rights : List (List Value)) (f g : Family) (events : List Event) : Type 0 where
  pub holds : List Event
  pub ends : List Event
  pub split : events ≡ holds ++ ends
  pub held : HoldsSides shape lefts rights f g ⊤ holds
  pub ended : BothEndFirst f g ends

holds-whole : (shape : JoinShape) (lefts rights : List (List Value)) (f g : Family) (c query limit bytes : ℕ) (first events : List Event) → first ≡ coming c query limit bytes
    → HoldsAndEnds shape lefts rights f g events → HoldsRows shape lefts rights (first ++ events)
holds-whole shape lefts rights f g c query limit bytes first events are both =
    let held = both.held in
    let pinned : HasPin held.later ⊎ PinsFirst both.ends = elim held.reads.pinned [ inl pin ↦ inl pin | inr closed ↦ inr (both.ended (closed.0, closed.1)) ] in
    let all : events ≡ held.lefts_laid ++ (held.rights_laid ++ (held.later ++ both.ends)) =
    both.split ∙ ap (λ es. es ++ both.ends) held.split ∙ append_assoc held.lefts_laid (held.rights_laid ++ held.later) both.ends ∙ ap (λ es. held.lefts_laid ++ es) (append_assoc held.rights_laid held.later both.ends) in
    let whole : HoldsRows shape lefts rights (coming c query limit bytes ++ events) = record {
      lefts_laid = coming c query limit bytes ++ held.lefts_laid;
      rights_laid = held.rights_laid;
      later = held.later ++ both.ends;
      split = ap (λ es. coming c query limit bytes ++ es) all;
      left = leaves_behind _ lefts c query limit bytes held.lefts_laid held.left;
      right = held.right;
      once = held.once;
      reads = pins_first_join held.later both.ends held.reads.first pinned;
    } in
    subst (λ es. HoldsRows shape lefts rights (es ++ events)) (sym are) whole

-- a client came, rows were kept and read, the join ended, and then the client
pub kept_joined : (plan : Query) (right : SidePlan) (page other : ℕ) (lefts_told rights_told : Option (List ℕ)) (f g : Family) (maker c query limit bytes later-maker later-c later-query later-bytes : ℕ) (s0 s1 s2 s3 s4 : Signs) → plan.right ≡ Some right
    → MadeThese maker (coming c query limit bytes) s0 s1 → KeptBoth plan right page lefts_told rights_told f g s1.trail s2.trail → EnteredEvents (BothEndFirst f g) s2.trail s3.trail
    → MadeThese later-maker (ending later-c later-query later-bytes) s3 s4 → page ≡ other → KeptRows plan other lefts_told rights_told s0.trail s4.trail
kept_joined plan right page other lefts_told rights_told f g maker c query limit bytes later-maker later-c later-query later-bytes s0 s1 s2 s3 s4 planned came kept ends gone same =
    let shape = join_shape_of plan right in
    let ended : EnteredEvents (BothEndFirst f g) s2.trail s4.trail =
    since_joined (BothEndFirst f g) (λ events. events ≡ ending later-c later-query later-bytes) (BothEndFirst f g) s2.trail s3.trail s4.trail
    (λ events next ends are. ended_both f g later-c later-query later-bytes events next ends are) ends (since_these later-maker (ending later-c later-query later-bytes) s3 s4 gone) in
    let both : EnteredEvents (HoldsAndEnds shape kept.lefts kept.rights f g) s1.trail s4.trail =
    since_joined (HoldsSides shape kept.lefts kept.rights f g ⊤) (BothEndFirst f g) (HoldsAndEnds shape kept.lefts kept.rights f g) s1.trail s2.trail s4.trail
    (λ events next held end. record { holds = events; ends = next; split = refl; held = held; ended = end }) kept.kept ended in
    let all : EnteredEvents (HoldsRows shape kept.lefts kept.rights) s0.trail s4.trail =
    since_joined (λ events. events ≡ coming c query limit bytes) (HoldsAndEnds shape kept.lefts kept.rights f g) (HoldsRows shape kept.lefts kept.rights) s0.trail s1.trail s4.trail
    (λ first events are both. holds-whole shape kept.lefts kept.rights f g c query limit bytes first events are both) (since_these maker (coming c query limit bytes) s0 s1 came) both in
    let sides : KeptSides plan right other lefts_told rights_told s0.trail s4.trail = record {
      lefts = kept.lefts;
      rights = kept.rights;
      lefts_read = subst (λ n. IfSome lefts_told (λ bytes. IsAccepted plan n bytes × (kept.lefts ≡ passing plan bytes))) same kept.lefts_read;
      rights_read = subst (λ n. IfSome rights_told (λ bytes. IsAcceptedIn plan Right right n bytes × (kept.rights ≡ passing_in right bytes))) same kept.rights_read;
      kept = all;
    } in
    subst (λ (o : Option SidePlan). KeptWith o plan other lefts_told rights_told s0.trail s4.trail) (sym planned) sides
