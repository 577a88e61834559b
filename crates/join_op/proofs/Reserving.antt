-- The client of a join reserves more, and nothing else changes.
use Rattle.std.proofs.Common.{◌≡◌, ◌≢◌, ◌∙◌, ℕ, ◌+◌, ◌-◌, ◌*◌, ◌≤◌, [], ◌∷◌, ◌++◌, List, Option, Some, option_map, IsSome, is_some, Result, Ok, Err, OnOk, OnErr, if◌then◌else◌, refl, ap, sym, subst, arith, eq-eqb, ne_eqb}
use Rattle.std.specs.List.{slice_get, sum_by}
use Rattle.std.proofs.lemmas.Option.{none-some}
use Rattle.pool_model.specs.declared.event.Event.TheVariants.{IncreaseToFit}
use Rattle.reservation_tree.specs.declared.errors.PoolErr.{PoolErr}
use Rattle.store_api.specs.Changes.{after_reserve, raised}
use Rattle.store_api.specs.Emitters.{OthersStay}
use Rattle.store_api.specs.Entries.{MadeThese}
use Rattle.store_api.specs.Holdings.{Account, Holdings, LiveLoan, LivePage, account_of, length_of, no_account, or_else, unused_of}
use Rattle.store_api.specs.Refusals.{IsUntouched}
use Rattle.store_api.specs.Signs.{Grows, Signs}
use Rattle.store_api.specs.Tokens.{ClientToken, PageToken}
use Rattle.store_api.specs.declared.shapes.JoinShape.{JoinShape}
use Rattle.store_api.proofs.Names.{these_make}
use Rattle.store_api.proofs.Untouched.{others_stay}
use Rattle.tuple_stream.specs.Families.{AreShaped, ShowAll, family, held_in, slots_in}
use Rattle.tuple_stream.specs.Streamed.{Streamed}
use Rattle.tuple_stream.specs.Trails.{EnteredEvents, PinsFirst}
use Rattle.tuple_stream.proofs.Sinces.{since_so, since_these}
use Rattle.partition_stack.specs.Leaving.{LeavesOthers}
use Rattle.partition_stack.specs.Making.{MakesFew}
use Rattle.partition_stack.specs.Sides.{OwnBoth}
use Rattle.partition_stack.specs.Stack.{Stack}
use Rattle.partition_stack.proofs.Agreeing.{agreeing_rows, agreeing_shape}
use Rattle.partition_stack.proofs.Slots.{all_taken, taken}
use Rattle.join_op.specs.Joining.{ShowBoth, both}
use Rattle.join_op.specs.Operator.{IsOperator, operator, over_both}

-- a client may have reserved more: of its store nothing else changed
pub record Reserves (t : ℕ) (old new : Holdings) : Type 0 where
  pub others : OthersStay (Some t) old new
  pub pages : new.pages ≡ old.pages
  pub loans : new.loans ≡ old.loans
  pub free_slots : new.free_slots ≡ old.free_slots
  pub lives : IsSome (new.clients t)
  pub reservation : (account_of t old).reservation ≤ (account_of t new).reservation
  pub room : old.room + (account_of t old).reservation ≤ new.room + (account_of t new).reservation
  pub even : unused_of t new + (account_of t old).reservation ≡ unused_of t old + (account_of t new).reservation

reserves_none : (t : ℕ) (h : Holdings) → IsSome (h.clients t) → Reserves t h h
reserves_none t h lives =
    record { others = others_stay (Some t) h; pages = refl; loans = refl; free_slots = refl; lives = lives; reservation = omega arith; room = omega arith; even = refl }

reserves_more : (t bytes : ℕ) (old new : Holdings) → new ≡ after_reserve t bytes old → Reserves t old new
reserves_more t bytes old new is =
    let own : new.clients t ≡ Some (raised bytes (account_of t old)) = ap (λ (h : Holdings). h.clients t) is ∙ rw (eq-eqb t t refl) refl in
    let account : account_of t new ≡ raised bytes (account_of t old) = ap (or_else no_account) own in
    let reserved : (account_of t new).reservation ≡ (account_of t old).reservation + bytes = ap (λ (a : Account). a.reservation) account in
    let unused : unused_of t new ≡ unused_of t old + bytes = ap (λ (a : Account). a.unused) account in
    let room : new.room ≡ old.room - bytes = ap (λ (h : Holdings). h.room) is in
    let loans : new.loans ≡ old.loans = ap (λ (h : Holdings). h.loans) is in
    let pages : new.pages ≡ old.pages = ap (λ (h : Holdings). h.pages) is in
    record {
      others = record {
        block_len = ap (λ (h : Holdings). h.block_len) is;
        session = ap (λ (h : Holdings). h.session) is;
        query = ap (λ (h : Holdings). h.query) is;
        limit = ap (λ (h : Holdings). h.limit) is;
        live_clients = ap (λ (h : Holdings). h.live_clients) is;
        told = ap (λ (h : Holdings). h.told) is;
        reservation = let now = ap (λ (h : Holdings). h.reservation) is in omega (arith, now);
        others = λ u other. record {
          account = let apart : u ≢ t = λ same. other (ap Some (sym same)) in ap (λ (h : Holdings). h.clients u) is ∙ rw (ne_eqb u t apart) refl;
          pages = λ q page client. ((λ lives. sym (ap (λ (f : ℕ → Option LivePage). f q) pages) ∙ lives), (λ lives. ap (λ (f : ℕ → Option LivePage). f q) pages ∙ lives));
          loans = λ q loan client. ((λ lives. sym (ap (λ (f : ℕ → Option LiveLoan). f q) loans) ∙ lives), (λ lives. ap (λ (f : ℕ → Option LiveLoan). f q) loans ∙ lives));
        };
        alone = λ none. absurd (none-some t (sym none));
      };
      pages = pages;
      loans = loans;
      free_slots = ap (λ (h : Holdings). h.free_slots) is;
      lives = subst IsSome (sym own) refl;
      reservation = omega (arith, reserved);
      room = omega (arith, reserved, room);
      even = omega (arith, reserved, unused);
    }

-- whether it was refused or not
pub reserves : (result : Result Unit PoolErr) (t bytes : ℕ) (old new : Holdings) (before after : Signs) → IsSome (old.clients t) → OnOk result (new ≡ after_reserve t bytes old) → OnErr result (IsUntouched old new before after) → Reserves t old new
reserves (Ok done) t bytes old new before after lives ok err = reserves_more t bytes old new ok
reserves (Err e) t bytes old new before after lives ok err = subst (λ (h : Holdings). Reserves t old h) (sym err.held) (reserves_none t old lives)

pub reserved_first : (result : Result Unit PoolErr) (t bytes maker : ℕ) (old new : Holdings) (before after : Signs) → OnOk result (MadeThese maker (IncreaseToFit t bytes ∷ []) before after) → OnErr result (IsUntouched old new before after) → EnteredEvents PinsFirst before.trail after.trail
reserved_first (Ok done) t bytes maker old new before after ok err =
    since_so (λ events. events ≡ IncreaseToFit t bytes ∷ []) PinsFirst before.trail after.trail (λ events are. subst PinsFirst (sym are) tt) (since_these maker (IncreaseToFit t bytes ∷ []) before after ok)
reserved_first (Err e) t bytes maker old new before after ok err =
    since_so (λ events. events ≡ []) PinsFirst before.trail after.trail (λ events are. subst PinsFirst (sym are) tt) (since_these old.session [] before after err.entries)

-- no page is made for it
pub reserved_made : (result : Result Unit PoolErr) (t bytes maker : ℕ) (old new : Holdings) (before after : Signs) → OnOk result (MadeThese maker (IncreaseToFit t bytes ∷ []) before after) → OnErr result (IsUntouched old new before after) → MakesFew 0 before after
reserved_made (Ok done) t bytes maker old new before after ok err = these_make maker 0 (IncreaseToFit t bytes ∷ []) before after (omega arith) ok
reserved_made (Err e) t bytes maker old new before after ok err = these_make old.session 0 [] before after (omega arith) err.entries

module _ (t : ℕ) (old new : Holdings) (before after : Signs) (more : Reserves t old new) where
  agree : (s : Streamed) (k : ℕ) (p : PageToken) → slice_get s.pages k ≡ Some p → new.pages p.name ≡ old.pages p.name
  agree s k p at = ap (λ (f : ℕ → Option LivePage). f p.name) more.pages

  shaped_still : (streams : List Streamed) → AreShaped t (family streams old before) → AreShaped t (family streams new after)
  shaped_still streams is = record { each = λ i s there. agreeing_shape t s old new (is.each i s there) more.others.block_len (agree s); apart = is.apart }

  shown_still : (streams : List Streamed) (rows : ℕ → List (List ℕ)) → AreShaped t (family streams old before) → ShowAll rows (family streams old before) → ShowAll rows (family streams new after)
  shown_still streams rows is shows = λ i s there. agreeing_rows t s old new (is.each i s there) more.others.block_len (agree s) (rows i) (shows i s there)

  held_still : (streams : List Streamed) → held_in (family streams new after) ≡ held_in (family streams old before)
  held_still streams = ap (λ (n : ℕ). sum_by (λ (s : Streamed). if is_some s.pinned then s.page_blocks * n else 0) streams) more.others.block_len

  own_reserved : (left right : List Streamed) → OwnBoth t 0 left right old before → OwnBoth t 0 left right new after
  own_reserved left right own =
      record {
        lives = more.lives;
        left_shaped = shaped_still left own.left_shaped;
        right_shaped = shaped_still right own.right_shaped;
        apart = own.apart;
        only = λ q page lives outside beside. own.only q page (sym (ap (λ (f : ℕ → Option LivePage). f q) more.pages) ∙ lives) outside beside;
        even =
            let even = own.even in
            let moved = more.even in
            let one = held_still left in
            let two = held_still right in
            omega (arith, even, moved, one, two);
      }

  pub reserved_slots : (left right : Stack) → slots_in (over_both left right new after) ≡ slots_in (over_both left right old before)
  reserved_slots left right =
      ap (option_map (λ (n : ℕ). n + taken (left.streams ++ right.streams) new)) more.free_slots
      ∙ ap (λ (m : ℕ). option_map (λ (n : ℕ). n + m) old.free_slots) (all_taken (left.streams ++ right.streams) old new (λ i s at. agree s))

  pub reserved_leaves : Grows before after → LeavesOthers t old new before after
  reserved_leaves grows = record { others = more.others; grows = grows; reserved = more.reservation; room = more.room }

module _ (c : ClientToken) (shape : JoinShape) (left right : Stack) (old new : Holdings) (before after : Signs) (is : IsOperator (operator c shape left right) old before) (more : Reserves c.tracker old new) where
  pub reserved_op : IsOperator (operator c shape left right) new after
  reserved_op =
      record {
        shape = is.shape;
        sized = is.sized;
        alike = is.alike;
        client = more.lives;
        least =
            let len : length_of left.page_blocks new ≡ length_of left.page_blocks old = ap (λ (n : ℕ). left.page_blocks * n) more.others.block_len in
            let least = is.least in
            let kept = more.reservation in
            omega (arith, kept, least, ap (λ (n : ℕ). 20 * n) len);
        owns = own_reserved c.tracker old new before after more left.streams right.streams is.owns;
        loans = λ q loan there. is.loans q loan (sym (ap (λ (f : ℕ → Option LiveLoan). f q) more.loans) ∙ there);
      }

  pub reserved_shows : (lefts rights : ℕ → List (List ℕ)) → ShowBoth lefts rights (both left right old before) → ShowBoth lefts rights (both left right new after)
  reserved_shows lefts rights shows =
      record {
        told = more.others.told ∙ shows.told;
        left = shown_still c.tracker old new before after more left.streams lefts is.owns.left_shaped shows.left;
        right = shown_still c.tracker old new before after more right.streams rights is.owns.right_shaped shows.right;
        left_whole = shows.left_whole;
        right_whole = shows.right_whole;
      }
