-- The top partition was read while its groups went to an emitter, and then it went.
use Rattle.std.proofs.Common.{◌≡◌, ◌≢◌, ◌∙◌, inl, inr, ℕ, ◌+◌, ◌-◌, ◌*◌, ◌<◌, ◌≤◌, List, [], ◌∷◌, ◌++◌, length, length-append, take, get_or, true, false, Option, Some, None, IsSome, is_some, if◌then◌else◌, Result, Ok, Err, IfErr, OnOk, refl, ap, sym, subst, arith}
use Rattle.std.specs.Prelude.{All, option_map, slice_get, sum_by}
use Rattle.std.proofs.lemmas.List.{take_all}
use Rattle.std.proofs.lemmas.List.FromFn.{length-map-range_with_len}
use Rattle.std.proofs.lemmas.List.Sums.{sum_by-append, sum_by-cons}
use Rattle.std.proofs.lemmas.Option.{slice_get_within}
use Rattle.row_codec.specs.declared.values.Value.{Value}
use Rattle.row_codec.specs.Order.{hash_of, nibble_of, path_of}
use Rattle.store_api.specs.declared.op_err.OpErr.{OpErr}
use Rattle.store_api.specs.declared.op_err.OpErr.TheVariants.{Pool, Sink}
use Rattle.store_api.specs.declared.shapes.Shape.{Shape}
use Rattle.store_api.specs.Emitters.{CameOf, HasClient, SameOwn}
use Rattle.store_api.specs.Holdings.{Account, Holdings, LivePage, account_of, length_of, no_account, no_loan, no_page, or_else, page_of, unused_of}
use Rattle.store_api.specs.Signs.{Grows, Signs}
use Rattle.store_api.specs.Tokens.{ClientToken, PageToken}
use Rattle.store_api.proofs.Answered.{answered_after}
use Rattle.store_api.proofs.Puts.{there}
use Rattle.tuple_stream.specs.Families.{AllClosed, AreDisjoint, AreShaped, IsOutside, ShowAll, family, held_in, slots_in}
use Rattle.tuple_stream.specs.Spending.{Empties}
use Rattle.tuple_stream.specs.Steps.{Scene, scene}
use Rattle.tuple_stream.specs.Streamed.{Streamed}
use Rattle.tuple_stream.specs.Streams.{HasRows, IsApart, IsOwnPage, IsShaped}
use Rattle.tuple_stream.specs.Touches.{held, slots_of, slots_with, with_unused}
use Rattle.tuple_stream.proofs.Chosen.{at_place}
use Rattle.tuple_stream.proofs.Empty.{empty}
use Rattle.tuple_stream.proofs.Frames.{still_some}
use Rattle.tuple_stream.proofs.PageLists.{at_end, still_at}
use Rattle.bucket_table.specs.Lending.{IsOwn, IsTableOf, loans_of}
use Rattle.bucket_table.specs.Tables.{Lent, Table}
use Rattle.bucket_table.proofs.Lent.{moved_own}
use Rattle.partition_stack.specs.Emitting.{room_with}
use Rattle.partition_stack.specs.Slots.{IsWantOf, KeepSlots}
use Rattle.partition_stack.specs.Stack.{IsStack, Stack, over}
use Rattle.partition_stack.proofs.Agreeing.{agreeing_rows, agreeing_shape}
use Rattle.partition_stack.proofs.ListPlaces.{front_or_behind, only_one, was_at}
use Rattle.partition_stack.proofs.Room.{room_for_each}
use Rattle.partition_stack.proofs.Slots.{all_taken, keep_front, keep_own, taken, times_all, want_front}
use Rattle.group_rows.specs.Partials.{Partial, combined_of}
use Rattle.group_rows.proofs.Paths.{one_path}
use Rattle.group_op.specs.Emission.{IsBeside, WentOn}
use Rattle.group_op.specs.Finishing.{IsPart, LeavesBeside, ServesBeside, StandsStill}
use Rattle.group_op.specs.Held.{AreEntries, IsHeld, Leaves, lent, state}
use Rattle.group_op.specs.Scanning.{IsReadable, ReadBeside, Shares, StaysEmitter, groups_by_bytes}
use Rattle.group_op.specs.Stored.{grouping_of, partials_at}
use Rattle.group_op.proofs.Keeping.{room_of_read}
use Rattle.group_op.proofs.Besides.{beside_own, held_popped, leaves_popped, own_same, serves_then, shows_popped, slots_popped, stands_own}

-- ---- what an emitter is asked for, and what it leaves

pub stands_read : {m n : ℕ} (admits_old admits : List Value → Type 0) (client_old client : Option ℕ) (faults_old faults : ℕ) (was now : List (List Value) → Type 0) (new : Holdings) (before after : Signs) → StaysEmitter admits_old admits client_old client faults_old faults m n new before after → WentOn was now → StandsStill admits_old admits client_old client faults_old faults was now new
stands_read admits_old admits client_old client faults_old faults was now new before after stays went =
    record { admits_same = stays.admits_same; client_same = stays.client_same; lives = stays.lives; never_falls = stays.never_falls; took = went }

pub beside_read : {m n : ℕ} (t : ℕ) (admits_old admits : List Value → Type 0) (client_old client : Option ℕ) (faults_old faults : ℕ) (old new : Holdings) (before after : Signs) → IsBeside t client_old old → StaysEmitter admits_old admits client_old client faults_old faults m n new before after → IsBeside t client new
beside_read t admits_old admits client_old client faults_old faults old new before after beside stays =
    record {
      apart = λ same. beside.apart (sym stays.client_same ∙ same);
      lives = subst (λ (o : Option ℕ). HasClient o new) (sym stays.client_same) stays.lives;
    }

pub of_any : {X E P : Type 0} (r : Result X E) → P → OnOk r P
of_any (Ok x) p = p
of_any (Err e) p = tt

-- a span that ends later
pub came_till : {X : Type 0} (r : Result X OpErr) (f0 f1 : ℕ) (s0 s1 s2 : Signs) → Grows s1 s2 → IfErr r (CameOf f0 f1 s0 s1) → IfErr r (CameOf f0 f1 s0 s2)
came_till (Ok x) f0 f1 s0 s1 s2 grows came = tt
came_till (Err (Pool e)) f0 f1 s0 s1 s2 grows came = answered_after e s0 s1 s2 came grows
came_till (Err Sink) f0 f1 s0 s1 s2 grows came = came

-- ---- the keys of the last level have one path each

path_long : (key : List ℕ) → length (path_of key) ≡ 16
unfolding path_of
path_long key = length-map-range_with_len (nibble_of (hash_of key)) 0 16

pub groups_last : (shape : Shape) (rows : List (List ℕ)) → IsPart shape 16 rows → groups_by_bytes shape rows ≡ combined_of (grouping_of shape) (partials_at shape rows)
groups_last shape rows part =
    sym (one_path (grouping_of shape) part.path (partials_at shape rows) (λ k d inside.
    let p : Partial = get_or (partials_at shape rows) k d in
    let whole : take (length part.path) (path_of p.key) ≡ path_of p.key = take_all (length part.path) (path_of p.key) (let long = part.long in let sixteen = path_long p.key in omega (arith, long, sixteen)) in
    sym whole ∙ part.has k d inside))

-- ---- the top partition can be read

pub top_readable : (c : ClientToken) (table : Table) (p : Stack) (front : List Streamed) (s : Streamed) (at : ℕ) (h : Holdings) (signs : Signs) → IsHeld c.tracker (state table p h signs) → p.streams ≡ front ++ s ∷ [] → length p.streams ≡ at + 1 → IsStack p → AllClosed (over p h signs) → IsReadable c s h
top_readable c table p front s at h signs is split top stack closed =
    let last : length front ≡ at = let all = ap length split in let push = length-append front (s ∷ []) in omega (arith, all, push, top) in
    let here : slice_get p.streams (length front) ≡ Some s = ap (λ (ss : List Streamed). slice_get ss (length front)) split ∙ at_end front s in
    record {
      client = is.owns.lives;
      shape = is.owns.shaped.each (length front) s here;
      room = room_for_each c.tracker at (length front) p h signs s stack (room_of_read c.tracker at 16 false table p p h signs is (top, refl, λ i r there below. closed i r there)) (omega (arith, last)) here;
    }

pub top_rows : (p : Stack) (front : List Streamed) (s : Streamed) (at : ℕ) (h : Holdings) (signs : Signs) (rows : ℕ → List (List ℕ)) → p.streams ≡ front ++ s ∷ [] → length p.streams ≡ at + 1 → ShowAll rows (over p h signs) → HasRows (rows at) s h
top_rows p front s at h signs rows split top shows =
    let last : length front ≡ at = let all = ap length split in let push = length-append front (s ∷ []) in omega (arith, all, push, top) in
    subst (λ (n : ℕ). HasRows (rows n) s h) last (shows (length front) s (ap (λ (ss : List Streamed). slice_get ss (length front)) split ∙ at_end front s))

-- ---- one stream stands for another with the same pages

unused_reservation : (o : Option Account) (n : ℕ) → (or_else no_account (option_map (with_unused n) o)).reservation ≡ (or_else no_account o).reservation
unused_reservation None n = refl
unused_reservation (Some account) n = refl

module _ (t : ℕ) (client : Option ℕ) (shape : Shape) (table : Table) (p q : Stack) (s now : Streamed) (h0 h1 : Holdings) (s0 s1 : Signs)
    (is : IsHeld t (state table p h0 s0)) (split : p.streams ≡ q.streams ++ s ∷ []) (beside : ReadBeside t client s now h0 h1) where
  abbrev ss : List Streamed
  ss = q.streams

  -- the partitions while the top one was read
  abbrev p1 : Stack
  p1 = record p { streams = ss ++ now ∷ [] }

  lens : length_of p.page_blocks h1 ≡ length_of p.page_blocks h0
  lens = ap (λ (n : ℕ). p.page_blocks * n) beside.query.block_len

  pages : now.pages ≡ s.pages
  pages = ap (λ (r : Streamed). r.pages) beside.same

  was_shaped : AreShaped t (family (ss ++ s ∷ []) h0 s0)
  was_shaped = subst (λ (rs : List Streamed). AreShaped t (family rs h0 s0)) split is.owns.shaped

  pub top_shaped : IsShaped t s h0
  top_shaped = was_shaped.each (length ss) s (at_end ss s)

  agree : (i : ℕ) (r : Streamed) → slice_get ss i ≡ Some r → (k : ℕ) (o : PageToken) → slice_get r.pages k ≡ Some o → h1.pages o.name ≡ h0.pages o.name
  agree i r front k o at =
      let own = at_place (IsOwnPage t r.page_blocks h0) r.pages k o (was_shaped.each i r (still_at ss s r i front)).own at in
      let lives : h0.pages o.name ≡ Some (page_of o.name h0) = there no_page (h0.pages o.name) own.page.lives in
      let inside : i < length ss = slice_get_within ss i r front in
      let far : AreDisjoint s r = was_shaped.apart (length ss) i s r (λ same. omega (arith, same, inside)) (at_end ss s) (still_at ss s r i front) in
      let apart : IsApart o.name s.pages = at_place (λ (x : PageToken). IsApart x.name s.pages) r.pages k o far at in
      (beside.pages o.name (page_of o.name h0) (own.page.client ∙ own.client) apart).1 lives ∙ sym lives

  shaped_read : AreShaped t (family (ss ++ now ∷ []) h1 s1)
  shaped_read =
      record {
        each = λ i r at. elim (front_or_behind ss (now ∷ []) i r at) [
          | inl front ↦ agreeing_shape t r h0 h1 (was_shaped.each i r (still_at ss s r i front)) beside.query.block_len (agree i r front)
          | inr behind ↦ subst (λ (x : Streamed). IsShaped t x h1) (only_one now (i - length ss) r behind.1).1 beside.shape
        ];
        apart = λ i j a b differ first second.
            let wa = was_at ss s now (sym pages) i a first in
            let wb = was_at ss s now (sym pages) j b second in
            let far : AreDisjoint wa.was wb.was = was_shaped.apart i j wa.was wb.was differ wa.place wb.place in
            subst (λ (os : List PageToken). All (λ o. IsApart o.name a.pages) os) wb.pages
            (subst (λ (os : List PageToken). All (λ o. IsApart o.name os) wb.was.pages) wa.pages far);
      }

  shows_read : (rows : ℕ → List (List ℕ)) → h0.told ≡ true → ShowAll rows (over p h0 s0) → ShowAll rows (over p1 h1 s1)
  shows_read rows told shows i r at =
      let all : ShowAll rows (family (ss ++ s ∷ []) h0 s0) = subst (λ (rs : List Streamed). ShowAll rows (family rs h0 s0)) split shows in
      elim (front_or_behind ss (now ∷ []) i r at) [
        | inl front ↦ agreeing_rows t r h0 h1 (was_shaped.each i r (still_at ss s r i front)) beside.query.block_len (agree i r front) (rows i) (all i r (still_at ss s r i front))
        | inr behind ↦
            let one = only_one now (i - length ss) r behind.1 in
            let here : i ≡ length ss = let first = one.0 in let far = behind.0 in omega (arith, first, far) in
            subst (λ (x : Streamed). HasRows (rows i) x h1) one.1
            (beside.rows (rows i) told (all i s (ap (slice_get (ss ++ s ∷ [])) here ∙ at_end ss s)))
      ]

  lives_read : IsSome (h1.clients t)
  lives_read = subst (λ (o : Option Account). IsSome o) (sym (beside.account is.owns.lives)) (still_some (h0.clients t) (unused_of t h1) is.owns.lives)

  reserves : (account_of t h1).reservation ≡ (account_of t h0).reservation
  reserves = ap (λ (o : Option Account). (or_else no_account o).reservation) (beside.account is.owns.lives) ∙ unused_reservation (h0.clients t) (unused_of t h1)

  only_read : (k : ℕ) (page : LivePage) → h1.pages k ≡ Some page → IsOutside k (ss ++ now ∷ []) → page.client ≢ t
  only_read k page lives outside mine =
      let before : IsOutside k (ss ++ s ∷ []) = λ i r at. let w = was_at ss now s pages i r at in subst (IsApart k) w.pages (outside i w.was w.place) in
      is.owns.only k page ((beside.pages k page mine (before (length ss) s (at_end ss s))).0 lives) (subst (IsOutside k) (sym split) before) mine

  even_read : unused_of t h1 + held_in (over p1 h1 s1) + lent (state table p h0 s0) ≡ (account_of t h1).reservation
  even_read =
      let front : sum_by (λ r. held r h1) ss ≡ sum_by (λ r. held r h0) ss = ap (λ (n : ℕ). sum_by (λ (r : Streamed). if is_some r.pinned then r.page_blocks * n else 0) ss) beside.query.block_len in
      let late : sum_by (λ r. held r h1) (ss ++ now ∷ []) ≡ sum_by (λ r. held r h1) ss + sum_by (λ r. held r h1) (now ∷ []) = sum_by-append (λ r. held r h1) ss (now ∷ []) in
      let late_one : sum_by (λ r. held r h1) (now ∷ []) ≡ held now h1 + 0 = sum_by-cons (λ (r : Streamed). held r h1) now [] in
      let early : sum_by (λ r. held r h0) (ss ++ s ∷ []) ≡ sum_by (λ r. held r h0) ss + sum_by (λ r. held r h0) (s ∷ []) = sum_by-append (λ r. held r h0) ss (s ∷ []) in
      let early_one : sum_by (λ r. held r h0) (s ∷ []) ≡ held s h0 + 0 = sum_by-cons (λ (r : Streamed). held r h0) s [] in
      let was : held_in (over p h0 s0) ≡ sum_by (λ r. held r h0) (ss ++ s ∷ []) = ap (sum_by (λ r. held r h0)) split in
      let even = is.owns.even in
      let own = reserves in
      let unused = beside.unused in
      omega (arith, front, late, late_one, early, early_one, was, even, own, unused)

  table_read : IsTableOf table h1
  table_read =
      record {
        held = record {
          lives = subst (λ (k : ℕ). IsSome (h1.clients k)) (sym is.client) lives_read;
          own = λ k d within.
              let l : Lent = get_or (loans_of table) k d in
              let here : IsOwn table.client h0 l = is.table.held.own k d within in
              let was : h0.loans l.number ≡ Some (or_else no_loan (h0.loans l.number)) = there no_loan (h0.loans l.number) here.lives in
              moved_own table.client h0 h1 l here ((beside.loans l.number (or_else no_loan (h0.loans l.number)) (here.held ∙ is.client)).1 was ∙ sym was) beside.query.block_len;
          apart = is.table.held.apart;
        };
        sized = is.table.sized;
        block_len = is.table.block_len ∙ sym beside.query.block_len;
      }

  held_read : IsHeld t (state table p1 h1 s1)
  held_read =
      record {
        owns = record { lives = lives_read; shaped = shaped_read; only = only_read; even = even_read };
        table = table_read;
        client = is.client;
        blocks = is.blocks;
        loans = λ k loan lives other mine. is.loans k loan ((beside.loans k loan mine).0 lives) other mine;
        room = let own = reserves in let room = is.room in omega (arith, own, room, ap (λ (n : ℕ). 17 * n) lens);
      }

  leaves_read : room_with t client h0 ≤ room_with t client h1 → Grows s0 s1 → LeavesBeside t client h0 h1 s0 s1
  leaves_read room grows =
      record {
        block_len = beside.query.block_len;
        session = beside.query.session;
        query = beside.query.query;
        limit = beside.query.limit;
        live_clients = beside.query.live_clients;
        told = beside.query.told;
        reservation = beside.query.reservation;
        others = beside.others;
        reserved = let own = reserves in omega (arith, own);
        room = room;
        grows = grows;
      }

  -- the slots of all, by those of the stream that was read
  slots_read : (n0 n1 : ℕ) → KeepSlots client (slots_with s h0) (slots_with now h1) n0 n1 → KeepSlots client (slots_in (over p h0 s0)) (slots_in (over p1 h1 s1)) n0 n1
  slots_read n0 n1 slots =
      let one : taken (s ∷ []) h0 ≡ sum_by (slots_of s h0) s.pages + 0 = sum_by-cons (λ (r : Streamed). sum_by (slots_of r h0) r.pages) s [] in
      let all : taken (ss ++ s ∷ []) h0 ≡ taken ss h0 + taken (s ∷ []) h0 = sum_by-append (λ (r : Streamed). sum_by (slots_of r h0) r.pages) ss (s ∷ []) in
      let was : taken p.streams h0 ≡ taken (ss ++ s ∷ []) h0 = ap (λ (rs : List Streamed). taken rs h0) split in
      let late_one : taken (now ∷ []) h1 ≡ sum_by (slots_of now h1) now.pages + 0 = sum_by-cons (λ (r : Streamed). sum_by (slots_of r h1) r.pages) now [] in
      let late : taken (ss ++ now ∷ []) h1 ≡ taken ss h1 + taken (now ∷ []) h1 = sum_by-append (λ (r : Streamed). sum_by (slots_of r h1) r.pages) ss (now ∷ []) in
      keep_front client h0.free_slots h1.free_slots n0 n1 (sum_by (slots_of s h0) s.pages) (sum_by (slots_of now h1) now.pages) (taken ss h0) (taken ss h1) (taken p.streams h0) (taken (ss ++ now ∷ []) h1)
      (all_taken ss h0 h1 agree) (omega (arith, one, all, was)) (omega (arith, late_one, late)) slots

  -- ---- and it went

  module _ (b : Scene) (blocks : q.page_blocks ≡ p.page_blocks) (empties : Empties t (scene now h1 s1) b) (gone : b.stream ≡ empty now.page_blocks) where
    pub leaves_gone : Leaves t (state table p1 h1 s1) (state table q b.held b.signs)
    leaves_gone = leaves_popped t table p1 q now h1 s1 b held_read refl blocks empties gone

    pub serves_read : (n0 n1 n2 : ℕ) → Shares t client n0 n1 s now h0 h1 → n2 ≡ n1 → Grows s0 s1 → AreEntries shape (length_of p.page_blocks h0) table → ServesBeside t client n0 n2 shape (state table p h0 s0) (state table q b.held b.signs)
    serves_read n0 n1 n2 shares same grows entries =
        let late : length_of q.page_blocks b.held ≡ length_of p.page_blocks h1 = ap (λ (n : ℕ). n * b.held.block_len) blocks ∙ ap (λ (n : ℕ). p.page_blocks * n) leaves_gone.others.block_len in
        let mid : AreEntries shape (length_of p.page_blocks h1) table = subst (λ (n : ℕ). AreEntries shape n table) (sym lens) entries in
        serves_then t client n0 n1 n2 shape (state table p h0 s0) (state table p1 h1 s1) (state table q b.held b.signs)
        (record { held = held_read; entries = mid; leaves = leaves_read shares.room grows; blocks = refl; slots = slots_read n0 n1 shares.slots })
        (record {
          held = held_popped t table p1 q now h1 s1 b held_read refl blocks empties gone;
          entries = subst (λ (n : ℕ). AreEntries shape n table) (sym late) mid;
          leaves = beside_own t client (state table p1 h1 s1) (state table q b.held b.signs) leaves_gone;
          blocks = blocks;
          slots = keep_own client (slots_in (over p1 h1 s1)) (slots_in (over q b.held b.signs)) n1 n2 (slots_popped t table p1 q now h1 s1 b held_read refl blocks empties gone) same;
        })

    pub shows_gone : (rows : ℕ → List (List ℕ)) → h0.told ≡ true → ShowAll rows (over p h0 s0) → ShowAll rows (over q b.held b.signs)
    shows_gone rows told shows = shows_popped t table p1 q now h1 s1 b held_read refl blocks empties gone rows (shows_read rows told shows)

    pub own_gone : (o : Option ℕ) → o ≢ Some t → SameOwn o h1 b.held
    own_gone o apart = own_same t o (state table p1 h1 s1) (state table q b.held b.signs) apart leaves_gone

    pub stands_gone : (admits : List Value → Type 0) (o : Option ℕ) (faults : ℕ) (mid after : List (List Value) → Type 0) → IsBeside t o h1 → ((rows : List (List Value)) → mid rows → after rows) → StandsStill admits admits o o faults faults mid after b.held
    stands_gone admits o faults mid after stays still = stands_own admits o faults mid after t (state table p1 h1 s1) (state table q b.held b.signs) stays leaves_gone still

-- ---- what it was stopped with

-- the top stream's slots leave the same as those of all
pub want_top : (p : Stack) (ss : List Streamed) (s : Streamed) (h : Holdings) (signs : Signs) → p.streams ≡ ss ++ s ∷ [] → IsStack p → s.page_blocks ≡ p.page_blocks → (e : OpErr) → IsWantOf s.page_blocks (slots_with s h) e → IsWantOf p.page_blocks (slots_in (over p h signs)) e
want_top p ss s h signs split stack sized (Pool e) want =
    let times = times_all p.page_blocks ss h (λ i r at. stack.each i r (ap (λ (rs : List Streamed). slice_get rs i) split ∙ still_at ss s r i at)) in
    let front = times.1 in
    let one : taken (s ∷ []) h ≡ sum_by (slots_of s h) s.pages + 0 = sum_by-cons (λ (r : Streamed). sum_by (slots_of r h) r.pages) s [] in
    let all : taken (ss ++ s ∷ []) h ≡ taken ss h + taken (s ∷ []) h = sum_by-append (λ (r : Streamed). sum_by (slots_of r h) r.pages) ss (s ∷ []) in
    let whole : taken p.streams h ≡ taken (ss ++ s ∷ []) h = ap (λ (rs : List Streamed). taken rs h) split in
    want_front p.page_blocks times.0 (sum_by (slots_of s h) s.pages) (taken p.streams h) h.free_slots (omega (arith, front, one, all, whole)) e
    (subst (λ (n : ℕ). IsWantOf n (slots_with s h) (Pool e)) sized want)
want_top p ss s h signs split stack sized Sink want = tt
