-- What stays while two streams are read and rows go to an emitter.
use Rattle.std.proofs.Common.{◌≡◌, ◌≢◌, ◌⊎◌, ◌∙◌, inl, inr, ℕ, ◌+◌, ◌*◌, ◌≤◌, List, ◌++◌, Option, Some, None, IsSome, refl, ap, sym, subst, arith, if◌then◌else◌}
use Rattle.std.specs.Prelude.{is_some, option_map, slice_get}
use Rattle.row_codec.specs.declared.values.Value.{Value}
use Rattle.store_api.specs.Emitters.{HasClient, SameOwn}
use Rattle.store_api.specs.Holdings.{Account, Holdings, no_page, page_of, unused_of}
use Rattle.store_api.specs.Signs.{Signs}
use Rattle.store_api.specs.Tokens.{ClientToken, PageToken}
use Rattle.store_api.proofs.Growing.{grows_refl, grows_trans}
use Rattle.store_api.proofs.Puts.{there}
use Rattle.tuple_stream.specs.Families.{AreDisjoint}
use Rattle.tuple_stream.specs.Places.{IsPlace, Place}
use Rattle.tuple_stream.specs.Steps.{Reads, scene}
use Rattle.tuple_stream.specs.Streamed.{OpenPage, Streamed, len_in}
use Rattle.tuple_stream.specs.Streams.{IsApart, IsOwnPage, IsShaped}
use Rattle.tuple_stream.specs.Touches.{held, with_unused}
use Rattle.tuple_stream.proofs.Chosen.{at_place}
use Rattle.tuple_stream.proofs.Frames.{still_some}
use Rattle.partition_stack.specs.Emitting.{IsBeside, StaysEmitter, WentOn, room_with}
use Rattle.partition_stack.specs.Reading.{IsReadable, ReadBeside}
use Rattle.partition_stack.proofs.Agreeing.{agreeing_places, agreeing_rows, agreeing_shape}
use Rattle.partition_stack.proofs.Emitters.{went_none, went_then}
use Rattle.partition_stack.proofs.Left.{same_then}
use Rattle.partition_stack.proofs.Making.{counts_both, counts_none, few_counts, reading_makes}
use Rattle.partition_stack.proofs.ReadFrames.{beside_none, client_stays, query_trans, reads_beside, reads_own, unused_twice}
use Rattle.partition_stack.proofs.Sides.{disjoint_back}
use Rattle.join_op.specs.Chunks.{AreReadable, ReadBoth, ReadOne}
use Rattle.join_op.proofs.Rooms.{room_read}

-- ---- the one is read beside the other

module _ (t : ℕ) (client : Option ℕ) (s now r : Streamed) (old new : Holdings) (is : IsShaped t r old) (apart : AreDisjoint s r) (beside : ReadBeside t client s now old new) where
  -- the pages of the other stay
  pub other_agrees : (k : ℕ) (p : PageToken) → slice_get r.pages k ≡ Some p → new.pages p.name ≡ old.pages p.name
  other_agrees k p at =
      let own = at_place (IsOwnPage t r.page_blocks old) r.pages k p is.own at in
      let lives : old.pages p.name ≡ Some (page_of p.name old) = there no_page (old.pages p.name) own.page.lives in
      (beside.pages p.name (page_of p.name old) (own.page.client ∙ own.client) (at_place (λ q. IsApart q.name s.pages) r.pages k p apart at)).1 lives ∙ sym lives

  other_held : held r new ≡ held r old
  other_held = ap (λ (n : ℕ). if is_some r.pinned then r.page_blocks * n else 0) beside.query.block_len

  -- and its places
  pub other_place : (place : Place) → IsPlace place r old → IsPlace place r new
  other_place = agreeing_places t r old new is beside.query.block_len other_agrees

  pub left_read : room_with t client old ≤ room_with t client new → ReadBoth t client s now r r old new
  left_read room =
      record {
        left_shape = beside.shape;
        right_shape = agreeing_shape t r old new is beside.query.block_len other_agrees;
        left_same = beside.same;
        right_same = refl;
        left_rows = beside.rows;
        right_rows = λ rows told has. agreeing_rows t r old new is beside.query.block_len other_agrees rows has;
        unused = let even = beside.unused in let same = other_held in omega (arith, even, same);
        account = beside.account;
        pages = λ q page own one two. beside.pages q page own one;
        loans = beside.loans;
        others = beside.others;
        query = beside.query;
        room = room;
      }

pub both_turned : (t : ℕ) (client : Option ℕ) (a b c d : Streamed) (old new : Holdings) → ReadBoth t client a b c d old new → ReadBoth t client c d a b old new
both_turned t client a b c d old new both =
    record {
      left_shape = both.right_shape;
      right_shape = both.left_shape;
      left_same = both.right_same;
      right_same = both.left_same;
      left_rows = both.right_rows;
      right_rows = both.left_rows;
      unused = let even = both.unused in omega (arith, even);
      account = both.account;
      pages = λ q page own one two. both.pages q page own two one;
      loans = both.loans;
      others = both.others;
      query = both.query;
      room = both.room;
    }

-- ---- none, and two one after the other

pub both_none : (t : ℕ) (client : Option ℕ) (s r : Streamed) (h : Holdings) → IsShaped t s h → IsShaped t r h → AreDisjoint s r → ReadBoth t client s s r r h h
both_none t client s r h one two apart = left_read t client s s r h h two apart (beside_none t client s h one) (omega arith)

pub both_trans : (t : ℕ) (client : Option ℕ) (s a b r c d : Streamed) (h0 h1 h2 : Holdings) → IsSome (h0.clients t) → ReadBoth t client s a r c h0 h1 → ReadBoth t client a b c d h1 h2 → ReadBoth t client s b r d h0 h2
both_trans t client s a b r c d h0 h1 h2 lives one two =
    let mid : IsSome (h1.clients t) = subst (λ (o : Option Account). IsSome o) (sym (one.account lives)) (still_some (h0.clients t) (unused_of t h1) lives) in
    let left : a.pages ≡ s.pages = ap (λ (x : Streamed). x.pages) one.left_same in
    let right : c.pages ≡ r.pages = ap (λ (x : Streamed). x.pages) one.right_same in
    record {
      left_shape = two.left_shape;
      right_shape = two.right_shape;
      left_same = two.left_same ∙ ap (λ (x : Streamed). record x { pinned = b.pinned }) one.left_same;
      right_same = two.right_same ∙ ap (λ (x : Streamed). record x { pinned = d.pinned }) one.right_same;
      left_rows = λ rows told has. two.left_rows rows (one.query.told ∙ told) (one.left_rows rows told has);
      right_rows = λ rows told has. two.right_rows rows (one.query.told ∙ told) (one.right_rows rows told has);
      unused = two.unused ∙ one.unused;
      account = λ _. two.account mid ∙ ap (option_map (with_unused (unused_of t h2))) (one.account lives) ∙ unused_twice (h0.clients t) (unused_of t h1) (unused_of t h2);
      pages = λ q page own far near.
          let far_now : IsApart q a.pages = subst (IsApart q) (sym left) far in
          let near_now : IsApart q c.pages = subst (IsApart q) (sym right) near in
          (λ is. (one.pages q page own far near).0 ((two.pages q page own far_now near_now).0 is), λ is. (two.pages q page own far_now near_now).1 ((one.pages q page own far near).1 is));
      loans = λ q loan own. (λ is. (one.loans q loan own).0 ((two.loans q loan own).0 is), λ is. (two.loans q loan own).1 ((one.loans q loan own).1 is));
      others = λ u apart free. same_then u h0 h1 h2 (one.others u apart free) (two.others u apart free);
      query = query_trans h0 h1 h2 one.query two.query;
      room = let early = one.room in let late = two.room in omega (arith, early, late);
    }

-- ---- they may be read on

pinned_most : (pinned : Option OpenPage) (len : ℕ) → (if is_some pinned then len else 0) ≤ len
pinned_most None len = omega arith
pinned_most (Some page) len = omega arith

room_for : (pinned : Option OpenPage) (len unused other : ℕ) → other ≤ len → 2 * len ≤ unused + (if is_some pinned then len else 0) + other → (len ≤ unused) ⊎ IsSome pinned
room_for None len unused other most room = inl (omega (arith, most, room))
room_for (Some page) len unused other most room = inr refl

module _ (c : ClientToken) (left right : Streamed) (h : Holdings) (is : AreReadable c left right h) where
  lens : len_in right h ≡ len_in left h
  lens = ap (λ (n : ℕ). n * h.block_len) is.alike

  pub left_readable : IsReadable c left h
  left_readable =
      record {
        client = is.client;
        shape = is.left_shape;
        room = let most : held right h ≤ len_in right h = pinned_most right.pinned (len_in right h) in let same = lens in room_for left.pinned (len_in left h) (unused_of c.tracker h) (held right h) (omega (arith, most, same)) is.room;
      }

  pub right_readable : IsReadable c right h
  right_readable =
      record {
        client = is.client;
        shape = is.right_shape;
        room =
            let most : held left h ≤ len_in left h = pinned_most left.pinned (len_in left h) in
            let same = lens in
            let room = is.room in
            room_for right.pinned (len_in right h) (unused_of c.tracker h) (held left h) (omega (arith, most, same)) (omega (arith, room, same));
      }

pub still_both : (c : ClientToken) (client : Option ℕ) (s a r b : Streamed) (old new : Holdings) → AreReadable c s r old → ReadBoth c.tracker client s a r b old new → AreReadable c a b new
still_both c client s a r b old new is both =
    let left : a.pages ≡ s.pages = ap (λ (x : Streamed). x.pages) both.left_same in
    let right : b.pages ≡ r.pages = ap (λ (x : Streamed). x.pages) both.right_same in
    let blocks : a.page_blocks ≡ s.page_blocks = ap (λ (x : Streamed). x.page_blocks) both.left_same in
    let same : len_in a new ≡ len_in s old = ap (λ (n : ℕ). n * new.block_len) blocks ∙ ap (λ (n : ℕ). s.page_blocks * n) both.query.block_len in
    record {
      client = subst (λ (o : Option Account). IsSome o) (sym (both.account is.client)) (still_some (old.clients c.tracker) (unused_of c.tracker new) is.client);
      left_shape = both.left_shape;
      right_shape = both.right_shape;
      apart = subst (λ (ps : List PageToken). AreDisjoint a (record b { pages = ps })) (sym right) (subst (λ (ps : List PageToken). AreDisjoint (record a { pages = ps }) r) (sym left) is.apart);
      alike = ap (λ (x : Streamed). x.page_blocks) both.right_same ∙ is.alike ∙ sym blocks;
      room = let even = both.unused in let room = is.room in omega (arith, even, room, same);
    }

-- ---- and an emitter beside them

pub record StayBoth (c : ClientToken) (l0 l r0 r : Streamed) (h0 h : Holdings) (before after : Signs) (admits0 admits : List Value → Type 0) (client0 client : Option ℕ) (f0 f m0 m : ℕ) (took0 took : List (List Value) → Type 0) : Type 0 where
  pub both : ReadBoth c.tracker client0 l0 l r0 r h0 h
  pub readable : AreReadable c l r h
  pub emitter : StaysEmitter admits0 admits client0 client f0 f m0 m h before after
  pub went : WentOn took0 took

pub stay_none : {m : ℕ} (c : ClientToken) (l r : Streamed) (h : Holdings) (signs : Signs) (admits : List Value → Type 0) (client : Option ℕ) (f : ℕ) (took : List (List Value) → Type 0) → AreReadable c l r h → HasClient client h → StayBoth c l l r r h h signs signs admits admits client client f f m m took took
stay_none {m} c l r h signs admits client f took is lives =
    record {
      both = both_none c.tracker client l r h is.left_shape is.right_shape is.apart;
      readable = is;
      emitter = record { admits_same = λ row. (λ is. is, λ is. is); client_same = refl; lives = lives; never_falls = omega arith; grows = grows_refl signs; made = counts_none m signs };
      went = went_none took took (λ rows was. was);
    }

module _ {m0 m : ℕ} (c : ClientToken) (l0 l r0 r : Streamed) (h0 h : Holdings) (before mid : Signs) (admits0 admits : List Value → Type 0) (client0 client : Option ℕ) (f0 f : ℕ) (took0 took : List (List Value) → Type 0) (lives : IsSome (h0.clients c.tracker)) (free : client0 ≢ Some c.tracker) (so : StayBoth c l0 l r0 r h0 h before mid admits0 admits client0 client f0 f m0 m took0 took) where
  -- what the emitter took stays while the right side is read
  pub still_right : (now : Streamed) (new : Holdings) (after : Signs) (took1 : List (List Value) → Type 0) → Reads c.tracker (scene r h mid) (scene now new after) → ((rows : List (List Value)) → SameOwn client h new → took rows → took1 rows) → (rows : List (List Value)) → took rows → took1 rows
  still_right now new after took1 went asks rows was =
      asks rows (reads_own c.tracker r now h new mid after so.readable.right_shape went client (λ is. free (sym so.emitter.client_same ∙ is))) was

  pub stay_right : (now : Streamed) (new : Holdings) (after : Signs) (took1 : List (List Value) → Type 0) → Reads c.tracker (scene r h mid) (scene now new after) → now ≡ record r { pinned = now.pinned } → ((rows : List (List Value)) → took rows → took1 rows)
      → StayBoth c l0 l r0 now h0 new before after admits0 admits client0 client f0 f m0 m took0 took1
  stay_right now new after took1 went same still =
      let t : ℕ = c.tracker in
      let beside : ReadBeside t client0 r now h new = reads_beside t r now h new mid after so.readable.right_shape went client0 same in
      let step : ReadBoth t client0 l l r now h new = both_turned t client0 r now l l h new (left_read t client0 r now l h new so.readable.left_shape (disjoint_back l r so.readable.apart) beside (room_read t client0 h h new (omega arith) r now so.readable.client went.step.touches)) in
      record {
        both = both_trans t client0 l0 l l r0 r now h0 h new lives so.both step;
        readable = still_both c client0 l l r now h new so.readable step;
        emitter = record {
          admits_same = so.emitter.admits_same;
          client_same = so.emitter.client_same;
          lives = client_stays client0 h new (reads_own t r now h new mid after so.readable.right_shape went client0 free) so.emitter.lives;
          never_falls = so.emitter.never_falls;
          grows = grows_trans before mid after so.emitter.grows went.step.grows;
          made = counts_both 0 0 0 m0 m m before mid after (omega arith) so.emitter.made (few_counts 0 m mid after (reading_makes t r now h new mid after went same));
        };
        went = λ taken was. let first = so.went taken was in (first.0, still (taken ++ first.0) first.1);
      }

  pub stay_left : {m1 : ℕ} (now : Streamed) (new : Holdings) (after : Signs) (admits1 : List Value → Type 0) (client1 : Option ℕ) (f1 : ℕ) (took1 : List (List Value) → Type 0) → ReadOne c.tracker client l now h new → StaysEmitter admits admits1 client client1 f f1 m m1 new mid after → WentOn took took1
      → StayBoth c l0 now r0 r h0 new before after admits0 admits1 client0 client1 f0 f1 m0 m1 took0 took1
  stay_left {m1} now new after admits1 client1 f1 took1 read emitter on =
      let t : ℕ = c.tracker in
      let one : ReadOne t client0 l now h new = subst (λ (o : Option ℕ). ReadOne t o l now h new) so.emitter.client_same read in
      let step : ReadBoth t client0 l now r r h new = left_read t client0 l now r h new so.readable.right_shape so.readable.apart one.beside one.room in
      record {
        both = both_trans t client0 l0 l now r0 r r h0 h new lives so.both step;
        readable = still_both c client0 l now r r h new so.readable step;
        emitter = record {
          admits_same = λ row. (λ is. (emitter.admits_same row).0 ((so.emitter.admits_same row).0 is), λ is. (so.emitter.admits_same row).1 ((emitter.admits_same row).1 is));
          client_same = emitter.client_same ∙ so.emitter.client_same;
          lives = subst (λ (o : Option ℕ). HasClient o new) so.emitter.client_same emitter.lives;
          never_falls = let x = so.emitter.never_falls in let y = emitter.never_falls in omega (arith, x, y);
          grows = grows_trans before mid after so.emitter.grows emitter.grows;
          made = counts_both 0 0 0 m0 m m1 before mid after (omega arith) so.emitter.made emitter.made;
        };
        went = went_then took0 took took1 so.went on;
      }

  -- the emitter is beside them still
  pub beside_now : IsBeside c.tracker client h
  beside_now = record { apart = λ is. free (sym so.emitter.client_same ∙ is); lives = subst (λ (o : Option ℕ). HasClient o h) (sym so.emitter.client_same) so.emitter.lives }
