-- What stays while a stream is read and rows go to an emitter.
use Rattle.std.proofs.Common.{◌≡◌, ◌≢◌, ◌⊎◌, ◌∙◌, inl, inr, ℕ, ◌+◌, ◌*◌, ◌≤◌, List, ◌++◌, Option, Some, None, IsSome, refl, ap, sym, subst, arith, if◌then◌else◌}
use Rattle.std.specs.Prelude.{is_some, option_map, slice_get}
use Rattle.row_codec.specs.declared.values.Value.{Value}
use Rattle.store_api.specs.Emitters.{HasClient, OthersStay, SameFor, SameOwn}
use Rattle.store_api.specs.Holdings.{Account, Holdings, LiveLoan, LivePage, no_account, no_page, or_else, page_of, unused_of}
use Rattle.store_api.specs.Signs.{Signs}
use Rattle.store_api.specs.Tokens.{ClientToken, PageToken}
use Rattle.store_api.proofs.Growing.{grows_refl, grows_trans}
use Rattle.store_api.proofs.Puts.{there}
use Rattle.tuple_stream.specs.Places.{IsPlace, Place}
use Rattle.tuple_stream.specs.Steps.{Reads, scene}
use Rattle.tuple_stream.specs.Streamed.{OpenPage, Streamed, len_in}
use Rattle.tuple_stream.specs.Streams.{IsApart, IsOwnPage, IsShaped}
use Rattle.tuple_stream.specs.Touches.{held, with_unused}
use Rattle.tuple_stream.proofs.Chosen.{all_placed, at_place}
use Rattle.tuple_stream.proofs.Frames.{still_some}
use Rattle.tuple_stream.proofs.ReadRow.{still_shows}
use Rattle.partition_stack.specs.Emitting.{StaysEmitter, Stood, WentOn}
use Rattle.partition_stack.specs.Reading.{IsReadable, IsSameQuery, ReadBeside}
use Rattle.partition_stack.proofs.Agreeing.{agreeing_places, agreeing_rows, agreeing_shape}
use Rattle.partition_stack.proofs.Emitters.{went_none, went_then}
use Rattle.partition_stack.proofs.Left.{same_then}
use Rattle.partition_stack.proofs.Making.{counts_both, counts_none, few_counts, reading_makes}

pub unused_again : (o : Option Account) → o ≡ option_map (with_unused (or_else no_account o).unused) o
unused_again None = refl
unused_again (Some account) = refl

pub unused_twice : (o : Option Account) (m n : ℕ) → option_map (with_unused n) (option_map (with_unused m) o) ≡ option_map (with_unused n) o
unused_twice None m n = refl
unused_twice (Some account) m n = refl

pub query_same : (h : Holdings) → IsSameQuery h h
query_same h = record { block_len = refl; session = refl; query = refl; limit = refl; live_clients = refl; told = refl; reservation = omega arith }

pub query_trans : (a b c : Holdings) → IsSameQuery a b → IsSameQuery b c → IsSameQuery a c
query_trans a b c one two =
    record {
      block_len = two.block_len ∙ one.block_len;
      session = two.session ∙ one.session;
      query = two.query ∙ one.query;
      limit = two.limit ∙ one.limit;
      live_clients = two.live_clients ∙ one.live_clients;
      told = two.told ∙ one.told;
      reservation = let x = one.reservation in let y = two.reservation in omega (arith, x, y);
    }

pub same_for : (t : ℕ) (h : Holdings) → SameFor t h h
same_for t h = record { account = refl; pages = λ q page own. (λ is. is, λ is. is); loans = λ q loan own. (λ is. is, λ is. is) }

-- ---- none, and two one after the other

pub beside_none : (t : ℕ) (client : Option ℕ) (s : Streamed) (h : Holdings) → IsShaped t s h → ReadBeside t client s s h h
beside_none t client s h is =
    record {
      shape = is;
      same = refl;
      rows = λ rows told has. has;
      unused = refl;
      account = λ lives. unused_again (h.clients t);
      pages = λ q page own apart. (λ is. is, λ is. is);
      loans = λ q loan own. (λ is. is, λ is. is);
      others = λ u apart free. same_for u h;
      query = query_same h;
    }

pub beside_trans : (t : ℕ) (client : Option ℕ) (s a b : Streamed) (h0 h1 h2 : Holdings) → IsSome (h0.clients t) → ReadBeside t client s a h0 h1 → ReadBeside t client a b h1 h2 → ReadBeside t client s b h0 h2
beside_trans t client s a b h0 h1 h2 lives one two =
    let mid : IsSome (h1.clients t) = subst (λ (o : Option Account). IsSome o) (sym (one.account lives)) (still_some (h0.clients t) (unused_of t h1) lives) in
    let pages : a.pages ≡ s.pages = ap (λ (x : Streamed). x.pages) one.same in
    record {
      shape = two.shape;
      same = two.same ∙ ap (λ (x : Streamed). record x { pinned = b.pinned }) one.same;
      rows = λ rows told has. two.rows rows (one.query.told ∙ told) (one.rows rows told has);
      unused = two.unused ∙ one.unused;
      account = λ _. two.account mid ∙ ap (option_map (with_unused (unused_of t h2))) (one.account lives) ∙ unused_twice (h0.clients t) (unused_of t h1) (unused_of t h2);
      pages = λ q page own apart.
          let far : IsApart q a.pages = subst (IsApart q) (sym pages) apart in
          (λ is. (one.pages q page own apart).0 ((two.pages q page own far).0 is), λ is. (two.pages q page own far).1 ((one.pages q page own apart).1 is));
      loans = λ q loan own. (λ is. (one.loans q loan own).0 ((two.loans q loan own).0 is), λ is. (two.loans q loan own).1 ((one.loans q loan own).1 is));
      others = λ u apart free. same_then u h0 h1 h2 (one.others u apart free) (two.others u apart free);
      query = query_trans h0 h1 h2 one.query two.query;
    }

-- ---- a call that read

apart_of_other : (t u q : ℕ) (s : Streamed) (h : Holdings) (page : LivePage) → IsShaped t s h → u ≢ t → h.pages q ≡ Some page → page.client ≡ u → IsApart q s.pages
apart_of_other t u q s h page shape other lives client =
    all_placed (λ p. p.name ≢ q) s.pages (λ k p at. λ same.
    let own = at_place (IsOwnPage t s.page_blocks h) s.pages k p shape.own at in
    let one : page_of q h ≡ page = ap (or_else no_page) lives in
    other (sym client ∙ sym (ap (λ (r : LivePage). r.client) one) ∙ ap (λ (n : ℕ). (page_of n h).client) (sym same) ∙ own.page.client ∙ own.client))

module _ (t : ℕ) (s now : Streamed) (old new : Holdings) (before after : Signs) (is : IsShaped t s old) (went : Reads t (scene s old before) (scene now new after)) where
  pub reads_same : (u : ℕ) → u ≢ t → SameFor u old new
  reads_same u other =
      let touches = went.step.touches in
      record {
        account = touches.clients u other;
        pages = λ q page client. (
          (λ lives. (touches.back q (subst (λ (o : Option LivePage). IsSome o) (sym lives) refl) (apart_of_other t u q now new page went.step.shape other lives client)).0 ∙ lives),
          (λ lives. (touches.pages q (subst (λ (o : Option LivePage). IsSome o) (sym lives) refl) (apart_of_other t u q s old page is other lives client)).0 ∙ lives),
        );
        loans = λ q loan client. (
          (λ lives. sym (ap (λ (loans : ℕ → Option LiveLoan). loans q) touches.loans) ∙ lives),
          (λ lives. ap (λ (loans : ℕ → Option LiveLoan). loans q) touches.loans ∙ lives),
        );
      }

  -- all that an emitter with another client asks for is the same
  pub reads_own : (client : Option ℕ) → client ≢ Some t → SameOwn client old new
  reads_own client apart =
      record {
        block_len = went.step.touches.block_len;
        told = went.step.touches.told;
        own = λ u is_it. reads_same u (λ same. apart (is_it ∙ ap Some same));
      }

  pub reads_beside : (client : Option ℕ) → now ≡ record s { pinned = now.pinned } → ReadBeside t client s now old new
  reads_beside client same =
      let touches = went.step.touches in
      let pages : now.pages ≡ s.pages = ap (λ (x : Streamed). x.pages) same in
      record {
        shape = went.step.shape;
        same = same;
        rows = λ rows told has. still_shows went rows told has;
        unused = touches.unused;
        account = touches.account;
        pages = λ q page own apart. (
          (λ lives. (touches.back q (subst (λ (o : Option LivePage). IsSome o) (sym lives) refl) (subst (IsApart q) (sym pages) apart)).0 ∙ lives),
          (λ lives. (touches.pages q (subst (λ (o : Option LivePage). IsSome o) (sym lives) refl) apart).0 ∙ lives),
        );
        loans = λ q loan own. (
          (λ lives. sym (ap (λ (loans : ℕ → Option LiveLoan). loans q) touches.loans) ∙ lives),
          (λ lives. ap (λ (loans : ℕ → Option LiveLoan). loans q) touches.loans ∙ lives),
        );
        others = λ u other free. reads_same u other;
        query = record {
          block_len = touches.block_len;
          session = touches.session;
          query = touches.query;
          limit = touches.limit;
          live_clients = touches.live_clients;
          told = touches.told;
          reservation = let even = touches.reservation in omega (arith, even);
        };
      }

-- ---- rows went to an emitter

stood_agrees : (t : ℕ) (client : Option ℕ) (s : Streamed) (old new : Holdings) → client ≢ Some t → IsShaped t s old → OthersStay client old new → (k : ℕ) (p : PageToken) → slice_get s.pages k ≡ Some p → new.pages p.name ≡ old.pages p.name
stood_agrees t client s old new free is stay k p at =
    let own = at_place (IsOwnPage t s.page_blocks old) s.pages k p is.own at in
    let lives : old.pages p.name ≡ Some (page_of p.name old) = there no_page (old.pages p.name) own.page.lives in
    ((stay.others t free).pages p.name (page_of p.name old) (own.page.client ∙ own.client)).1 lives ∙ sym lives

-- a place of the stream is one still
pub stood_place : (t : ℕ) (client : Option ℕ) (s : Streamed) (old new : Holdings) → client ≢ Some t → IsShaped t s old → OthersStay client old new → (place : Place) → IsPlace place s old → IsPlace place s new
stood_place t client s old new free is stay = agreeing_places t s old new is stay.block_len (stood_agrees t client s old new free is stay)

pub stood_beside : (t : ℕ) (client : Option ℕ) (s : Streamed) (old new : Holdings) → client ≢ Some t → IsShaped t s old → OthersStay client old new → ReadBeside t client s s old new
stood_beside t client s old new free is stay =
    let same : SameFor t old new = stay.others t free in
    let stays : (k : ℕ) (p : PageToken) → slice_get s.pages k ≡ Some p → new.pages p.name ≡ old.pages p.name = stood_agrees t client s old new free is stay in
    let unused : unused_of t new ≡ unused_of t old = ap (λ (o : Option Account). (or_else no_account o).unused) same.account in
    let holds : held s new ≡ held s old = ap (λ (n : ℕ). if is_some s.pinned then s.page_blocks * n else 0) stay.block_len in
    record {
      shape = agreeing_shape t s old new is stay.block_len stays;
      same = refl;
      rows = λ rows told has. agreeing_rows t s old new is stay.block_len stays rows has;
      unused = omega (arith, unused, holds);
      account = λ lives. same.account ∙ unused_again (old.clients t) ∙ ap (λ (n : ℕ). option_map (with_unused n) (old.clients t)) (sym unused);
      pages = λ q page own apart. same.pages q page own;
      loans = λ q loan own. same.loans q loan own;
      others = λ u other apart. stay.others u apart;
      query = record {
        block_len = stay.block_len;
        session = stay.session;
        query = stay.query;
        limit = stay.limit;
        live_clients = stay.live_clients;
        told = stay.told;
        reservation = stay.reservation;
      };
    }

-- ---- the stream may be read on

held_with : (pinned : Option OpenPage) (len : ℕ) → IsSome pinned → (if is_some pinned then len else 0) ≡ len
held_with None len some = absurd cc
held_with (Some page) len some = refl

room_kept : (pinned : Option OpenPage) (len was unused : ℕ) → unused + (if is_some pinned then len else 0) ≡ was → len ≤ was → (len ≤ unused) ⊎ IsSome pinned
room_kept None len was unused even room = inl (omega (arith, even, room))
room_kept (Some page) len was unused even room = inr refl

pub still_readable : (c : ClientToken) (client : Option ℕ) (s now : Streamed) (old new : Holdings) → IsReadable c s old → ReadBeside c.tracker client s now old new → IsReadable c now new
still_readable c client s now old new is beside =
    let t : ℕ = c.tracker in
    let blocks : now.page_blocks ≡ s.page_blocks = ap (λ (x : Streamed). x.page_blocks) beside.same in
    let same : len_in now new ≡ len_in s old = ap (λ (n : ℕ). n * new.block_len) blocks ∙ ap (λ (n : ℕ). s.page_blocks * n) beside.query.block_len in
    let enough : len_in s old ≤ unused_of c.tracker old + held s old = elim is.room [
      | inl unused ↦ omega (arith, unused)
      | inr some ↦ let all : held s old ≡ len_in s old = held_with s.pinned (len_in s old) some in omega (arith, all)
    ] in
    record {
      client = subst (λ (o : Option Account). IsSome o) (sym (beside.account is.client)) (still_some (old.clients c.tracker) (unused_of c.tracker new) is.client);
      shape = beside.shape;
      room = room_kept now.pinned (len_in now new) (unused_of c.tracker old + held s old) (unused_of c.tracker new) beside.unused (omega (arith, same, enough));
    }

pub client_stays : (client : Option ℕ) (old new : Holdings) → SameOwn client old new → HasClient client old → HasClient client new
client_stays None old new same lives = tt
client_stays (Some t) old new same lives = subst (λ (o : Option Account). IsSome o) (sym (same.own t refl).account) lives

-- ---- all of it

pub record Stays (c : ClientToken) (s0 s : Streamed) (h0 h : Holdings) (before after : Signs) (admits0 admits : List Value → Type 0) (client0 client : Option ℕ) (f0 f m0 m : ℕ) (took0 took : List (List Value) → Type 0) : Type 0 where
  pub beside : ReadBeside c.tracker client0 s0 s h0 h
  pub readable : IsReadable c s h
  pub emitter : StaysEmitter admits0 admits client0 client f0 f m0 m h before after
  pub went : WentOn took0 took

pub stays_none : {m : ℕ} (c : ClientToken) (s : Streamed) (h : Holdings) (signs : Signs) (admits : List Value → Type 0) (client : Option ℕ) (f : ℕ) (took : List (List Value) → Type 0) → IsReadable c s h → HasClient client h → Stays c s s h h signs signs admits admits client client f f m m took took
stays_none {m} c s h signs admits client f took is lives =
    record {
      beside = beside_none c.tracker client s h is.shape;
      readable = is;
      emitter = record { admits_same = λ row. (λ is. is, λ is. is); client_same = refl; lives = lives; never_falls = omega arith; grows = grows_refl signs; made = counts_none m signs };
      went = went_none took took (λ rows was. was);
    }

module _ {m0 m : ℕ} (c : ClientToken) (s0 s : Streamed) (h0 h : Holdings) (before mid : Signs) (admits0 admits : List Value → Type 0) (client0 client : Option ℕ) (f0 f : ℕ) (took0 took : List (List Value) → Type 0) (lives : IsSome (h0.clients c.tracker)) (free : client0 ≢ Some c.tracker) (so : Stays c s0 s h0 h before mid admits0 admits client0 client f0 f m0 m took0 took) where
  pub free_now : client ≢ Some c.tracker
  free_now = λ is. free (sym so.emitter.client_same ∙ is)

  pub stays_read : (now : Streamed) (new : Holdings) (after : Signs) (took1 : List (List Value) → Type 0) → Reads c.tracker (scene s h mid) (scene now new after) → now ≡ record s { pinned = now.pinned } → ((rows : List (List Value)) → took rows → took1 rows)
      → Stays c s0 now h0 new before after admits0 admits client0 client f0 f m0 m took0 took1
  stays_read now new after took1 went same still =
      let step : ReadBeside c.tracker client0 s now h new = reads_beside c.tracker s now h new mid after so.readable.shape went client0 same in
      record {
        beside = beside_trans c.tracker client0 s0 s now h0 h new lives so.beside step;
        readable = still_readable c client0 s now h new so.readable step;
        emitter = record {
          admits_same = so.emitter.admits_same;
          client_same = so.emitter.client_same;
          lives = client_stays client0 h new (reads_own c.tracker s now h new mid after so.readable.shape went client0 free) so.emitter.lives;
          never_falls = so.emitter.never_falls;
          grows = grows_trans before mid after so.emitter.grows went.step.grows;
          made = counts_both 0 0 0 m0 m m before mid after (omega arith) so.emitter.made (few_counts 0 m mid after (reading_makes c.tracker s now h new mid after went same));
        };
        went = λ taken was. let first = so.went taken was in (first.0, still (taken ++ first.0) first.1);
      }

  pub stays_handed : {m1 : ℕ} (new : Holdings) (after : Signs) (admits1 : List Value → Type 0) (client1 : Option ℕ) (f1 : ℕ) (took1 : List (List Value) → Type 0) → Stood admits admits1 client client1 f f1 m m1 h new mid after → WentOn took took1
      → Stays c s0 s h0 new before after admits0 admits1 client0 client1 f0 f1 m0 m1 took0 took1
  stays_handed {m1} new after admits1 client1 f1 took1 stood on =
      let stay : OthersStay client0 h new = subst (λ (o : Option ℕ). OthersStay o h new) so.emitter.client_same stood.others in
      let step : ReadBeside c.tracker client0 s s h new = stood_beside c.tracker client0 s h new free so.readable.shape stay in
      record {
        beside = beside_trans c.tracker client0 s0 s s h0 h new lives so.beside step;
        readable = still_readable c client0 s s h new so.readable step;
        emitter = record {
          admits_same = λ row. (λ is. (stood.admits_same row).0 ((so.emitter.admits_same row).0 is), λ is. (so.emitter.admits_same row).1 ((stood.admits_same row).1 is));
          client_same = stood.client_same ∙ so.emitter.client_same;
          lives = subst (λ (o : Option ℕ). HasClient o new) so.emitter.client_same stood.lives;
          never_falls = let x = so.emitter.never_falls in let y = stood.never_falls in omega (arith, x, y);
          grows = grows_trans before mid after so.emitter.grows stood.grows;
          made = counts_both 0 0 0 m0 m m1 before mid after (omega arith) so.emitter.made stood.made;
        };
        went = went_then took0 took took1 so.went on;
      }
