-- The top partitions of both sides were read while their pairs went to an emitter.
use Rattle.std.proofs.Common.{◌≡◌, ◌≢◌, ◌∙◌, inl, inr, ℕ, ◌+◌, ◌-◌, ◌*◌, ◌<◌, List, [], ◌∷◌, ◌++◌, length, Option, Some, None, IsSome, is_some, true, if◌then◌else◌, refl, ap, sym, subst, arith}
use Rattle.std.specs.Prelude.{All, option_map, slice_get, sum_by}
use Rattle.std.proofs.lemmas.List.Sums.{sum_by-append, sum_by-cons}
use Rattle.std.proofs.lemmas.Option.{slice_get_within}
use Rattle.store_api.specs.Holdings.{Account, Holdings, LivePage, account_of, no_account, no_page, or_else, page_of, unused_of}
use Rattle.store_api.specs.Signs.{Grows, Signs}
use Rattle.store_api.specs.Tokens.{PageToken}
use Rattle.store_api.proofs.Puts.{there}
use Rattle.tuple_stream.specs.Families.{AreDisjoint, AreShaped, IsOutside, ShowAll, family}
use Rattle.tuple_stream.specs.Streamed.{Streamed}
use Rattle.tuple_stream.specs.Streams.{HasRows, IsApart, IsOwnPage, IsShaped}
use Rattle.tuple_stream.specs.Touches.{held, with_unused}
use Rattle.tuple_stream.proofs.Chosen.{at_place}
use Rattle.tuple_stream.proofs.Frames.{still_some}
use Rattle.tuple_stream.proofs.PageLists.{at_end, still_at}
use Rattle.partition_stack.specs.Emitting.{LeavesBeside}
use Rattle.partition_stack.specs.Leaving.{HasNoLoan}
use Rattle.partition_stack.specs.Sides.{OwnBoth}
use Rattle.partition_stack.proofs.Agreeing.{agreeing_rows, agreeing_shape}
use Rattle.partition_stack.proofs.ListPlaces.{front_or_behind, only_one, was_at}
use Rattle.partition_stack.proofs.Sides.{disjoint_back}
use Rattle.join_op.specs.Chunks.{ReadBoth}

-- ---- one stream stands for another with the same pages

as_disjoint : (a b was wbs : Streamed) → was.pages ≡ a.pages → wbs.pages ≡ b.pages → AreDisjoint was wbs → AreDisjoint a b
as_disjoint a b was wbs one two far =
    subst (λ (os : List PageToken). All (λ o. IsApart o.name a.pages) os) two (subst (λ (os : List PageToken). All (λ o. IsApart o.name os) wbs.pages) one far)

unused_reservation : (o : Option Account) (n : ℕ) → (or_else no_account (option_map (with_unused n) o)).reservation ≡ (or_else no_account o).reservation
unused_reservation None n = refl
unused_reservation (Some account) n = refl

held_late : (ss : List Streamed) (x : Streamed) (h k : Holdings) → k.block_len ≡ h.block_len → sum_by (λ r. held r k) (ss ++ x ∷ []) ≡ sum_by (λ r. held r h) ss + held x k
held_late ss x h k same =
    let front : sum_by (λ r. held r k) ss ≡ sum_by (λ r. held r h) ss = ap (λ (n : ℕ). sum_by (λ (r : Streamed). if is_some r.pinned then r.page_blocks * n else 0) ss) same in
    let late : sum_by (λ r. held r k) (ss ++ x ∷ []) ≡ sum_by (λ r. held r k) ss + sum_by (λ r. held r k) (x ∷ []) = sum_by-append (λ r. held r k) ss (x ∷ []) in
    let one : sum_by (λ r. held r k) (x ∷ []) ≡ held x k + 0 = sum_by-cons (λ (r : Streamed). held r k) x [] in
    omega (arith, front, late, one)

-- ---- what stays

module _ (t : ℕ) (client : Option ℕ) (ls rs : List Streamed) (l r l1 r1 : Streamed) (h h1 : Holdings) (s s1 : Signs) (own : OwnBoth t 0 (ls ++ l ∷ []) (rs ++ r ∷ []) h s) (read : ReadBoth t client l l1 r r1 h h1) where
  left_pages : l1.pages ≡ l.pages
  left_pages = ap (λ (x : Streamed). x.pages) read.left_same

  right_pages : r1.pages ≡ r.pages
  right_pages = ap (λ (x : Streamed). x.pages) read.right_same

  -- a page of another stream is as it was
  page_stays : (x : Streamed) → IsShaped t x h → AreDisjoint l x → AreDisjoint r x → (k : ℕ) (o : PageToken) → slice_get x.pages k ≡ Some o → h1.pages o.name ≡ h.pages o.name
  page_stays x is from_l from_r k o at =
      let own_page = at_place (IsOwnPage t x.page_blocks h) x.pages k o is.own at in
      let lives : h.pages o.name ≡ Some (page_of o.name h) = there no_page (h.pages o.name) own_page.page.lives in
      let one : IsApart o.name l.pages = at_place (λ (p : PageToken). IsApart p.name l.pages) x.pages k o from_l at in
      let two : IsApart o.name r.pages = at_place (λ (p : PageToken). IsApart p.name r.pages) x.pages k o from_r at in
      (read.pages o.name (page_of o.name h) (own_page.page.client ∙ own_page.client) one two).1 lives ∙ sym lives

  module _ (i : ℕ) (x : Streamed) (front : slice_get ls i ≡ Some x) where
    in_left : slice_get (ls ++ l ∷ []) i ≡ Some x
    in_left = still_at ls l x i front

    pub left_agrees : (k : ℕ) (o : PageToken) → slice_get x.pages k ≡ Some o → h1.pages o.name ≡ h.pages o.name
    left_agrees =
        let inside : i < length ls = slice_get_within ls i x front in
        page_stays x (own.left_shaped.each i x in_left)
        (own.left_shaped.apart (length ls) i l x (λ same. omega (arith, same, inside)) (at_end ls l) in_left)
        (disjoint_back x r (own.apart i (length rs) x r in_left (at_end rs r)))

    left_is : IsShaped t x h1
    left_is = agreeing_shape t x h h1 (own.left_shaped.each i x in_left) read.query.block_len left_agrees

    left_shown : (rows : List (List ℕ)) → HasRows rows x h → HasRows rows x h1
    left_shown rows has = agreeing_rows t x h h1 (own.left_shaped.each i x in_left) read.query.block_len left_agrees rows has

  module _ (i : ℕ) (x : Streamed) (front : slice_get rs i ≡ Some x) where
    in_right : slice_get (rs ++ r ∷ []) i ≡ Some x
    in_right = still_at rs r x i front

    pub right_agrees : (k : ℕ) (o : PageToken) → slice_get x.pages k ≡ Some o → h1.pages o.name ≡ h.pages o.name
    right_agrees =
        let inside : i < length rs = slice_get_within rs i x front in
        page_stays x (own.right_shaped.each i x in_right)
        (own.apart (length ls) i l x (at_end ls l) in_right)
        (own.right_shaped.apart (length rs) i r x (λ same. omega (arith, same, inside)) (at_end rs r) in_right)

    right_is : IsShaped t x h1
    right_is = agreeing_shape t x h h1 (own.right_shaped.each i x in_right) read.query.block_len right_agrees

    right_shown : (rows : List (List ℕ)) → HasRows rows x h → HasRows rows x h1
    right_shown rows has = agreeing_rows t x h h1 (own.right_shaped.each i x in_right) read.query.block_len right_agrees rows has

  left_read : AreShaped t (family (ls ++ l1 ∷ []) h1 s1)
  left_read =
      record {
        each = λ i x at. elim (front_or_behind ls (l1 ∷ []) i x at) [
          | inl front ↦ left_is i x front
          | inr behind ↦ subst (λ (y : Streamed). IsShaped t y h1) (only_one l1 (i - length ls) x behind.1).1 read.left_shape
        ];
        apart = λ i j a b differ first second.
            let wa = was_at ls l l1 (sym left_pages) i a first in
            let wb = was_at ls l l1 (sym left_pages) j b second in
            as_disjoint a b wa.was wb.was wa.pages wb.pages (own.left_shaped.apart i j wa.was wb.was differ wa.place wb.place);
      }

  right_read : AreShaped t (family (rs ++ r1 ∷ []) h1 s1)
  right_read =
      record {
        each = λ i x at. elim (front_or_behind rs (r1 ∷ []) i x at) [
          | inl front ↦ right_is i x front
          | inr behind ↦ subst (λ (y : Streamed). IsShaped t y h1) (only_one r1 (i - length rs) x behind.1).1 read.right_shape
        ];
        apart = λ i j a b differ first second.
            let wa = was_at rs r r1 (sym right_pages) i a first in
            let wb = was_at rs r r1 (sym right_pages) j b second in
            as_disjoint a b wa.was wb.was wa.pages wb.pages (own.right_shaped.apart i j wa.was wb.was differ wa.place wb.place);
      }

  lives_read : IsSome (h1.clients t)
  lives_read = subst (λ (o : Option Account). IsSome o) (sym (read.account own.lives)) (still_some (h.clients t) (unused_of t h1) own.lives)

  pub read_reserves : (account_of t h1).reservation ≡ (account_of t h).reservation
  read_reserves = ap (λ (o : Option Account). (or_else no_account o).reservation) (read.account own.lives) ∙ unused_reservation (h.clients t) (unused_of t h1)

  only_read : (k : ℕ) (page : LivePage) → h1.pages k ≡ Some page → IsOutside k (ls ++ l1 ∷ []) → IsOutside k (rs ++ r1 ∷ []) → page.client ≢ t
  only_read k page lives outside beside mine =
      let lefts : IsOutside k (ls ++ l ∷ []) = λ i x at. let w = was_at ls l1 l left_pages i x at in subst (IsApart k) w.pages (outside i w.was w.place) in
      let rights : IsOutside k (rs ++ r ∷ []) = λ i x at. let w = was_at rs r1 r right_pages i x at in subst (IsApart k) w.pages (beside i w.was w.place) in
      own.only k page ((read.pages k page mine (lefts (length ls) l (at_end ls l)) (rights (length rs) r (at_end rs r))).0 lives) lefts rights mine

  -- the partitions are all that the client has still
  pub read_own : OwnBoth t 0 (ls ++ l1 ∷ []) (rs ++ r1 ∷ []) h1 s1
  read_own =
      record {
        lives = lives_read;
        left_shaped = left_read;
        right_shaped = right_read;
        apart = λ i j a b first second.
            let wa = was_at ls l l1 (sym left_pages) i a first in
            let wb = was_at rs r r1 (sym right_pages) j b second in
            as_disjoint a b wa.was wb.was wa.pages wb.pages (own.apart i j wa.was wb.was wa.place wb.place);
        only = only_read;
        even =
            let a = held_late ls l h h refl in
            let b = held_late rs r h h refl in
            let c = held_late ls l1 h h1 read.query.block_len in
            let d = held_late rs r1 h h1 read.query.block_len in
            let even = own.even in
            let kept = read.unused in
            let same = read_reserves in
            omega (arith, a, b, c, d, even, kept, same);
      }

  -- what all show stays
  pub read_left_shows : h.told ≡ true → (rows : ℕ → List (List ℕ)) → ShowAll rows (family (ls ++ l ∷ []) h s) → ShowAll rows (family (ls ++ l1 ∷ []) h1 s1)
  read_left_shows told rows shows i x at = elim (front_or_behind ls (l1 ∷ []) i x at) [
    | inl front ↦ left_shown i x front (rows i) (shows i x (still_at ls l x i front))
    | inr behind ↦
        let one = only_one l1 (i - length ls) x behind.1 in
        let here : i ≡ length ls = let first = one.0 in let far = behind.0 in omega (arith, first, far) in
        subst (λ (y : Streamed). HasRows (rows i) y h1) one.1 (read.left_rows (rows i) told (shows i l (ap (slice_get (ls ++ l ∷ [])) here ∙ at_end ls l)))
  ]

  pub read_right_shows : h.told ≡ true → (rows : ℕ → List (List ℕ)) → ShowAll rows (family (rs ++ r ∷ []) h s) → ShowAll rows (family (rs ++ r1 ∷ []) h1 s1)
  read_right_shows told rows shows i x at = elim (front_or_behind rs (r1 ∷ []) i x at) [
    | inl front ↦ right_shown i x front (rows i) (shows i x (still_at rs r x i front))
    | inr behind ↦
        let one = only_one r1 (i - length rs) x behind.1 in
        let here : i ≡ length rs = let first = one.0 in let far = behind.0 in omega (arith, first, far) in
        subst (λ (y : Streamed). HasRows (rows i) y h1) one.1 (read.right_rows (rows i) told (shows i r (ap (slice_get (rs ++ r ∷ [])) here ∙ at_end rs r)))
  ]

  pub read_leaves : Grows s s1 → LeavesBeside t client h h1 s s1
  read_leaves grows =
      record {
        block_len = read.query.block_len;
        session = read.query.session;
        query = read.query.query;
        limit = read.query.limit;
        live_clients = read.query.live_clients;
        told = read.query.told;
        reservation = read.query.reservation;
        others = λ u mine theirs. read.others u mine theirs;
        reserved = let same = read_reserves in omega (arith, same);
        room = read.room;
        grows = grows;
      }

  pub read_loans : HasNoLoan t h → HasNoLoan t h1
  read_loans none q loan lives mine = none q loan ((read.loans q loan mine).0 lives) mine
